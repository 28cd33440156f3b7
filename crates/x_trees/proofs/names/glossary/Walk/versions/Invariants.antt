use Rattle.std.proofs.Common.{drop, map, true}
use Rattle.x_trees.specs.Gloss.{glossed, versions_by}
use Rattle.x_trees.specs.View.{view_version}
use Rattle.x_trees.specs.Collected.{ReadsOn}
use Rattle.x_trees.proofs.names.glossary.Walk.versions.Given as goal

abbrev pub invariant-loop-version : goal.invariant-loop-version
invariant-loop-version l =
    ReadsOn l.fn.self l.self (versions_by glossed true (map view_version l.versions))
    (versions_by glossed true (map view_version (drop l.version-index l.versions)))
