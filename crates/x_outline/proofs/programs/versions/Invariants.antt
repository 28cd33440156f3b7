use Rattle.std.proofs.Common.{drop, map}
use Rattle.x_trees.specs.View.{view_version}
use Rattle.x_outline.specs.MemberWalks.{WalkState, AddsVersions, place, start}
use Rattle.x_outline.proofs.programs.versions.Given as goal

abbrev pub invariant-loop-version : goal.invariant-loop-version
invariant-loop-version l =
    (to : WalkState) → AddsVersions (place l.walk.word l.groups.items l.members) to
    (map view_version (drop l.version-index l.list))
    → AddsVersions (start 3) to (map view_version l.list)
