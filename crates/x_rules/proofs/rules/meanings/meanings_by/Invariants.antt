use Rattle.std.proofs.Common.{◌≡◌, ◌++◌, false, map, drop}
use Rattle.std.specs.List.{list_any}
use Rattle.x_trees.specs.Collected.{view_name}
use Rattle.x_trees.specs.View.{view_definition}
use Rattle.x_outline.specs.Bodies as outline
use Rattle.x_outline.specs.BodyWalks.{view_body_at}
use Rattle.x_rules.specs.Constants.{knowns}
use Rattle.x_rules.specs.KeptViews.{kept_meaning}
use Rattle.x_rules.specs.Results.{meaning_of}
use Rattle.x_rules.specs.Tables.{HasNumbers, seen_by, is_too_high}
use Rattle.x_rules.specs.Types.{heights}
use Rattle.x_rules.proofs.rules.meanings.meanings_by.Given as goal

-- with the meanings of the names that are left, there are those of all
abbrev pub invariant-loop-name : goal.invariant-loop-name
invariant-loop-name l =
    HasNumbers l.constants (outline.enumerators (view_definition l.definition))
    (knowns (seen_by l.sights) (outline.enumerators (view_definition l.definition)))
    → map view_body_at l.bodies ≡ outline.bodies (view_definition l.definition)
    → list_any is_too_high (heights (view_definition l.definition) (seen_by l.sights)) ≡ false
    → map kept_meaning l.list.items ++ map (meaning_of (view_definition l.definition) (seen_by l.sights))
    (map view_name (drop l.name-index l.declared))
    ≡ map (meaning_of (view_definition l.definition) (seen_by l.sights)) (map view_name l.declared)
