use Rattle.std.proofs.Common.{◌≡◌, drop}
use Rattle.std.specs.Map.{lookup}
use Rattle.x_rules.specs.FirstPlaces.{first_from}
use Rattle.x_rules.proofs.rules.first_places.fill.Given as goal

-- the table has the first places among the items from this one on
abbrev pub invariant-loop-place : goal.invariant-loop-place
invariant-loop-place g l =
    (key : _) → lookup (g.K.PartialEq.eq key) l.table.entries
    ≡ first_from (λ x. g.T.Keyed.has_key x key) l.place (drop l.place l.items)
