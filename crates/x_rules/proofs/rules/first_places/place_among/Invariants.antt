use Rattle.std.proofs.Common.{◌≡◌, drop}
use Rattle.x_rules.specs.FirstPlaces.{first_from}
use Rattle.x_rules.proofs.rules.first_places.place_among.Given as goal

-- the first place is among the items that are left
abbrev pub invariant-loop-place : goal.invariant-loop-place
invariant-loop-place g l =
    first_from (λ x. g.T.Keyed.has_key x l.key) l.place (drop l.place l.items)
    ≡ first_from (λ x. g.T.Keyed.has_key x l.key) 0 l.items
