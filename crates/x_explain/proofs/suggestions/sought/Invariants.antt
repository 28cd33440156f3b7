use Rattle.std.proofs.Common.{◌≡◌, ◌≤◌, ◌++◌, length, take}
use Rattle.std.specs.List.{filter}
use Rattle.x_explain.specs.Suggestions.{is_unknown, sought}
use Rattle.x_explain.proofs.suggestions.sought.Given as goal

-- the places so far, and those that are left
abbrev pub invariant-loop-place : goal.invariant-loop-place
invariant-loop-place l = (length l.places.items ≤ 16)
    × (take 16 (l.places.items ++ filter (λ p. is_unknown p.code) l.place-iterator)
    ≡ sought l.initial.place-iterator)
