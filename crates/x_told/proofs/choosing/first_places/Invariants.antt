use Rattle.std.proofs.Common.{◌≡◌, ◌++◌, ◌-◌, length}
use Rattle.std.specs.List.{filter}
use Rattle.x_told.specs.Choosing.{is_error}
use Rattle.x_told.proofs.choosing.first_places.Given as goal

-- the places so far and those that are left, and for how many errors there is room behind those so far
abbrev pub invariant-loop-place : goal.invariant-loop-place
invariant-loop-place l = record {
  parts : l.places.items ++ l.place-iterator ≡ l.initial.place-iterator;
  room : l.room ≡ l.most - length (filter is_error l.places.items);
}
