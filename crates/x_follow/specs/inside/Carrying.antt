-- What is known of the items while an edit's changes are put in place.
use Rattle.std.specs.Prelude.{◌≡◌, ℕ, ◌-◌, ◌≤◌, List, map, Option, None, Some}
use Rattle.x_streams.specs.Counters.{raised}
use Rattle.x_cutting.specs.ItemList.{ItemChange}
use Rattle.x_follow.specs.Moves.{Changed, changed_entry, changed_items, moves, seat_behind, splice_of}

-- so many entries moved so far, and the seat is there, while these changes are left of all
pub record HasMoved (seat : ℕ) (all : List Changed) (moved now : ℕ) (left : List Changed) : Type 0 where
  pub moves_are : raised 0 (moves seat all) ≡ raised moved (moves now left)
  pub seat_is : seat_behind seat all ≡ seat_behind now left

-- Between two counts of a list's moves so many entries moved as this counter says, which stays at the
-- greatest number.
pub record IsCounted (old new counter : ℕ) : Type 0 where
  pub rises : old ≤ new
  pub counter_is : counter ≡ raised 0 (new - old)

-- what is left to change where the patch is still to be carried out, or was
abbrev pub left_changes : {K : Type 0} → Option (ItemChange K) → List ℕ → List Changed
left_changes None ks = map (λ k. changed_entry k k) ks
left_changes (Some p) ks = changed_items (splice_of p) ks
