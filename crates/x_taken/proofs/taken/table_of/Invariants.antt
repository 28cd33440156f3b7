use Rattle.std.proofs.Common.{◌≡◌, ℕ, List, drop}
use Rattle.x_taken.specs.TakenNames.{entry_in, kind_in, view_lists}
use Rattle.x_taken.proofs.taken.table_of.Given as goal

-- the table has the names of the lists from this one on
abbrev pub invariant-loop-index : goal.invariant-loop-index
invariant-loop-index l = (name : List ℕ)
    → entry_in l.table.entries name ≡ kind_in (view_lists (drop l.index l.lists)) name
