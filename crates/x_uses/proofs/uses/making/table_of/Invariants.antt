use Rattle.std.proofs.Common.{◌≡◌, ℕ, List, map, take}
use Rattle.x_trees.specs.View.{tree_at}
use Rattle.x_names.specs.Declarers.{AreShort}
use Rattle.x_uses.specs.Occurrences.{declarers_at, users_at, declarers_of, users_of}
use Rattle.x_uses.specs.Slots.{slot_at}
use Rattle.x_uses.proofs.uses.making.table_of.Given as goal

-- the table has what the items so far declare and see
abbrev pub invariant-loop-index : goal.invariant-loop-index
invariant-loop-index l = record {
  declarers : AreShort (map tree_at l.definitions) → (name : List ℕ)
      → declarers_at (slot_at l.table.entries name)
      ≡ declarers_of 0 (map tree_at (take l.index l.definitions)) name;
  users : AreShort (map tree_at l.definitions) → (name : List ℕ)
      → users_at (slot_at l.table.entries name) ≡ users_of 0 (map tree_at (take l.index l.definitions)) name;
}
