use Rattle.std.proofs.Common.{◌≡◌, ℕ, List, length, map, take, drop}
use Rattle.std.specs.Option.{option_or}
use Rattle.x_trees.specs.Collected.{view_name}
use Rattle.x_compile.specs.Compile.{Item}
use Rattle.x_session.specs.DeclaredNames.{IsTableOf}
use Rattle.x_explain.specs.AgainNames.{again_among, entry_at, name_at}
use Rattle.x_explain.proofs.again.add.Given as goal

-- the table has what is declared again from a place on, and in later items
abbrev pub invariant-loop-name : goal.invariant-loop-name
invariant-loop-name l = record {
  left : l.glossary.declared.items ≡ take (length l.glossary.declared.items) l.fn.glossary.declared.items;
  has : (text : List ℕ) (items : List Item) → IsTableOf text items l.declared → (start : ℕ)
      → entry_at l.table.entries start
      ≡ option_or (name_at (again_among items l.item (map view_name l.glossary.declared.items)
      (map view_name (drop (length l.glossary.declared.items) l.fn.glossary.declared.items))) start)
      (entry_at l.fn.table.entries start);
}

abbrev pub decreases-loop-name : goal.decreases-loop-name
decreases-loop-name l = length l.glossary.declared.items
