use Rattle.std.proofs.Common.{◌≡◌, ℕ, List, length, map, take, drop}
use Rattle.x_trees.specs.Collected.{view_name}
use Rattle.std.specs.Option.{option_or}
use Rattle.x_names.specs.Declarers.{place_of_name}
use Rattle.x_names.specs.DeclarerTable.{entry_in}
use Rattle.x_names.proofs.names.add.Given as goal

-- the table has the names from a place on, and those of later items
abbrev pub invariant-loop-declared : goal.invariant-loop-declared
invariant-loop-declared l = record {
  left : l.glossary.declared.items
      ≡ take (length l.glossary.declared.items) l.initial.glossary.declared.items;
  has : (name : List ℕ) → entry_in l.table.entries name
      ≡ option_or (place_of_name l.item (length l.glossary.declared.items) name
      (map view_name (drop (length l.glossary.declared.items) l.initial.glossary.declared.items)))
      (entry_in l.fn.table.entries name);
}

abbrev pub decreases-loop-declared : goal.decreases-loop-declared
decreases-loop-declared l = length l.glossary.declared.items
