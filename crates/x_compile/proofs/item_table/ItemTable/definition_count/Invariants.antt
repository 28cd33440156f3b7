use Rattle.std.proofs.Common.{◌≡◌, ◌+◌, ◌≤◌, length}
use Rattle.x_text.specs.declared.text.source.TheConstants.{MAX_TEXT}
use Rattle.x_compile.specs.Definitions.{numbered}
use Rattle.x_compile.specs.KeptView.{entry_definitions}
use Rattle.x_compile.proofs.item_table.ItemTable.definition_count.Given as goal

-- how many there are so far, and how many among the items that are left
abbrev pub invariant-loop-entry : goal.invariant-loop-entry
invariant-loop-entry l = record {
  few : l.count + length l.entry-iterator ≤ MAX_TEXT + 1;
  all : l.count + length (numbered 0 (entry_definitions l.entry-iterator))
      ≡ length (numbered 0 (entry_definitions l.initial.entry-iterator));
}
