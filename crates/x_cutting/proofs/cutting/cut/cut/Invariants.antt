use Rattle.std.proofs.Common.{◌≤◌, length}
use Rattle.std.specs.Prelude.{All}
use Rattle.x_text.specs.declared.text.source.TheConstants.{MAX_TEXT}
use Rattle.x_lex.specs.Places.{lexemes}
use Rattle.x_cutting.specs.ItemList.{counts}
use Rattle.x_cutting.proofs.CutRun.{Cutting}
use Rattle.x_cutting.proofs.cutting.cut.cut.Given as goal

abbrev pub invariant-loop-token : goal.invariant-loop-token
invariant-loop-token g l = record {
  cutting : Cutting (lexemes l.fn.source l.fn.tokens.list) l.token-iterator (counts l.entries.items)
      l.cutter l.count;
  small : length (lexemes l.fn.source l.fn.tokens.list) ≤ MAX_TEXT;
  blank : All (λ item. g.K.Default.is_default item.kept) l.entries.items;
}
