use Rattle.std.proofs.Common.{map}
use Rattle.x_lex.specs.Places.{lexeme}
use Rattle.x_cutting.proofs.NextLemmas.{IsWithin}
use Rattle.x_cutting.proofs.cutting.next_item.next_item.Given as goal

abbrev pub invariant-loop-token : goal.invariant-loop-token
invariant-loop-token l = IsWithin l.fn.walk (map lexeme l.tokens.items) l.walk l.cutter
