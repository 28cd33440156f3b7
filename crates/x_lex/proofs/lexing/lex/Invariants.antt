use Rattle.std.proofs.Common.{◌-◌, length}
use Rattle.x_lex.proofs.LexedLemmas.{Lexed}
use Rattle.x_lex.proofs.lexing.lex.Given as goal

abbrev pub invariant-loop-at : goal.invariant-loop-at
invariant-loop-at l = Lexed l.bytes l.fn.meter l.meter l.entries.items l.line_start l.at

abbrev pub decreases-loop-at : goal.decreases-loop-at
decreases-loop-at l = length l.bytes - l.at
