use Rattle.std.proofs.Common.{◌≡◌, None, drop, map}
use Rattle.x_lex.specs.Places.{lexeme}
use Rattle.x_questions.specs.Writing.{last_number}
use Rattle.x_questions.proofs.written.number_in.Given as goal

abbrev pub invariant-loop-token : goal.invariant-loop-token
invariant-loop-token l = last_number l.number (map lexeme (drop l.token-index l.tokens)) ≡ last_number None
    (map lexeme l.tokens)
