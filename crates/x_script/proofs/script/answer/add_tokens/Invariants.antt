use Rattle.x_lex.specs.Places.{Lexeme}
use Rattle.x_script.specs.Answers.{token_line}
use Rattle.x_text.proofs.Listing.{HasListed}
use Rattle.x_script.proofs.script.answer.add_tokens.Given as goal

abbrev pub invariant-loop-token : goal.invariant-loop-token
invariant-loop-token g l = HasListed Lexeme token_line l.initial.token-iterator l.token-iterator
    l.initial.pen (g.S.Sink.state l.initial.sink) l.pen (g.S.Sink.state l.sink)
