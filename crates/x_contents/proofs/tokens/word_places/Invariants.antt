use Rattle.std.proofs.Common.{◌≡◌, ◌++◌, drop, map}
use Rattle.x_lex.specs.Places.{lexeme}
use Rattle.x_contents.specs.TokenKinds.{word_places}
use Rattle.x_contents.proofs.tokens.word_places.Given as goal

abbrev pub invariant-loop-place : goal.invariant-loop-place
invariant-loop-place l =
    l.places.items ++ word_places l.place (map lexeme (drop l.place l.tokens)) ≡ word_places 0
    (map lexeme l.tokens)
