use Rattle.std.proofs.Common.{◌≡◌, ◌++◌, drop, map}
use Rattle.x_lex.specs.Places.{lexeme}
use Rattle.x_contents.specs.TokenKinds.{kind_alone}
use Rattle.x_contents.proofs.tokens.kinds_alone.Given as goal

abbrev pub invariant-loop-token : goal.invariant-loop-token
invariant-loop-token l =
    l.kinds.items ++ map (λ t. kind_alone t.kind) (map lexeme (drop l.token-index l.tokens))
    ≡ map (λ t. kind_alone t.kind) (map lexeme l.tokens)
