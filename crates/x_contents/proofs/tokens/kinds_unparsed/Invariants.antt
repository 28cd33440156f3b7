use Rattle.std.proofs.Common.{◌≡◌, ◌++◌, drop, map}
use Rattle.x_lex.specs.Places.{lexeme}
use Rattle.x_names.specs.DeclarerTable.{first_in}
use Rattle.x_contents.specs.TokenKinds.{kind_unparsed}
use Rattle.x_contents.proofs.tokens.kinds_unparsed.Given as goal

abbrev pub invariant-loop-token : goal.invariant-loop-token
invariant-loop-token l =
    l.kinds.items ++ map (λ t. kind_unparsed (first_in l.names) t.kind t.text)
    (map lexeme (drop l.token-index l.tokens))
    ≡ map (λ t. kind_unparsed (first_in l.names) t.kind t.text) (map lexeme l.tokens)
