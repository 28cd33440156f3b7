use Rattle.std.proofs.Common.{map, ◌∙◌}
use Rattle.x_lex.specs.Places.{lexeme}
use Rattle.x_contents.specs.Reading.{told_of}
use Rattle.x_contents.specs.Tokens.{with_tokens}
use Rattle.x_contents.proofs.tokens.ToldTokens.add_item.Goals as goal

pub returns-clause-told : goal.returns-clause-told
returns-clause-told c = λ parse parsed is.
    c.in_ok-add_tokens.ensures.told
    ∙ (λ k. with_tokens c.args.self.now.places.encoding (c.bytes.ensures.text k)
    ((c.deref.ensures.value ∙ c.in_ok-kinds.ensures parse parsed is) k) (told_of c.args.self.now) 0
    (map lexeme c.args.tokens.now))
