use Rattle.std.proofs.Common.{◌+◌, ap, drop, map, sym, ◌∙◌}
use Rattle.std.proofs.lemmas.List.{drop_more}
use Rattle.x_lex.specs.Places.{lexeme}
use Rattle.x_positions.specs.Positions.{EncodedText}
use Rattle.x_contents.specs.Reading.{told_of}
use Rattle.x_contents.specs.Tokens.{with_tokens}
use Rattle.x_contents.proofs.tokens.ToldTokens.add_tokens.Goals as goal

pub loop-place-preserved : goal.loop-place-preserved
loop-place-preserved c =
    let encoding = c.loop-place.self.places.encoding in
    let shown = c.args.shown.now in
    let kinds = c.args.kinds.now in
    let place = c.loop-place.place in
    let rest = drop (place + 1) c.args.tokens.now in
    let front = drop_more c.args.tokens.now place _ c.loop-place-test.true in
    record {
      told = ap (λ (t : EncodedText). with_tokens t.encoding shown kinds (told_of c.add_token.new.self)
          (place + 1) (map lexeme rest)) c.add_token.ensures.places
          ∙ ap (λ t. with_tokens encoding shown kinds t (place + 1)
          (map lexeme rest)) c.in_ok-add_token.ensures.told
          ∙ sym (ap (λ l. with_tokens encoding shown kinds (told_of c.loop-place.self) place
          (map lexeme l)) front)
          ∙ c.loop-place.invariant.told;
      places = c.add_token.ensures.places ∙ c.loop-place.invariant.places;
    }
