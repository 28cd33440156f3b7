use Rattle.std.proofs.Common.{◌≡◌, ◌++◌, ap, ◌∙◌}
use Rattle.std.specs.Prelude.{codes}
use Rattle.std.specs.List.{flat_map}
use Rattle.x_frames.specs.ListTexts.{ended}
use Rattle.x_contents.specs.Tokens.{number_text}
use Rattle.x_contents.proofs.TokenLemmas.{tokens_text_is}
use Rattle.x_contents.proofs.tokens.numbers_text.Goals as goal

pub returns : goal.returns
returns c =
    let list_is : c.deref.result.now ≡ ended (codes "["
    ++ flat_map number_text c.args.numbers.now) = c.deref.ensures.value ∙ c.in_ok-list.ensures in
    let one = c.in_ok-extend_from_slice.ensures.items ∙ (λ i. c.in_ok-text.ensures.items i ++ list_is i) in
    c.in_ok-extend_from_slice-2.ensures.items ∙ ap (λ l. l ++ codes "}") one
    ∙ tokens_text_is c.args.numbers.now
