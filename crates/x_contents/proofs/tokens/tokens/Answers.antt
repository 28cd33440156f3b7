use Rattle.std.proofs.Common.{ap, ◌∙◌}
use Rattle.serde_json.specs.Written.{compact_text}
use Rattle.x_names.specs.DeclarerTable.{first_in}
use Rattle.x_session.specs.ItemWalks.{over_items}
use Rattle.x_positions.specs.Positions.{EncodedText}
use Rattle.x_contents.specs.Reading.{told_of}
use Rattle.x_contents.specs.Tokens.{tokens_data, with_item_tokens}
use Rattle.x_contents.proofs.TokenLemmas.{all_told}
use Rattle.x_contents.proofs.tokens.tokens.Goals as goal

pub returns : goal.returns
returns c =
    let shown = c.args.shown.now in
    let encoding_is = ap (λ (t : EncodedText). t.encoding) c.of.ensures in
    let added = c.in_ok-add_items.ensures in
    let all = all_told c.args.session.now.text c.args.encoding shown (first_in c.in_ok-names.names)
    (told_of c.add_items.new.self) (
      added.0,
      added.1,
      added.2,
      added.3 ∙ (λ i. over_items
          (with_item_tokens (encoding_is i) shown (first_in c.in_ok-names.names))
          (record {
            numbers = c.new.ensures.items i;
            before = record
                { line = 0; character = 0 };
          }) added.1),
    ) c.in_ok-names.ensures in (
      all.0,
      all.1,
      all.2,
      c.in_ok-text.ensures ∙ ap (λ n. compact_text (tokens_data n))
          (c.deref.ensures.value ∙ all.3),
    )
