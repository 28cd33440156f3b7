use Rattle.std.proofs.Common.{◌∙◌, ◌++◌, ap}
use Rattle.std.specs.List.{list_all}
use Rattle.x_contents.specs.Phrases.{is_own, spelt_out}
use Rattle.x_contents.proofs.PhraseLemmas.{number_own}
use Rattle.x_contents.proofs.phrased_text.PhrasedText.add_number.Goals as goal

pub add-requires : goal.add-requires
add-requires c =
    ap (list_all is_own) (c.as_bytes.ensures.value ∙ c.format.ensures.text)
    ∙ number_own c.args.number c.ranges.number.fits

pub returns : goal.returns
returns c =
    c.in_ok-add.ensures
    ∙ ap (λ l. spelt_out c.args.self.now.bytes.items ++ l) (c.as_bytes.ensures.value ∙ c.format.ensures.text)
