use Rattle.std.proofs.Common.{◌∙◌, ◌++◌, ap}
use Rattle.std.specs.List.{list_all}
use Rattle.std.specs.Str.Lossy.{utf8_lossy}
use Rattle.x_contents.specs.Phrases.{is_own, spelt_out}
use Rattle.x_contents.proofs.PhraseLemmas.{string_own}
use Rattle.x_contents.proofs.phrased_text.PhrasedText.add_string.Goals as goal

pub add-requires : goal.add-requires
add-requires c =
    ap (list_all is_own) (c.deref.ensures.value ∙ c.in_ok-string_text.ensures)
    ∙ string_own (utf8_lossy c.args.bytes.now)

pub returns : goal.returns
returns c =
    c.in_ok-add.ensures
    ∙ ap (λ l. spelt_out c.args.self.now.bytes.items ++ l)
    (c.deref.ensures.value ∙ c.in_ok-string_text.ensures)
