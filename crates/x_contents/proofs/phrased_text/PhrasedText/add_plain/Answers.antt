use Rattle.std.proofs.Common.{◌∙◌, ◌∷◌, ◌++◌, [], ap, append_assoc, sym}
use Rattle.x_contents.specs.Phrases.{spelt_out}
use Rattle.x_contents.proofs.PhraseLemmas.{plain_own}
use Rattle.x_contents.proofs.StringTextLemmas.{plain_text}
use Rattle.x_contents.proofs.phrased_text.PhrasedText.add_plain.Goals as goal

pub add-requires-2 : goal.add-requires-2
add-requires-2 c = plain_own c.args.bytes.now c.requires

pub returns : goal.returns
returns c =
    let old = spelt_out c.args.self.now.bytes.items in
    let bytes = c.args.bytes.now in
    c.in_ok-add-3.ensures
    ∙ ap (λ l. l ++ 34 ∷ []) (c.in_ok-add-2.ensures ∙ ap (λ l. l ++ bytes) c.in_ok-add.ensures)
    ∙ ap (λ l. l ++ 34 ∷ []) (append_assoc old (34 ∷ []) bytes)
    ∙ append_assoc old (34 ∷ bytes) (34 ∷ [])
    ∙ ap (λ l. old ++ l) (sym (plain_text bytes c.requires))
