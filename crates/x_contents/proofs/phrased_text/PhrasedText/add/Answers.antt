use Rattle.std.proofs.Common.{◌++◌, ◌∙◌, ap, length, sym}
use Rattle.x_contents.specs.Phrases.{spelt_out}
use Rattle.x_contents.proofs.PhraseLemmas.{own_text}
use Rattle.x_contents.proofs.phrased_text.PhrasedText.add.Goals as goal

pub put-requires : goal.put-requires
put-requires c = ap length (sym (own_text c.args.bytes.now c.requires))

pub returns : goal.returns
returns c =
    c.in_ok-put.ensures
    ∙ ap (λ l. spelt_out c.args.self.now.bytes.items ++ l) (own_text c.args.bytes.now c.requires)
