use Rattle.std.proofs.Common.{◌∙◌, ap}
use Rattle.std.proofs.lemmas.List.{take_all}
use Rattle.x_explain.specs.Suggestions.{strange}
use Rattle.x_explain.proofs.likeness.strange.Goals as goal

pub returns : goal.returns
returns c =
    c.loop-byte.invariant.counted
    ∙ ap (λ l. strange l c.args.name.now)
    (take_all c.loop-byte.byte-index c.args.word.now c.loop-byte-test.false)
