use Rattle.std.proofs.Common.{◌++◌, sym, ap, ◌∙◌}
use Rattle.std.proofs.lemmas.Result.{on_ok_weaker}
use Rattle.x_pieces.proofs.HeaderLemmas.{forward_of_struct}
use Rattle.x_pieces.proofs.header.add_forward.Goals as goal

pub returns-in_default : goal.returns-in_default
returns-in_default c =
    on_ok_weaker c.add.result
    (λ last. last ∙ ap (λ l. c.args.text.now.items ++ l)
    (sym (forward_of_struct _ c.args.named.now.body.now c.in_default.not-Enum)))
    (rw (c.deref.ensures.value, c.deref-in_default.ensures.value) at c.add.ensures)
