use Rattle.std.proofs.Common.{sym, ◌∙◌}
use Rattle.std.proofs.lemmas.Result.{on_ok_weaker}
use Rattle.x_pieces.proofs.PartLemmas.{then_two}
use Rattle.x_pieces.proofs.header.add_union_lines.Goals as goal

pub returns : goal.returns
returns c = on_ok_weaker c.add.result
    (λ last. rw (sym c.are_void.ensures ∙ c.if-are_void.false)
    (then_two _ _ _ _ _ _ _ c.in_ok-extend_from_slice.ensures.items c.in_ok-add_arms.ensures last))
    c.add.ensures
