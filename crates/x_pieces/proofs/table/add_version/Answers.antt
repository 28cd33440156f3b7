use Rattle.std.proofs.lemmas.Result.{on_ok_weaker}
use Rattle.x_pieces.proofs.PartLemmas.{then_three}
use Rattle.x_pieces.proofs.table.add_version.Goals as goal

pub returns : goal.returns
returns c =
    let front = rw (c.deref.ensures.value, c.in_ok-table.ensures) at c.in_ok-add.ensures in
    on_ok_weaker c.add_count.result
    (λ last. then_three _ _ _ _ _ _ _ _ _ front c.in_ok-add_procedures.ensures
    c.in_ok-extend_from_slice.ensures.items last)
    (rw (c.deref-2.ensures.value, c.in_ok-table.ensures) at c.add_count.ensures)
