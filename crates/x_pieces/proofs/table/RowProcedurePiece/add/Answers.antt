use Rattle.std.proofs.Common.{ap}
use Rattle.x_pieces.proofs.PartLemmas.{then_two, then_four}
use Rattle.x_pieces.proofs.table.RowProcedurePiece.add.Goals as goal

pub returns : goal.returns
returns c =
    let number = rw c.deref-2.ensures at c.in_ok-add_decimal.ensures in
    let function = rw (c.deref-3.ensures.value, ap (λ t. t.routine) c.argument_in.ensures, c.deref.ensures) at
    c.in_ok-add.ensures in
    let size = rw c.deref-4.ensures at c.in_ok-add_argument_size.ensures in
    let passed = rw (ap (λ t. t.routine) c.passed_type.ensures) at c.in_ok-add-2.ensures in
    then_two _ _ _ _ _ _ _
    (then_four _ _ _ _ _ _ _ _ _ _ _ c.in_ok-extend_from_slice.ensures.items number function size passed)
    c.in_ok-add_size.ensures c.in_ok-extend_from_slice-2.ensures.items
