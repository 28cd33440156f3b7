use Rattle.std.proofs.lemmas.Result.{on_ok_weaker}
use Rattle.x_pieces.proofs.PartLemmas.{then_two}
use Rattle.x_pieces.proofs.program_header.ProcedureLinesProcedurePiece.add.Goals as goal

pub returns : goal.returns
returns c =
    let group = rw c.deref.ensures at c.in_ok-add_group_lines.ensures in
    let constant = rw (c.deref-2.ensures, c.deref-3.ensures) at c.in_ok-add_constant.ensures in
    on_ok_weaker c.add_functions.result (λ last. then_two _ _ _ _ _ _ _ group constant last)
    c.add_functions.ensures
