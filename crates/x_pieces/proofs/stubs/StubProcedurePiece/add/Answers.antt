use Rattle.std.proofs.Common.{ap}
use Rattle.std.proofs.lemmas.Result.{on_ok_weaker}
use Rattle.x_pieces.proofs.PartLemmas.{then_three}
use Rattle.x_pieces.proofs.stubs.StubProcedurePiece.add.Goals as goal

pub returns : goal.returns
returns c =
    let head = rw (
      c.deref-2.ensures.value,
      ap (λ t. t.name) c.passed_type-passed.ensures,
      ap (λ t. t.name) c.argument_in-argument.ensures,
      c.deref.ensures,
    ) at c.in_ok-add_head.ensures in
    let call = rw (
      c.deref-3.ensures,
      ap (λ t. t.routine) c.passed_type-passed.ensures,
      ap (λ t. t.routine) c.argument_in-argument.ensures,
      c.deref.ensures,
    ) at c.in_ok-add_call.ensures in
    on_ok_weaker c.add_end.result
    (λ last. then_three _ _ _ _ _ _ _ _ _ head c.in_ok-add_kept.ensures call last) c.add_end.ensures
