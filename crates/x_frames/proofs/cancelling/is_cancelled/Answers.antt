use Rattle.std.proofs.Common.{[], ◌∷◌, ◌++◌, refl}
use Rattle.x_frames.proofs.CancelLemmas.{framed_then}
use Rattle.x_frames.proofs.cancelling.is_cancelled.Goals as goal

pub loop-init : goal.loop-init
loop-init c = ([], refl)

pub loop-preserved : goal.loop-preserved
loop-preserved c =
    let inv = c.loop.invariant in (
      inv.0 ++ c.in-Some.body.now ∷ [],
      framed_then inv.0 c.args.bytes.now c.loop.rest.now c.in-Some.body.now c.in-Some.behind.now inv.1
          c.in-Some.ensures,
    )

pub returns-then-cancels : goal.returns-then-cancels
returns-then-cancels c is =
    let inv = c.loop.invariant in
    record {
      before = inv.0;
      next = c.loop.rest.now;
      body = c.in-Some.body.now;
      rest = c.in-Some.behind.now;
      are_framed = inv.1;
      is_framed = c.in-Some.ensures;
      cancels = c.if-cancels.ensures refl;
    }
