use Rattle.std.proofs.Common.{◌≡◌, ◌∙◌, ◌+◌, ◌-◌, Ok, Err, ap, drop, refl, subst, sym, length, arith}
use Rattle.std.proofs.lemmas.Result.{err_from_is_err_and}
use Rattle.x_frames.specs.FrameSteps.{HasPassed}
use Rattle.x_frames.proofs.FrameLemmas.{fewer_so, passed_all, passed_fewer, passed_front, passed_none}
use Rattle.x_frames.proofs.framing.pass.Goals as goal

pub pieces-init : goal.pieces-init
pieces-init g c =
    let count = c.args.count in
    let all : 0 ≡ count - count = omega arith in
    record {
      passed = subst (λ n. HasPassed n c.args.buffer.now.items c.args.buffer.now.items
          (g.R.Tap.state c.args.tap.now).bytes (g.R.Tap.state c.args.tap.now).bytes) all
          (passed_none c.args.buffer.now.items (g.R.Tap.state c.args.tap.now).bytes);
      within = omega arith;
      failed = refl;
    }

pub returns-then-left-here-clause-passes : goal.returns-then-left-here-clause-passes
returns-then-left-here-clause-passes g c =
    let old = c.args.buffer.now.items in
    let mid = c.pieces.buffer.items in
    let left = (g.R.Tap.state c.args.tap.now).bytes in
    let left' = (g.R.Tap.state c.pieces.tap).bytes in
    let inside = c.pieces.invariant.within in
    let here = c.len-here.ensures in
    let fits = c.if-left-here.true in
    let all : c.args.count - c.pieces.left + c.pieces.left ≡ c.args.count = omega (arith, inside) in
    subst (λ l. HasPassed c.args.count old l left left') (sym c.drop_front.ensures)
    (subst (λ n. HasPassed n old (drop c.pieces.left mid) left left') all
    (passed_front (c.args.count - c.pieces.left) c.pieces.left old mid left left'
    c.pieces.invariant.passed (omega (arith, here, fits))))

pub pieces-preserved : goal.pieces-preserved
pieces-preserved g c =
    let old = c.args.buffer.now.items in
    let mid = c.pieces.buffer.items in
    let new = c.next_piece.new.buffer.items in
    let left = (g.R.Tap.state c.args.tap.now).bytes in
    let left' = (g.R.Tap.state c.pieces.tap).bytes in
    let left'' = (g.R.Tap.state c.next_piece.new.tap).bytes in
    let inside = c.pieces.invariant.within in
    let more = c.if-left-here.false in
    let here = c.len-here.ensures in
    let all : c.args.count - c.pieces.left + length mid ≡ c.args.count -
    (c.pieces.left - c.len-here.result) = omega (arith, inside, more, here) in
    record {
      passed = subst (λ n. HasPassed n old new left left'') all
          (passed_all (c.args.count - c.pieces.left) old mid new left left' left'' c.pieces.invariant.passed
          c.next_piece.ensures.come);
      within = omega (arith, inside);
      failed = c.in_ok-next_piece.ensures.failed ∙ c.pieces.invariant.failed;
    }

pub returns-in_err-next_piece-clause-passes : goal.returns-in_err-next_piece-clause-passes
returns-in_err-next_piece-clause-passes g c =
    let p = err_from_is_err_and c.from_residual.result c.from_residual.ensures.1 in
    let inside = c.pieces.invariant.within in
    let more = c.if-left-here.false in
    let here = c.len-here.ensures in
    rw (p.1, p.2) (fewer_so c.in_err-next_piece.field-0.0
    (c.args.count - c.pieces.left) c.args.count c.args.buffer.now.items c.pieces.buffer.items
    c.next_piece.new.buffer.items
    (g.R.Tap.state c.args.tap.now).bytes (g.R.Tap.state c.pieces.tap).bytes
    (g.R.Tap.state c.next_piece.new.tap).bytes
    (λ e. c.in_err-next_piece.ensures.other
    (ap Err e)) c.pieces.invariant.passed c.next_piece.ensures.come
    c.in_err-next_piece.ensures.same (omega (arith, inside, more, here)))

pub returns-then-branch-eq0-clause-passes : goal.returns-then-branch-eq0-clause-passes
returns-then-branch-eq0-clause-passes g c =
    let end = c.in_ok-next_piece.ensures.end (ap Ok c.if-branch-eq0.true) in
    let inside = c.pieces.invariant.within in
    let more = c.if-left-here.false in
    let here = c.len-here.ensures in
    let few = passed_all
    (c.args.count - c.pieces.left) c.args.buffer.now.items c.pieces.buffer.items
    c.next_piece.new.buffer.items
    (g.R.Tap.state c.args.tap.now).bytes (g.R.Tap.state c.pieces.tap).bytes
    (g.R.Tap.state c.next_piece.new.tap).bytes c.pieces.invariant.passed c.next_piece.ensures.come in
    let none = ap length end.1 in (
      passed_fewer _ c.args.count c.args.buffer.now.items c.next_piece.new.buffer.items
          (g.R.Tap.state c.args.tap.now).bytes (g.R.Tap.state c.next_piece.new.tap).bytes few
          (omega (arith, inside, more, here, none)),
      end.0,
    )
