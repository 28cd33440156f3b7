use Rattle.std.proofs.Common.{Ok, Err, ap, length, arith}
use Rattle.std.proofs.lemmas.Result.{err_from_is_err_and}
use Rattle.x_frames.proofs.FrameLemmas.{body_fails, come_more}
use Rattle.x_frames.proofs.framing.read_body.Goals as goal

pub returns-in_err-read_piece-clause-found : goal.returns-in_err-read_piece-clause-found
returns-in_err-read_piece-clause-found g c =
    let p = err_from_is_err_and c.from_residual.result c.from_residual.ensures.1 in
    let short = c.if-len-head.false in
    rw (p.1, p.2) (body_fails c.in_err-read_piece.field-0.0 c.args.head.now c.pieces.buffer.items
    c.read_piece.new.buffer.items (g.R.Tap.state c.read_piece.new.tap).bytes
    (λ e. c.in_err-read_piece.ensures.other (ap Err e))
    (omega (arith, short)) c.in_err-read_piece.ensures.same)

pub returns-then-branch-eq0-clause-found : goal.returns-then-branch-eq0-clause-found
returns-then-branch-eq0-clause-found g c =
    let end = c.in_ok-read_piece.ensures.end (ap Ok c.if-branch-eq0.true) in
    let same = ap length end.1 in
    let short = c.if-len-head.false in
    (omega (arith, same, short), end.0)

pub returns-in_err-read_piece-clause-come : goal.returns-in_err-read_piece-clause-come
returns-in_err-read_piece-clause-come g c =
    come_more c.args.buffer.now.items c.pieces.buffer.items c.read_piece.new.buffer.items
    (g.R.Tap.state c.args.tap.now).bytes (g.R.Tap.state c.pieces.tap).bytes
    (g.R.Tap.state c.read_piece.new.tap).bytes
    c.pieces.invariant.come c.read_piece.ensures.come
