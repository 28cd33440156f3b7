use Rattle.std.proofs.Common.{◌++◌, Ok, Err, ap, subst, sym}
use Rattle.std.proofs.lemmas.Result.{err_from_is_err_and}
use Rattle.std.specs.Prelude.{IfSome}
use Rattle.httparse.specs.Grammar.{HasNoSection}
use Rattle.x_frames.specs.Framing.{IsUnframed}
use Rattle.x_frames.specs.FrameSteps.{FrontIs}
use Rattle.x_frames.proofs.FrameLemmas.{come_more, empty_by, front_fails, piece_fails, none_at_end}
use Rattle.x_frames.proofs.framing.read_head.Goals as goal

pub returns-in_err-head-clause-found : goal.returns-in_err-head-clause-found
returns-in_err-head-clause-found g c =
    let p = err_from_is_err_and c.from_residual.result c.from_residual.ensures.1 in
    rw (p.1, p.2) (front_fails c.in_err-head.field-0.0 c.pieces.buffer.items
    (g.R.Tap.state c.pieces.tap).bytes
    (subst (FrontIs (Err c.in_err-head.field-0.0)) c.deref.ensures.value c.in_err-head.ensures))

pub returns-in_err-read_piece-clause-found : goal.returns-in_err-read_piece-clause-found
returns-in_err-read_piece-clause-found g c =
    let p = err_from_is_err_and c.from_residual-in_err-read_piece.result
    c.from_residual-in_err-read_piece.ensures.1 in
    let none = rw c.in_default.is at c.in_ok-head.ensures in
    rw (p.1, p.2) (piece_fails c.in_err-read_piece.field-0.0 c.pieces.buffer.items
    c.read_piece.new.buffer.items (g.R.Tap.state c.read_piece.new.tap).bytes
    (λ e. c.in_err-read_piece.ensures.other (ap Err e))
    (subst HasNoSection c.deref.ensures.value none) c.in_err-read_piece.ensures.same)

pub returns-else-is_empty-clause-found : goal.returns-else-is_empty-clause-found
returns-else-is_empty-clause-found g c =
    let left = (g.R.Tap.state c.read_piece.new.tap).bytes in
    let end = c.in_ok-read_piece.ensures.end (ap Ok c.if-branch-eq0.true) in
    let none = rw c.in_default.is at c.in_ok-head.ensures in
    subst (λ b. IfSome left (λ later. IsUnframed (b ++ later))) (sym end.1)
    (none_at_end c.pieces.buffer.items left (subst HasNoSection c.deref.ensures.value none) end.0)

pub returns-in_err-read_piece-clause-come : goal.returns-in_err-read_piece-clause-come
returns-in_err-read_piece-clause-come g c =
    come_more c.args.buffer.now.items c.pieces.buffer.items c.read_piece.new.buffer.items
    (g.R.Tap.state c.args.tap.now).bytes (g.R.Tap.state c.pieces.tap).bytes
    (g.R.Tap.state c.read_piece.new.tap).bytes
    c.pieces.invariant.come c.read_piece.ensures.come

pub returns-then-is_empty-clause-found : goal.returns-then-is_empty-clause-found
returns-then-is_empty-clause-found g c =
    let end = c.in_ok-read_piece.ensures.end (ap Ok c.if-branch-eq0.true) in
    let buffer = c.read_piece.new.buffer in
    (empty_by buffer.items _ c.is_empty.result c.is_empty.ensures c.if-is_empty.true buffer.ok.0, end.0)
