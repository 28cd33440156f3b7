use Rattle.std.proofs.Common.{◌≡◌, ◌∙◌, ◌+◌, ◌-◌, ap, not, sym, length, take, arith}
use borrow.Rule.Slice.PartMut.{put_mid}
use Rattle.std.specs.Vec.{with_items}
use Rattle.std.proofs.lemmas.List.{with_items_is}
use Rattle.x_lines.proofs.QueueLemmas.{come_behind, length-filled}
use Rattle.x_frames.proofs.Choices.{on_true}
use Rattle.x_frames.proofs.FrameLemmas.{grown_front}
use Rattle.x_frames.proofs.framing.read_piece.Goals as goal

pub returns-in-Ok-clause-come : goal.returns-in-Ok-clause-come
returns-in-Ok-clause-come g c =
    let n = c.len-len.result in
    let buf = c.deref_mut.result.now in
    let filled = c.take.new.buffer in
    let n_is : n ≡ length c.args.buffer.now.items =
    (let o = c.args.buffer.now.ok in let e = c.len-len.ensures in omega (arith, e, o)) in
    let ok = c.is_err.ensures.negation ∙ ap not c.if-is_err.false in
    let grown = c.resize.ensures.len ∙ on_true _ (n + 65536) _ ok in
    let len : length buf ≡ n + 65536 = c.deref_mut.ensures.len ∙ grown in
    let front = grown_front c.args.buffer.now.items c.resize.new.self.items _ n 65536 _ n_is ok
    c.resize.ensures.items
    ∙ ap (take n) (sym c.deref_mut.ensures.value) in
    let after = (with_items c.resize.new.self (put_mid n (length buf - n) buf filled)).items in
    let h = come_behind c.args.buffer.now.items c.truncate.new.self.items buf filled
    (g.R.Tap.state c.args.tap.now).bytes (g.R.Tap.state c.take.new.self).bytes n c.in-Ok.count
    front (omega (arith, len)) c.take.auto.buffer c.in-Ok.ensures.taken.within c.in-Ok.ensures.taken.taken.0
    c.in-Ok.ensures.taken.taken.1 after
    (c.truncate.ensures.items ∙ ap (λ k. take k after)
    (let e : n + c.in-Ok.count ≡ n + c.in-Ok.count - 0 = omega arith in e))
    (with_items_is c.resize.new.self _ (length-filled buf filled n (omega (arith, len)) c.take.auto.buffer
    ∙ c.deref_mut.ensures.len)) in
    record { come = h.come; from_tap = h.from_tap; new_is = h.new_is }
