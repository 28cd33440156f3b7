use Rattle.std.proofs.Common.{◌-◌, ◌∙◌, sym, ap, take, length, arith, refl}
use Rattle.std.proofs.lemmas.List.{with_items_is}
use Rattle.x_lines.proofs.QueueLemmas.{come_behind, length-filled}
use Rattle.x_lines.proofs.byte_queue.ByteQueue.read.Goals as goal

pub returns-in-Ok-take-clause-come : goal.returns-in-Ok-take-clause-come
returns-in-Ok-take-clause-come g c =
    let n = c.self.inside.end - c.self.inside.start in
    come_behind c.args.self.now _ c.deref_mut.result.now c.take.new.buffer
    (g.R.Tap.state c.args.tap.now).bytes (g.R.Tap.state c.take.new.self).bytes n c.in-Ok-take.count
    (sym c.self.view_is ∙ sym c.move_to_front.ensures.moved ∙ sym c.make_room.ensures.same
    ∙ ap (take n) (sym c.deref_mut.ensures.value))
    (let room = c.in-Ok.ensures.room in let len = ap length c.deref_mut.ensures.value in
    omega arith) c.take.auto.buffer c.in-Ok-take.ensures.taken.within c.in-Ok-take.ensures.taken.taken.0
    c.in-Ok-take.ensures.taken.taken.1 _ refl
    (with_items_is c.make_room.new.buffer _
    (length-filled c.deref_mut.result.now c.take.new.buffer n (let room = c.in-Ok.ensures.room in
    let len = ap length c.deref_mut.ensures.value in omega arith) c.take.auto.buffer
    ∙ c.deref_mut.ensures.len))
