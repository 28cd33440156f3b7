use Rattle.std.proofs.Common.{Some, inl, inr, refl, ap, sym, subst, ◌∙◌}
use Rattle.std.specs.Option.{option_copied_mut}
use Rattle.std.proofs.lemmas.Result.{on_ok_weaker, on_err_weaker}
use Rattle.x_uses.specs.Slots.{Changes, HasSameSlots}
use Rattle.x_uses.proofs.TableLemmas.{written}
use Rattle.x_uses.proofs.NoteLemmas.{room_made, rooms_kept, room_there, lists_stay, rooms_stay, on_either}
use Rattle.x_uses.proofs.NoteLemmas.{HadSlot}
use Rattle.x_uses.proofs.uses.room.make_room_at.Goals as goal

pub returns-in-Some : goal.returns-in-Some
returns-in-Some c =
    let old = c.args.table.now in
    let new = c.get_mut.follows.lender c.make_room.new.self in
    let s = c.in-Some.slot.now in
    let w = c.make_room.new.self in
    let there = sym c.get_mut.ensures.value ∙ ap option_copied_mut c.in-Some.is in
    let write = written old new c.args.name.now s w (λ _. Some w) there refl (c.get_mut.follows.holds w) in
    record {
      same = room_made old.entries new.entries c.args.name.now s w (inl there) write c.make_room.ensures.same;
      room = on_ok_weaker c.make_room.result
          (λ has. room_there old.entries new.entries c.args.name.now w c.args.fresh.now write has)
          c.make_room.ensures.room;
      rooms = rooms_kept old.entries new.entries c.args.name.now s w
          (inl there) write c.make_room.ensures.same;
    }

pub returns : goal.returns
returns c =
    let old = c.args.table.now in
    let new = c.insert_slot.new.table in
    let name = c.args.name.now in
    let s = c.new-slot.result in
    let w = c.make_room-2.new.self in
    let none = sym c.get_mut.ensures.value ∙ ap option_copied_mut c.in_default.is in
    let had : HadSlot old.entries name s = inr (none, c.new-slot.ensures) in
    record {
      same = on_either c.insert_slot.result
          (on_ok_weaker c.insert_slot.result
          (λ put. room_made old.entries new.entries name s w had
          (subst (λ m. Changes m.entries new.entries name (λ _. Some w)) c.get_mut.follows.holds-at-none put)
          c.in_ok-make_room.ensures.same) c.insert_slot.ensures.inserted)
          (on_err_weaker c.insert_slot.result
          (λ stay. lists_stay old.entries new.entries
          (subst (λ m. HasSameSlots m.entries new.entries) c.get_mut.follows.holds-at-none stay))
          c.insert_slot.ensures.err);
      room = on_ok_weaker c.insert_slot.result
          (λ put. room_there old.entries new.entries name w c.args.fresh.now
          (subst (λ m. Changes m.entries new.entries name (λ _. Some w)) c.get_mut.follows.holds-at-none put)
          c.in_ok-make_room.ensures.room) c.insert_slot.ensures.inserted;
      rooms = on_either c.insert_slot.result
          (on_ok_weaker c.insert_slot.result
          (λ put. rooms_kept old.entries new.entries name s w had
          (subst (λ m. Changes m.entries new.entries name (λ _. Some w)) c.get_mut.follows.holds-at-none put)
          c.in_ok-make_room.ensures.same) c.insert_slot.ensures.inserted)
          (on_err_weaker c.insert_slot.result
          (λ stay. rooms_stay old.entries new.entries
          (subst (λ m. HasSameSlots m.entries new.entries) c.get_mut.follows.holds-at-none stay))
          c.insert_slot.ensures.err);
    }
