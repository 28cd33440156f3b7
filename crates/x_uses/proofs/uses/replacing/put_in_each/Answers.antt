use Rattle.std.specs.Map.Iter.{deref_pair}
use Rattle.std.proofs.lemmas.Map.Iter.{rest_more, rest_all}
use Rattle.x_uses.specs.Occurrences.{HasRoom}
use Rattle.x_uses.specs.Slots.{coming, slot_at, RoomFor, Changes}
use Rattle.std.proofs.Common.{subst, sym}
use Rattle.x_uses.proofs.Walks.{walk_starts, walk_goes_on, walk_ends, wanted_of, room_here, room_goes_on}
use Rattle.x_uses.proofs.uses.replacing.put_in_each.Goals as goal

pub loop-name-init : goal.loop-name-init
loop-name-init c =
    let gives = c.into_iter-name-iterator.ensures.into_iter_gives in
    record {
      walked = walk_starts (coming c.args.at) c.into_iter-name-iterator.result c.args.fresh.now.entries
          c.args.table.now.entries gives.0 gives.4;
      room = subst (RoomFor c.args.table.now.entries) (sym gives.0) c.requires;
    }

pub put_in_at-requires : goal.put_in_at-requires
put_in_at-requires c =
    subst (λ n. HasRoom (slot_at c.loop-name.table.entries n) c.in-Some.slot.now) (sym c.deref.ensures.value)
    (room_here c.loop-name.name-iterator c.next.new.self c.in-Some.name.now c.in-Some.slot.now
    c.loop-name.table.entries
    (rest_more deref_pair c.loop-name.name-iterator c.next.new.self c.next.result
    (c.in-Some.name, c.in-Some.slot) c.in-Some.is c.next.ensures.steps) c.loop-name.invariant.room)

pub loop-name-preserved : goal.loop-name-preserved
loop-name-preserved c =
    let next = rest_more deref_pair c.loop-name.name-iterator c.next.new.self c.next.result
    (c.in-Some.name, c.in-Some.slot) c.in-Some.is c.next.ensures.steps in
    let wanted = wanted_of (coming c.args.at) c.args.fresh.now.entries c.args.table.now.entries in
    let step = subst (λ n. Changes c.loop-name.table.entries c.put_in_at.new.table.entries n
    (coming c.args.at c.in-Some.slot.now)) c.deref.ensures.value c.put_in_at.ensures in
    record {
      walked = walk_goes_on (coming c.args.at) c.loop-name.name-iterator c.next.new.self c.in-Some.name.now
          c.in-Some.slot.now c.loop-name.table.entries c.put_in_at.new.table.entries wanted next step
          c.loop-name.invariant.walked;
      room = room_goes_on (coming c.args.at) c.loop-name.name-iterator c.next.new.self c.in-Some.name.now
          c.in-Some.slot.now c.loop-name.table.entries c.put_in_at.new.table.entries wanted next step
          c.loop-name.invariant.walked c.loop-name.invariant.room;
    }

pub returns : goal.returns
returns c =
    walk_ends (coming c.args.at) c.loop-name.name-iterator c.args.fresh.now.entries c.args.table.now.entries
    c.loop-name.table.entries
    (rest_all deref_pair c.loop-name.name-iterator c.next.new.self c.next.result c.in-None.is
    c.next.ensures.steps) c.loop-name.invariant.walked
