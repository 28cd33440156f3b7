use Rattle.std.specs.Map.Iter.{deref_pair}
use Rattle.std.proofs.lemmas.Map.Iter.{rest_more, rest_all}
use Rattle.std.proofs.Common.{subst}
use Rattle.x_uses.specs.Slots.{going, Changes}
use Rattle.x_uses.proofs.Walks.{walk_starts, walk_goes_on, walk_ends, wanted_of}
use Rattle.x_uses.proofs.uses.replacing.take_out_each.Goals as goal

pub loop-name-init : goal.loop-name-init
loop-name-init c =
    let gives = c.into_iter-name-iterator.ensures.into_iter_gives in
    walk_starts (going c.args.place) c.into_iter-name-iterator.result c.args.gone.now.entries
    c.args.table.now.entries gives.0 gives.4

pub loop-name-preserved : goal.loop-name-preserved
loop-name-preserved c =
    walk_goes_on (going c.args.place) c.loop-name.name-iterator c.next.new.self c.in-Some.name.now
    c.in-Some._slot.now c.loop-name.table.entries c.take_out_near-near.new.table.entries
    (wanted_of (going c.args.place) c.args.gone.now.entries c.args.table.now.entries)
    (rest_more deref_pair c.loop-name.name-iterator c.next.new.self c.next.result
    (c.in-Some.name, c.in-Some._slot) c.in-Some.is c.next.ensures.steps)
    (subst (λ n. Changes c.loop-name.table.entries c.take_out_near-near.new.table.entries n
    (going c.args.place c.in-Some._slot.now)) c.deref.ensures.value c.take_out_near-near.ensures)
    c.loop-name.invariant

pub returns : goal.returns
returns c =
    walk_ends (going c.args.place) c.loop-name.name-iterator c.args.gone.now.entries c.args.table.now.entries
    c.loop-name.table.entries
    (rest_all deref_pair c.loop-name.name-iterator c.next.new.self c.next.result c.in-None.is
    c.next.ensures.steps) c.loop-name.invariant
