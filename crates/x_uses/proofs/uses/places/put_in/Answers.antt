use Rattle.std.proofs.Common.{◌-◌, map, ap}
use Rattle.x_uses.specs.Slots.{sum_of}
use Rattle.x_uses.proofs.PlaceLists.{put_between}
use Rattle.x_uses.proofs.uses.places.put_in.Goals as goal

pub returns-clause-items : goal.returns-clause-items
returns-clause-items g c =
    put_between g.T.AtItem.item_of c.args.at c.args.places.now.items
    (map (λ y. g.T.AtItem.put (sum_of c.args.at (g.T.AtItem.item_of y)) y) c.args.fresh.now)
    c.push_all.new.places.items c.deref.result.now
    c.count_below-front.result (c.len.result - c.count_below-front.result) c.deref.ensures
    c.count_below-front.ensures.within c.count_below-front.ensures.front c.count_below-front.ensures.rear
    (ap (λ n. n - c.count_below-front.result) c.len.ensures.value) c.push_all.ensures.items
    c.as_mut_slice.result.now c.rotate_left.new.self c.as_mut_slice.ensures.value c.rotate_left.ensures.after
