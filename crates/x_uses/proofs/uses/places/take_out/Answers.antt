use Rattle.std.proofs.Common.{◌≡◌, take, drop, subst, ◌∙◌, arith}
use Rattle.x_uses.specs.Slots.{front_of, rear_of, sum_of}
use Rattle.x_uses.proofs.PlaceLists.{taken_out}
use Rattle.x_uses.proofs.uses.places.take_out.Goals as goal

pub returns-clause-items : goal.returns-clause-items
returns-clause-items g c =
    let item_of = g.T.AtItem.item_of in
    let p = c.args.place in
    let to = c.saturating_add.ensures in
    let behind = c.count_below-behind.result in
    let seen = c.deref-2.result.now in
    c.truncate.ensures.items
    ∙ taken_out item_of p.at (sum_of p.at p.removed) c.args.places.now.items c.deref.result.now seen
    c.count_below-front.result behind c.saturating_sub-gone.result c.len-len.result
    (omega arith) c.deref.ensures c.deref-2.ensures c.count_below-front.ensures.within
    c.count_below-front.ensures.front c.count_below-behind.ensures.within
    (subst (λ k. take behind seen ≡ front_of item_of k seen) to c.count_below-behind.ensures.front)
    (subst (λ k. drop behind seen ≡ rear_of item_of k seen) to c.count_below-behind.ensures.rear)
    c.saturating_sub-gone.ensures c.len-len.ensures.value c.as_mut_slice.result.now c.rotate_left.new.self
    c.as_mut_slice.ensures.value c.rotate_left.ensures.after
