use Rattle.std.proofs.Common.{◌-◌, length, slice_range, refl}
use Rattle.std.proofs.lemmas.List.{take_rest}
use Rattle.x_directives.proofs.BetweenLemmas.{makes_new}
use Rattle.x_directives.proofs.between.edit_between.Goals as goal

pub returns-clause-makes : goal.returns-clause-makes
returns-clause-makes c =
    let old = c.args.old.now in
    let new = c.args.new.now in
    let front = c.front_length-start in
    let rear = c.rear_length-rear in
    let start = front.result in
    let insert = slice_range new start (length new - rear.result) in
    makes_new old new start rear.result insert (slice_range old start (length old))
    (slice_range new start (length new)) front.ensures.in_old front.ensures.in_new front.ensures.same
    (take_rest old start) (take_rest new start) rear.ensures.in_old rear.ensures.in_new rear.ensures.same refl
