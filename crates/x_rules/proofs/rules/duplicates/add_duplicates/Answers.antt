use Rattle.std.specs.Cow.{cow_slice_items}
use Rattle.std.proofs.Common.{◌≡◌, ◌+◌, suc, ◌∷◌, ◌++◌, map, drop, ap, sym, ◌∙◌, arith, append_assoc}
use Rattle.std.proofs.Common.{append-nil}
use Rattle.std.specs.Cow.{cow_slice_items}
use Rattle.x_trees.specs.Collected.{view_name}
use Rattle.x_rules.specs.Found.{fault_at, duplicate_code, is_taken_at, duplicates_from}
use Rattle.x_rules.specs.Tables.{place_seen, seen_by}
use Rattle.x_lists.proofs.ListLemmas.{drop_one, drop_none}
use Rattle.x_rules.proofs.rules.duplicates.add_duplicates.Goals as goal

pub loop-place-preserved : goal.loop-place-preserved
loop-place-preserved c =
    let place = c.loop-place.place in
    let all = c.args.declared.now in
    let see = seen_by c.args.sights.now in
    let first = place_seen c.args.sights.now in
    let here = c.index-declared-place.result in
    let rest = map view_name (drop (place + 1) all) in
    let now = c.loop-place.faults.items in
    let next : place + 1 ≡ suc place = omega arith in
    let is : drop place all ≡ here ∷ drop (place + 1) all = drop_one all place here c.loop-place-test.true
    ∙ ap (λ x. x ∷ drop (place + 1) all) (sym c.index-declared-place.is) in
    ap (λ l. l ++ duplicates_from see first (place + 1) rest)
    (c.in_ok-add_fault.ensures ∙ ap (λ code. now ++ fault_at here.word code) (c.duplicate_fault-code.ensures
    ∙ ap (λ name. duplicate_code (is_taken_at see first place name)) c.deref.ensures.value))
    ∙ append_assoc now (fault_at here.word
    (duplicate_code (is_taken_at see first place (cow_slice_items here.name))))
    (duplicates_from see first (place + 1) rest)
    ∙ ap (λ k. now
    ++ (fault_at here.word (duplicate_code (is_taken_at see first place (cow_slice_items here.name)))
    ++ duplicates_from see first k rest)) next
    ∙ sym (ap (λ xs. now ++ duplicates_from see first place (map view_name xs)) is)
    ∙ c.loop-place.invariant

pub returns : goal.returns
returns c =
    let see = seen_by c.args.sights.now in
    let first = place_seen c.args.sights.now in
    sym (append-nil c.loop-place.faults.items)
    ∙ sym (ap (λ xs. c.loop-place.faults.items ++ duplicates_from see first c.loop-place.place
    (map view_name xs)) (drop_none c.args.declared.now c.loop-place.place c.loop-place-test.false))
    ∙ c.loop-place.invariant
