use Rattle.std.proofs.Common.{◌≡◌, ◌+◌, suc, [], ◌++◌, map, drop, get_or, ap, sym, ◌∙◌, arith, append_assoc}
use Rattle.std.proofs.Common.{append-nil}
use Rattle.std.specs.Str.{bytes_eq}
use Rattle.x_rules.specs.Found.{fault_at, repeat_code, repeats_from}
use Rattle.x_rules.specs.FirstPlaces.{first_from, first_place, is_behind}
use Rattle.x_outline.specs.Parts.{view_name_at}
use Rattle.x_outline.specs.declared.parts.NameAt.{NameAt}
use Rattle.x_rules.proofs.FirstLemmas.{first_named}
use Rattle.x_lists.proofs.ListLemmas.{drop_one, drop_none}
use Rattle.x_rules.proofs.rules.repeats.add_repeated_names.Goals as goal

pub loop-place-preserved : goal.loop-place-preserved
loop-place-preserved c =
    let place = c.loop-place.place in
    let all = c.args.names.now in
    let first = first_place 0 (map (λ x. x.name) (map view_name_at all)) in
    let d : NameAt = record { word = 0; name = record { ref_ptr = (0, 0); now = [] } } in
    let here = get_or all place d in
    let rest = map view_name_at (drop (place + 1) all) in
    let now = c.loop-place.faults.items in
    let next : place + 1 ≡ suc place = omega arith in
    let found = ap (first_from (λ x. bytes_eq here.name.now x.name.now) 0) c.in_ok-places.ensures
    ∙ first_named (λ x. x.name) view_name_at all here.name.now in
    ap (λ l. l ++ repeats_from first (place + 1) rest)
    (c.in_ok-add_fault.ensures ∙ ap (λ code. now ++ fault_at here.word code) (c.name_fault-code.ensures
    ∙ ap repeat_code (c.has_before.ensures ∙ ap (λ o. is_behind o place) found)))
    ∙ append_assoc now (fault_at here.word (repeat_code (is_behind (first here.name.now) place)))
    (repeats_from first (place + 1) rest)
    ∙ ap (λ k. now ++ (fault_at here.word (repeat_code (is_behind (first here.name.now) place))
    ++ repeats_from first k rest)) next
    ∙ sym (ap (λ xs. now ++ repeats_from first place (map view_name_at xs))
    (drop_one all place d c.loop-place-test.true))
    ∙ c.loop-place.invariant

pub returns : goal.returns
returns c =
    let first = first_place 0 (map (λ x. x.name) (map view_name_at c.args.names.now)) in
    sym (append-nil c.loop-place.faults.items)
    ∙ sym (ap (λ xs. c.loop-place.faults.items ++ repeats_from first c.loop-place.place (map view_name_at xs))
    (drop_none c.args.names.now c.loop-place.place c.loop-place-test.false))
    ∙ c.loop-place.invariant
