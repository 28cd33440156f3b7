use Rattle.std.specs.Prelude.{not, pos}
use Rattle.std.specs.List.{list_any}
use Rattle.std.specs.Ordering.{int_eq}
use Rattle.std.proofs.Common.{◌≡◌, ◌+◌, ◌++◌, take, drop, get_or, ap, ◌∙◌}
use Rattle.x_rules.specs.Found.{fault_at, repeated_code}
use Rattle.x_rules.specs.FirstPlaces.{first_from, is_behind}
use Rattle.x_rules.specs.declared.rules.repeats.Numbered.{Numbered}
use Rattle.x_lists.proofs.ListLemmas.{drop_one}
use Rattle.x_rules.proofs.FirstLemmas.{behind_first}
use Rattle.x_rules.proofs.NumberLemmas.{counted_next, number_more}
use Rattle.x_rules.proofs.rules.repeats.add_repeated_numbers.Goals as goal

pub loop-place-preserved : goal.loop-place-preserved
loop-place-preserved c =
    let place = c.loop-place.place in
    let ns = c.args.numbers.now in
    let d : Numbered = record { number = pos 0; word = 0 } in
    let here = get_or ns place d in
    let among : c.has_earlier-is_new.result ≡ list_any (λ n. int_eq here.number n.number) (take place ns) =
    c.has_earlier-is_new.ensures
    ∙ ap (λ l. is_behind (first_from (λ n. int_eq here.number n.number) 0 l) place) c.in_ok-places.ensures
    ∙ behind_first (λ n. int_eq here.number n.number) ns place in
    counted_next (λ z. list_any (λ n. int_eq z n.number) (take place ns))
    (λ z. list_any (λ n. int_eq z n.number) (take (place + 1) ns)) c.args.code c.loop-place.faults.items _ _
    (drop place ns) here (drop (place + 1) ns) (drop_one ns place d c.loop-place-test.true)
    (number_more ns place d c.loop-place-test.true)
    (c.in_ok-add_fault.ensures ∙ ap (λ code. c.loop-place.faults.items ++ fault_at here.word code)
    (c.number_fault.ensures ∙ ap (λ b. repeated_code c.args.code (not b)) among))
    c.loop-place.invariant
