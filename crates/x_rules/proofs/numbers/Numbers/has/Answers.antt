use Rattle.std.proofs.Common.{ap, sym, subst, ◌∙◌, rules}
use Rattle.std.proofs.lemmas.Int.{to_z-of_z}
use Rattle.std.proofs.lemmas.List.Sorted.{answers_always}
use Rattle.std.specs.List.{list_any}
use Rattle.std.specs.Ordering.{int_eq}
use mir.Syntax.{w128}
use mir.Val.{to_z, of_z}
use Rattle.x_rules.specs.NumberSets.{AreAscending}
use Rattle.x_rules.proofs.NumberSetLemmas.{found_number}
use Rattle.x_rules.proofs.numbers.Numbers.has.Goals as goal

pub returns : goal.returns
returns c =
    let number = c.args.number in
    let list = c.as_slice-list.result.now in
    let position = c.binary_search_by_key.ensures.position (λ y. y)
    (answers_always _ _ _ (λ f a r q k. search rules)) in
    let up = subst AreAscending (sym c.as_slice-list.ensures.value) c.self.invariant in
    c.is_ok.ensures.value ∙ found_number (to_z w128 (of_z w128 number)) list c.binary_search_by_key.result up
    c.binary_search_by_key.ensures.bound position
    ∙ ap (λ n. list_any (int_eq n) list) (to_z-of_z w128 number c.ranges.number)
    ∙ ap (list_any (int_eq number)) (c.as_slice-list.ensures.value ∙ c.self.view_is)
