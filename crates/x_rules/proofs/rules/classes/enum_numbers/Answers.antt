use Rattle.std.proofs.Common.{◌≡◌, ◌+◌, ◌∷◌, ◌++◌, [], map, drop, ap, sym, ◌∙◌, rules}
use Rattle.std.proofs.lemmas.Int.{to_z-of_z}
use Rattle.std.proofs.lemmas.List.{drop_more}
use mir.Syntax.{w32}
use mir.Val.{SFits}
use Rattle.x_trees.specs.View.{view_enumerator}
use Rattle.x_rules.specs.Constants.{number_named}
use Rattle.x_rules.specs.Types.{enum_number}
use Rattle.x_rules.proofs.ClassLemmas.{with_all_start, with_all, with_all_more, with_all_none, with_all_end}
use Rattle.x_lists.proofs.ListLemmas.{drop_none}
use Rattle.x_rules.proofs.rules.classes.enum_numbers.Goals as goal

pub loop-enumerator-init : goal.loop-enumerator-init
loop-enumerator-init c all known h =
    let os = map (λ e. enum_number (number_named known e.name))
    (map view_enumerator c.args.enumerators.now) in
    ap (λ l. with_all l os) c.new-numbers.ensures.items ∙ with_all_start os

pub returns-in_default : goal.returns-in_default
returns-in_default c all known h =
    let at = c.loop-enumerator.enumerator-index in
    let es = c.args.enumerators.now in
    let here = c.enumerator-item.result in
    let is : drop at es ≡ here ∷ drop (at + 1) es = drop_more es at _ c.loop-enumerator-test.true
    ∙ ap (λ x. x ∷ drop (at + 1) es) (sym c.enumerator-item.is) in
    let rest = map (λ e. enum_number (number_named known e.name)) (map view_enumerator (drop (at + 1) es)) in
    let none = sym (c.in_default.ensures
    ∙ ap enum_number (c.number_named.ensures all known h ∙ ap (number_named known) c.deref.ensures)) in
    with_all_none c.loop-enumerator.numbers.items _ rest _
    (ap (λ l. map (λ e. enum_number (number_named known e.name)) (map view_enumerator l)) is
    ∙ ap (λ o. o ∷ rest) none)
    (c.loop-enumerator.invariant all known h)

pub loop-enumerator-preserved : goal.loop-enumerator-preserved
loop-enumerator-preserved c all known h =
    let at = c.loop-enumerator.enumerator-index in
    let es = c.args.enumerators.now in
    let here = c.enumerator-item.result in
    let is : drop at es ≡ here ∷ drop (at + 1) es = drop_more es at _ c.loop-enumerator-test.true
    ∙ ap (λ x. x ∷ drop (at + 1) es) (sym c.enumerator-item.is) in
    let rest = map (λ e. enum_number (number_named known e.name)) (map view_enumerator (drop (at + 1) es)) in
    let some = sym (c.in-Some.ensures
    ∙ ap enum_number (c.number_named.ensures all known h ∙ ap (number_named known) c.deref.ensures)) in
    let fits : SFits w32 c.in-Some.number = search rules in
    let now = c.loop-enumerator.numbers.items in
    with_all_more now c.push.new.self.items c.in-Some.number _ rest _
    (ap (λ l. map (λ e. enum_number (number_named known e.name)) (map view_enumerator l)) is
    ∙ ap (λ o. o ∷ rest) some)
    (c.in_ok-push.ensures.items ∙ ap (λ z. now ++ z ∷ []) (to_z-of_z w32 c.in-Some.number fits))
    (c.loop-enumerator.invariant all known h)

pub returns : goal.returns
returns c all known h =
    with_all_end c.loop-enumerator.numbers.items _ _
    (ap (λ l. map (λ e. enum_number (number_named known e.name)) (map view_enumerator l))
    (drop_none c.args.enumerators.now c.loop-enumerator.enumerator-index c.loop-enumerator-test.false))
    (c.loop-enumerator.invariant all known h)
