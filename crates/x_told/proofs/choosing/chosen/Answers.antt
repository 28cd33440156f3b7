use Rattle.std.proofs.Common.{◌≡◌, ◌+◌, ◌-◌, ◌≤◌, ◌∙◌, ap, arith, length}
use Rattle.std.specs.Prelude.{IfOk}
use Rattle.std.specs.List.{filter}
use Rattle.x_session.proofs.DeclaredLemmas.{ok_then}
use Rattle.x_told.specs.Choosing.{chosen, is_consequence, is_error, left_out, with_first}
use Rattle.x_told.proofs.ChosenLemmas.{all_chosen, none_lost}
use Rattle.x_told.proofs.choosing.chosen.Goals as goal

pub returns-then-len-most-clause-chosen : goal.returns-then-len-most-clause-chosen
returns-then-len-most-clause-chosen c =
    let few = c.if-len-most.true in
    let long = c.len.ensures in
    all_chosen c.args.most c.args.told.items (omega (arith, few, long))

pub returns-then-len-most-clause-counted : goal.returns-then-len-most-clause-counted
returns-then-len-most-clause-counted c =
    let few = c.if-len-most.true in
    let long = c.len.ensures in
    omega (arith, few, long)

-- the first ones that there is room for are those that are chosen
are : (c : goal.After-drop-told)
    → IfOk c.first_of.result (λ list. list.items ≡ chosen c.args.most c.args.told.items)
are c =
    let most = c.args.most in
    let errors = c.error_count.ensures ∙ ap (λ l. length (filter is_error l)) c.deref.ensures.value in
    let room = c.saturating_sub-room.ensures ∙ ap (λ n. most - n) errors in
    ok_then c.first_of.result (λ list is. is
    ∙ (λ i. with_first (room i) is_consequence (with_first most is_error (c.deref-2.ensures.value i))))
    c.first_of.ensures

pub returns-clause-chosen : goal.returns-clause-chosen
returns-clause-chosen c = are c

pub returns-clause-counted : goal.returns-clause-counted
returns-clause-counted c =
    let most = c.args.most in
    let told = c.args.told.items in
    ok_then c.first_of.result (λ list is. ap (λ l. length l + left_out most told) is ∙ none_lost most told)
    (are c)
