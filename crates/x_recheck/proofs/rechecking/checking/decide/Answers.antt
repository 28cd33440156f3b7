use Rattle.std.proofs.Common.{◌≡◌, ◌<◌, ℕ, None, Some, length, map, ap, refl, sym, subst, ◌∙◌}
use Rattle.x_trees.specs.Collected.{view_name}
use Rattle.x_trees.specs.View.{view_definition}
use Rattle.x_trees.specs.View.{tree_at}
use Rattle.x_outline.specs.Outlines.{IsOutline, outlined}
use Rattle.x_rules.specs.Results.{result_at}
use Rattle.x_recheck.specs.Editing.{definition_at, definitions_after}
use Rattle.x_recheck.specs.inside.Deciding.{IsFoundAs, text_edit, is_waiting}
use Rattle.x_recheck.specs.Staleness.{result_after}
use Rattle.x_recheck.specs.declared.rechecking.Rechecked.{Rechecked}
use Rattle.x_recheck.proofs.CandidateLemmas.{short_at}
use Rattle.x_recheck.proofs.Numbering.{short_after}
use Rattle.x_recheck.proofs.NextLemmas.{decided_anew, decided_same, unchanged_none}
use Rattle.x_recheck.proofs.rechecking.checking.decide.Goals as goal

pub returns-in_default-clause-decided : goal.returns-in_default-clause-decided
returns-in_default-clause-decided g c after waits are decided stay =
    let e = text_edit g.L.CheckedItems.text c.args.items.now in
    let none : definition_at (definitions_after e) c.args.item ≡ None = sym c.definition.ensures
    ∙ ap tree_at c.in_default.is in
    decided_same e after waits (is_waiting c.args.queue.now) c.args.rechecked.now.items c.args.item
    c.requires.items.edit are decided (unchanged_none e after c.args.item none) stay

pub returns-in_default-2-clause-decided : goal.returns-in_default-2-clause-decided
returns-in_default-2-clause-decided g c after waits are decided stay =
    let e = text_edit g.L.CheckedItems.text c.args.items.now in
    let item = c.args.item in
    let outline = c.in_ok-outline.outline in
    let same : outlined outline ≡ view_definition c.in-Some.definition.now =
    ap (λ r. view_definition r.now) c.in_ok-outline.ensures.definition in
    let has : definition_at (definitions_after e) item ≡ Some (outlined outline) = sym c.in-Some.ensures
    ∙ ap Some (sym same) in
    let is : IsOutline outline =
    c.in_ok-outline.ensures.outline
    (short_at (definitions_after e) item (view_definition c.in-Some.definition.now)
    (short_after e c.requires.items.edit) (sym c.in-Some.ensures)) in
    let so_far = subst (λ l. (j : ℕ) → j < item → result_after e l j ≡ result_at after j)
    (sym c.deref.ensures.value) decided.each in
    let found = subst (IsFoundAs e after item) c.in_default-2.is
    (c.in_ok-checked.ensures.found after are so_far is has) in
    decided_same e after waits (is_waiting c.args.queue.now) c.args.rechecked.now.items item
    c.requires.items.edit are decided found stay

pub returns-clause-decided : goal.returns-clause-decided
returns-clause-decided g c after waits are decided stay =
    let e = text_edit g.L.CheckedItems.text c.args.items.now in
    let item = c.args.item in
    let outline = c.in_ok-outline.outline in
    let checked = c.in-Some-2.checked in
    let same : outlined outline ≡ view_definition c.in-Some.definition.now =
    ap (λ r. view_definition r.now) c.in_ok-outline.ensures.definition in
    let has : definition_at (definitions_after e) item ≡ Some (outlined outline) = sym c.in-Some.ensures
    ∙ ap Some (sym same) in
    let is : IsOutline outline =
    c.in_ok-outline.ensures.outline
    (short_at (definitions_after e) item (view_definition c.in-Some.definition.now)
    (short_after e c.requires.items.edit) (sym c.in-Some.ensures)) in
    let so_far = subst (λ l. (j : ℕ) → j < item → result_after e l j ≡ result_at after j)
    (sym c.deref.ensures.value) decided.each in
    let found = subst (IsFoundAs e after item) c.in-Some-2.is
    (c.in_ok-checked.ensures.found after are so_far is has) in
    let r : Rechecked = record { item = item; checked = checked } in
    let names = c.declared.result.now in
    let listed = ap (map view_name) c.declared.ensures ∙ is.names_are in
    decided_anew e after waits c.args.queue.now c.tell.new.queue c.args.rechecked.now.items
    c.push.new.self.items r item (length (definitions_after e)) (outlined outline) names decided
    refl has listed found c.in_ok-tell.ensures.adds stay c.in_ok-tell.ensures.told c.in_ok-push.ensures.items
