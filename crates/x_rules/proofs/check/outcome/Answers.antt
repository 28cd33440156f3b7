use Rattle.std.proofs.Common.{◌≡◌, List, ℕ, ◌++◌, map, ap, ◌∙◌}
use Rattle.std.proofs.lemmas.Result.{IfOk-weaker}
use Rattle.std.specs.Cow.{cow_slice_items}
use Rattle.x_trees.specs.Collected.{view_mention}
use Rattle.x_trees.specs.Collected.{view_name}
use Rattle.x_trees.specs.Names.{Declared, declared}
use Rattle.x_trees.specs.Seen.{names_of}
use Rattle.x_outline.specs.Outlines.{outlined}
use Rattle.x_rules.proofs.OutlineLemmas.{map_map, outcome_by}
use Rattle.x_rules.proofs.check.outcome.Goals as goal

pub returns : goal.returns
returns c =
    IfOk-weaker c.outcome_seen.result _ _
    (λ checked h o.
    let outline = c.args.outline.now in
    let sights = c.in_ok-sights.sights in
    let d = outlined outline in
    let names =
    ap (map (λ x. cow_slice_items x.name)) c.deref.ensures.value
    ∙ map_map (λ x. x.name) view_name outline.declared.items ∙ ap (map (λ x. x.name)) o.names_are in
    let uses =
    ap (map (λ m. m.name.now)) c.deref-2.ensures.value
    ∙ map_map (λ m. m.name) view_mention outline.mentioned.items ∙ ap (map (λ m. m.name)) o.uses_are in
    let front : List (List ℕ) = map (λ (x : Declared). x.name) (declared d) in
    let seen : map (λ x. x.now) sights.names ≡ names_of d =
    ap (map (λ x. x.now)) (c.in_ok-sights.ensures.names ∙ c.deref-3.ensures)
    ∙ c.in_ok-list_names.ensures c.new-names.ensures.items
    ∙ ap (λ l. l ++ map (λ m. m.name.now) c.deref-2.result.now) names ∙ ap (λ l. front ++ l) uses in
    outcome_by d (map (λ x. x.now) sights.names) sights.views.now c.args.views.now checked seen
    c.in_ok-sights.ensures.views (h o seen))
    c.outcome_seen.ensures
