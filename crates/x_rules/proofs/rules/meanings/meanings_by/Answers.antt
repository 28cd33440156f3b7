use Rattle.std.proofs.Common.{◌≡◌, ◌+◌, ◌∷◌, ◌++◌, [], map, drop, ap, sym, ◌∙◌}
use Rattle.std.proofs.lemmas.List.{drop_more}
use Rattle.x_trees.specs.Collected.{view_name}
use Rattle.x_trees.specs.View.{view_definition}
use Rattle.x_rules.specs.KeptViews.{kept_meaning}
use Rattle.x_rules.specs.Results.{meaning_of}
use Rattle.x_rules.specs.Tables.{seen_by}
use Rattle.x_lists.proofs.ListLemmas.{drop_none, map_append}
use Rattle.x_rules.proofs.MeaningLemmas.{mapped_more, mapped_all}
use Rattle.x_rules.proofs.rules.meanings.meanings_by.Goals as goal

pub loop-name-preserved : goal.loop-name-preserved
loop-name-preserved c numbers bodies low =
    let at = c.loop-name.name-index in
    let all = c.args.declared.now in
    let here = c.name-item.result in
    let now = c.loop-name.list.items in
    let kept = c.in_ok-kept.kept in
    let is : drop at all ≡ here ∷ drop (at + 1) all = drop_more all at _ c.loop-name-test.true
    ∙ ap (λ x. x ∷ drop (at + 1) all) (sym c.name-item.is) in
    mapped_more (meaning_of (view_definition c.args.definition.now) (seen_by c.args.sights.now))
    (map kept_meaning now) (map kept_meaning c.push.new.self.items)
    (map view_name (drop at all)) (view_name here) (map view_name (drop (at + 1) all)) _
    (ap (map view_name) is)
    (ap (map kept_meaning) c.in_ok-push.ensures.ok ∙ map_append kept_meaning now (kept ∷ [])
    ∙ ap (λ m. map kept_meaning now ++ m ∷ []) (c.in_ok-kept.ensures numbers bodies low))
    (c.loop-name.invariant numbers bodies low)

pub returns : goal.returns
returns c numbers bodies low =
    mapped_all (meaning_of (view_definition c.args.definition.now) (seen_by c.args.sights.now))
    (map kept_meaning c.loop-name.list.items) _ _
    (ap (map view_name) (drop_none c.args.declared.now c.loop-name.name-index c.loop-name-test.false))
    (c.loop-name.invariant numbers bodies low)
