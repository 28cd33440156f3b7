use Rattle.std.proofs.Common.{◌∷◌, [], map, ap, ◌∙◌, arith}
use Rattle.std.specs.Prelude.{option_and_then}
use Rattle.std.proofs.lemmas.List.{map-append}
use Rattle.x_trees.specs.View.{tree_at}
use Rattle.x_cutting.specs.declared.cutting.item_entry.ItemEntry.{ItemEntry}
use Rattle.x_compile.specs.KeptView.{kept_definition}
use Rattle.x_compile.specs.declared.content.Content.{Content}
use Rattle.x_follow.proofs.CountingLemmas.{definitions_behind}
use Rattle.x_follow.proofs.naming.removed_definitions.Goals as goal

pub loop-index-preserved : goal.loop-index-preserved
loop-index-preserved c =
    let es = c.args.items.now.list in
    let lt = c.loop-index-test.true in
    let le = c.loop-index.auto.index in
    let from = c.at-index.ensures in
    let at = c.at.ensures in
    let removed = c.removed.ensures in
    let among = c.requires in
    let o = c.definition_of.result in
    definitions_behind es c.args.patch.now.at c.loop-index.index (map tree_at c.loop-index.definitions.items)
    (map tree_at c.push.new.self.items) (tree_at o) (omega (arith, le, from))
    (omega (arith, lt, at, removed, among))
    c.loop-index.invariant (ap (map tree_at) c.in_ok-push.ensures.items
    ∙ map-append tree_at c.loop-index.definitions.items (o ∷ []))
    (c.definition_of.ensures
    ∙ ap (option_and_then (λ (e : ItemEntry Content). kept_definition e.kept)) c.get.ensures)
