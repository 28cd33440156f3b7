use Rattle.std.proofs.Common.{◌∷◌, [], map, ap, ◌∙◌, arith}
use Rattle.std.specs.Prelude.{option_and_then}
use Rattle.std.proofs.lemmas.List.{map-append}
use Rattle.x_trees.specs.View.{tree_at}
use Rattle.x_cutting.specs.declared.cutting.item_entry.ItemEntry.{ItemEntry}
use Rattle.x_compile.specs.KeptView.{kept_definition}
use Rattle.x_compile.specs.declared.content.Content.{Content}
use Rattle.x_follow.proofs.CountingLemmas.{definitions_next}
use Rattle.x_follow.proofs.naming.fresh_definitions.Goals as goal

pub loop-index-preserved : goal.loop-index-preserved
loop-index-preserved c =
    let es = c.args.patch.now.fresh in
    let lt = c.loop-index-test.true in
    let end = c.len-index-end.ensures in
    let o = c.definition_of.result in
    definitions_next es c.loop-index.index (map tree_at c.loop-index.definitions.items)
    (map tree_at c.push.new.self.items) (tree_at o) (omega (arith, lt, end)) c.loop-index.invariant
    (ap (map tree_at) c.in_ok-push.ensures.items ∙ map-append tree_at c.loop-index.definitions.items (o ∷ []))
    (c.definition_of.ensures
    ∙ ap (option_and_then (λ (e : ItemEntry Content). kept_definition e.kept)) c.get.ensures)
