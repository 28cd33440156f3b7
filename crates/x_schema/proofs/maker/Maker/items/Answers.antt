use Rattle.std.proofs.Common.{◌≡◌, ◌+◌, ◌++◌, ◌∷◌, [], map, take, ap, sym, subst, ◌∙◌}
use Rattle.std.proofs.lemmas.List.{take_more}
use Rattle.x_trees.specs.View.{tree_at}
use Rattle.x_schema.specs.SchemaMaking.{FindsItems}
use Rattle.x_lists.proofs.ListLemmas.{map_append}
use Rattle.x_schema.proofs.MakerItems.{finds_more}
use Rattle.x_schema.proofs.maker.Maker.items.Goals as goal

pub loop-definition-preserved : goal.loop-definition-preserved
loop-definition-preserved c =
    let i = c.loop-definition.definition-index in
    let all = c.args.definitions.now in
    let item = c.definition-item.result in
    let one : take (i + 1) all ≡ take i all ++ item ∷ [] = take_more all i item c.loop-definition-test.true
    ∙ ap (λ x. take i all ++ x ∷ []) (sym c.definition-item.is) in
    subst (λ ds. FindsItems c.args.self.now c.item.new.self c.args.known.now c.item.new.known ds)
    (sym (map_append tree_at (take i all) (item ∷ [])) ∙ ap (map tree_at) (sym one))
    (finds_more c.args.self.now c.loop-definition.self c.item.new.self c.args.known.now
    c.loop-definition.known c.item.new.known (map tree_at (take i all))
    (tree_at item) c.loop-definition.invariant c.in_ok-item.ensures)
