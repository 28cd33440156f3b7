use Rattle.std.proofs.Common.{◌+◌, ◌∷◌, drop, map, sym, ap, ◌∙◌}
use Rattle.x_trees.specs.Collected.{view_name}
use Rattle.x_trees.specs.View.{view_definition}
use Rattle.x_outline.specs.BodyWalks.{view_body_at}
use Rattle.x_lists.proofs.ListLemmas.{drop_one}
use Rattle.x_clash.specs.Views.{view_all}
use Rattle.x_clash.proofs.TypeLemmas.{types_more}
use Rattle.x_clash.proofs.types.add_types.Goals as goal

pub loop-declared-preserved : goal.loop-declared-preserved
loop-declared-preserved c =
    let d = view_definition c.args.outline.now.definition.now in
    let all = c.deref-declared-items.result.now in
    let here = c.declared-item.result in
    let bodies = map view_body_at c.loop-declared.bodies.now in
    let is = ap (map view_name) (drop_one all c.loop-declared.declared-index here c.loop-declared-test.true
    ∙ ap (λ x. x ∷ drop (c.loop-declared.declared-index + 1) all) (sym c.declared-item.is)) in
    record {
      filled = λ filled. c.bodies_after-bodies.ensures.filled (c.loop-declared.invariant.filled filled);
      names = λ filled.
          types_more d (view_name here) (map view_name (drop c.loop-declared.declared-index all))
          (map view_name (drop (c.loop-declared.declared-index + 1) all)) bodies
          (map view_body_at c.bodies_after-bodies.result.now) (view_all c.loop-declared.list.items)
          (view_all c.add_declared.new.list.items) (view_all c.add_typedef.new.list.items)
          (view_all c.add_body.new.list.items) _ is c.in_ok-add_declared.ensures c.in_ok-add_typedef.ensures
          (c.in_ok-add_body.ensures (c.loop-declared.invariant.filled filled))
          c.bodies_after-bodies.ensures.left
          (c.loop-declared.invariant.names filled);
    }
