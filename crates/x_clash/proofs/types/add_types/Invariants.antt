use Rattle.std.proofs.Common.{◌≡◌, ◌++◌, drop, map}
use Rattle.x_trees.specs.Collected.{view_name}
use Rattle.x_trees.specs.View.{view_definition}
use Rattle.x_outline.specs.BodyWalks.{AreFilled, view_body_at}
use Rattle.x_clash.specs.Given.{type_names}
use Rattle.x_clash.specs.Views.{view_all}
use Rattle.x_clash.proofs.types.add_types.Given as goal

-- those so far and those that are left
abbrev pub invariant-loop-declared : goal.invariant-loop-declared
invariant-loop-declared l = record {
  filled : AreFilled l.outline.bodies.items → AreFilled l.bodies;
  names : AreFilled l.outline.bodies.items
      → view_all l.list.items ++ type_names (view_definition l.outline.definition.now)
      (map view_name (drop l.declared-index l.declared-items)) (map view_body_at l.bodies)
      ≡ view_all l.fn.list.items ++ type_names (view_definition l.outline.definition.now)
      (map view_name l.outline.declared.items) (map view_body_at l.outline.bodies.items);
}
