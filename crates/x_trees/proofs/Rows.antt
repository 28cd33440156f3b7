-- The lists of a tree as the program holds them, and as lists.
use Rattle.std.proofs.Common.{◌≡◌, map, Option, Some, None, refl, ap, sym, ◌∙◌}
use Rattle.x_trees.specs.Tree as tree
use Rattle.x_trees.specs.View.{view_body, view_declaration, view_row, view_declarations, view_arm_row}
use Rattle.x_trees.specs.View.{view_arms, view_value, view_union, view_held, view_default}
use Rattle.x_trees.specs.declared.trees.declaration.Body.{Row_of-Declaration, end_of-Declaration}
use Rattle.x_trees.specs.declared.trees.declaration.Body.{more_of-Declaration, items-the_row-Declaration}
use Rattle.x_trees.specs.declared.trees.declaration.Body.{items_hidden-the_row-Declaration-0}
use Rattle.x_trees.specs.declared.trees.declaration.Body.TheVariants.{Struct}
use Rattle.x_trees.specs.declared.trees.declaration.Body.TheBlock.{hidden-the_row-Declaration-0}
use Rattle.x_trees.specs.declared.trees.declaration.Body.TheBlock.{hidden-the_row-Arm-1}
use Rattle.x_trees.specs.declared.trees.declaration.UnionBody.{Row_of-Arm, end_of-Arm, more_of-Arm}
use Rattle.x_trees.specs.declared.trees.declaration.UnionBody.{items-the_row-Arm, items_hidden-the_row-Arm-1}
use Rattle.x_trees.specs.declared.trees.declaration.UnionBody.{back-UnionBody-default, roll-UnionBody}
use Rattle.x_trees.specs.declared.trees.declaration.UnionBody.{rolls-UnionBody', UnionBody, out-UnionBody}
use Rattle.x_trees.specs.declared.trees.declaration.UnionBody.{roll-out-UnionBody}
use Rattle.x_trees.specs.declared.trees.declaration.Declaration.{Declaration}
use Rattle.x_trees.specs.declared.trees.declaration.Arm.{Arm}
use Rattle.std.specs.declared.vec.Vec.{Vec}
use Rattle.std.specs.declared.alloc.Global.{Global}

row_view : {m : _} (row : Row_of-Declaration m)
    → view_row row ≡ view_declarations (items-the_row-Declaration _ row)
row_view end_of-Declaration = refl
row_view (more_of-Declaration d rest) = ap (tree.more (view_declaration d)) (row_view rest)

arm_row_view : {m : _} (row : Row_of-Arm m) → view_arm_row row ≡ view_arms (items-the_row-Arm _ row)
arm_row_view end_of-Arm = refl
arm_row_view (more_of-Arm cases d rest) =
    ap (tree.arm (map view_value cases.items) (view_declaration d)) (arm_row_view rest)

pub struct_view : (body : Vec Declaration Global)
    → view_body (Struct body) ≡ tree.Struct (view_declarations body.items)
struct_view body = ap tree.Struct (row_view (hidden-the_row-Declaration-0 body)
    ∙ ap view_declarations (items_hidden-the_row-Declaration-0 body))

held_view : (d : Option Declaration) → view_held (back-UnionBody-default d) ≡ view_default d
held_view None = refl
held_view (Some d) = refl

pub union_view : (d : Declaration) (arms : Vec Arm Global) (default : Option Declaration)
    → view_union (roll-UnionBody record { discriminant = d; arms = arms; default = default })
    ≡ tree.Union (view_declaration d) (view_arms arms.items) (view_default default)
union_view d arms default =
    ap view_union (rolls-UnionBody' record { discriminant = d; arms = arms; default = default })
    ∙ ap (λ a. tree.Union (view_declaration d) a (view_held (back-UnionBody-default default)))
    (arm_row_view (hidden-the_row-Arm-1 arms) ∙ ap view_arms (items_hidden-the_row-Arm-1 arms))
    ∙ ap (tree.Union (view_declaration d) (view_arms arms.items)) (held_view default)

-- the parts of the body of a union
pub union_parts : (u : UnionBody)
    → view_union u ≡ tree.Union (view_declaration (out-UnionBody u).discriminant)
    (view_arms (out-UnionBody u).arms.items) (view_default (out-UnionBody u).default)
union_parts u = ap view_union (sym (roll-out-UnionBody u))
    ∙ union_view (out-UnionBody u).discriminant (out-UnionBody u).arms (out-UnionBody u).default
