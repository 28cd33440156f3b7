-- The tree of a definition of the program.
use Rattle.std.specs.Prelude.{List, [], ◌∷◌, Option, Some, None, map, option_map}
use Rattle.std.specs.Borrow.{Bor}
use Rattle.x_trees.specs.Tree as tree
use Rattle.x_trees.specs.declared.trees.value.Value.{Value}
use Rattle.x_trees.specs.declared.trees.value.Value.TheVariants as values
use Rattle.x_trees.specs.declared.trees.declaration.Length.{Length}
use Rattle.x_trees.specs.declared.trees.declaration.Length.TheVariants as lengths
use Rattle.x_trees.specs.declared.trees.declaration.Shape.{Shape}
use Rattle.x_trees.specs.declared.trees.declaration.Shape.TheVariants as shapes
use Rattle.x_trees.specs.declared.trees.declaration.Enumerator.{Enumerator}
use Rattle.x_trees.specs.declared.trees.declaration.DataType.{DataType}
use Rattle.x_trees.specs.declared.trees.declaration.DataType.TheVariants.{Basic, Named, Tagged, Inline'}
use Rattle.x_trees.specs.declared.trees.declaration.Body.{Body, Row_of-Declaration, end_of-Declaration}
use Rattle.x_trees.specs.declared.trees.declaration.Body.{more_of-Declaration}
use Rattle.x_trees.specs.declared.trees.declaration.Body.TheVariants.{Enum, Struct', Union'}
use Rattle.x_trees.specs.declared.trees.declaration.Declaration.{Declaration}
use Rattle.x_trees.specs.declared.trees.declaration.Declaration.TheVariants.{Void, Of, Opaque, String}
use Rattle.x_trees.specs.declared.trees.declaration.UnionBody.{UnionBody, UnionBody', Row_of-Arm, end_of-Arm}
use Rattle.x_trees.specs.declared.trees.declaration.UnionBody.{more_of-Arm, Held-UnionBody-default, None'}
use Rattle.x_trees.specs.declared.trees.declaration.UnionBody.{Some'}
use Rattle.x_trees.specs.declared.trees.declaration.Arm.{Arm}
use Rattle.x_trees.specs.declared.trees.program.Argument.{Argument}
use Rattle.x_trees.specs.declared.trees.program.Argument.TheVariants as arguments
use Rattle.x_trees.specs.declared.trees.program.Procedure.{Procedure}
use Rattle.x_trees.specs.declared.trees.program.Version.{Version}
use Rattle.x_trees.specs.declared.trees.definition.Definition.{Definition}
use Rattle.x_trees.specs.declared.trees.definition.Definition.TheVariants as definitions

abbrev pub view_value : Value → tree.Value
view_value (values.Number t) = tree.Number t.items
view_value (values.Named t) = tree.Named t.items

-- a value that may be left out
abbrev pub view_most : Option Value → Option tree.Value
view_most None = None
view_most (Some v) = Some (view_value v)

abbrev pub view_length : Length → tree.Length
view_length (lengths.Fixed v) = tree.Fixed (view_value v)
view_length (lengths.Variable v) = tree.Variable (view_most v)

abbrev pub view_shape : Shape → tree.Shape
view_shape shapes.Plain = tree.Plain
view_shape shapes.Optional = tree.Optional
view_shape (shapes.Array l) = tree.Array (view_length l)

abbrev pub view_enumerator : Enumerator → tree.Enumerator
view_enumerator e = record { name = e.name.items; value = view_most e.value }

abbrev mutual
  pub view_type : DataType → tree.DataType
  view_type (Basic b) = tree.Simple b
  view_type (Named t) = tree.Name t.items
  view_type (Tagged tag t) = tree.Tagged tag t.items
  view_type (Inline' p body) = tree.Inline (view_body body)

  pub view_body : Body → tree.Body
  view_body (Enum es) = tree.Enum (map view_enumerator es.items)
  view_body (Struct' shape all) = tree.Struct (view_row all)
  view_body (Union' p u) = view_union u

  pub view_declaration : Declaration → tree.Declaration
  view_declaration Void = tree.Void
  view_declaration (Of t n s) = tree.Of (view_type t) n.items (view_shape s)
  view_declaration (Opaque n l) = tree.Opaque n.items (view_length l)
  view_declaration (String n m) = tree.String n.items (view_most m)

  pub view_union : UnionBody → tree.Body
  view_union (UnionBody' d shape arms default) =
      tree.Union (view_declaration d) (view_arm_row arms) (view_held default)

  pub view_row : {m : _} → Row_of-Declaration m → tree.Declarations
  view_row end_of-Declaration = tree.none
  view_row (more_of-Declaration d rest) = tree.more (view_declaration d) (view_row rest)

  pub view_arm_row : {m : _} → Row_of-Arm m → tree.Arms
  view_arm_row end_of-Arm = tree.no_arm
  view_arm_row (more_of-Arm cases d rest) =
      tree.arm (map view_value cases.items) (view_declaration d) (view_arm_row rest)

  pub view_held : Held-UnionBody-default → tree.Default
  view_held None' = tree.no_default
  view_held (Some' d) = tree.default (view_declaration d)

-- the declarations of a list
abbrev pub view_declarations : List Declaration → tree.Declarations
view_declarations [] = tree.none
view_declarations (d ∷ ds) = tree.more (view_declaration d) (view_declarations ds)

abbrev pub view_arms : List Arm → tree.Arms
view_arms [] = tree.no_arm
view_arms (a ∷ rest) =
    tree.arm (map view_value a.cases.items) (view_declaration a.declaration) (view_arms rest)

abbrev pub view_default : Option Declaration → tree.Default
view_default None = tree.no_default
view_default (Some d) = tree.default (view_declaration d)

abbrev pub view_argument : Argument → tree.Argument
view_argument arguments.String = tree.Text
view_argument (arguments.Of t) = tree.Typed (view_type t)

-- `void` is none
abbrev pub view_passed : Option Argument → Option tree.Argument
view_passed None = None
view_passed (Some a) = Some (view_argument a)

abbrev pub view_procedure : Procedure → tree.Procedure
view_procedure p = record {
  result = view_passed p.result;
  name = p.name.items;
  first = view_passed p.first;
  others = map view_argument p.others.items;
  number = p.number.items;
}

abbrev pub view_version : Version → tree.Version
view_version v =
    record {
      name = v.name.items;
      procedures = map view_procedure v.procedures.items;
      number = v.number.items;
    }

abbrev pub view_definition : Definition → tree.Definition
view_definition (definitions.Const name value) = tree.Const name.items (view_value value)
view_definition (definitions.Typedef d) = tree.Typedef (view_declaration d.value)
view_definition (definitions.NewType name body) = tree.NewType name.items (view_body body)
view_definition (definitions.Program name versions number) =
    tree.Program name.items (map view_version versions.items) number.items

-- the tree of a definition that is lent, if there is one
abbrev pub tree_at : Option (Bor Definition) → Option tree.Definition
tree_at definition = option_map (λ d. view_definition d.now) definition
