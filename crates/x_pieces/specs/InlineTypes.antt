-- The types of a definition that have bodies, each with its name: inline types have lifted names, and each
-- stands before the type that holds it.
use Rattle.std.specs.Prelude.{ℕ, List, [], ◌∷◌, ◌++◌}
use Rattle.x_trees.specs.Tree.{DataType, Simple, Name, Tagged, Inline, Body, Enum, Struct, Union, Declaration}
use Rattle.x_trees.specs.Tree.{Void, Of, Opaque, String}
use Rattle.x_trees.specs.Tree.{Declarations, none, more, Arms, no_arm, arm, Default, no_default, default}
use Rattle.x_trees.specs.Tree.{Definition, Const, Typedef, NewType, Program}
use Rattle.x_trees.specs.Gloss.{lifted_name}
use Rattle.x_trees.specs.Declarations.{name_of}

pub record NamedBody : Type 0 where
  pub name : List ℕ
  pub body : Body

abbrev mutual
  -- an inline type with this lifted name, behind those inside it
  pub types_of_type : List ℕ → DataType → List NamedBody
  types_of_type lifted (Simple b) = []
  types_of_type lifted (Name n) = []
  types_of_type lifted (Tagged tag n) = []
  types_of_type lifted (Inline body) = types_inside lifted body ++ record { name = lifted; body = body } ∷ []

  -- those inside a body whose type has this name
  pub types_inside : List ℕ → Body → List NamedBody
  types_inside name (Enum es) = []
  types_inside name (Struct ds) = types_of_declarations name ds
  types_inside name (Union d arms other) =
      types_of_declaration name d ++ types_of_arms name arms ++ types_of_default name other

  pub types_of_declaration : List ℕ → Declaration → List NamedBody
  types_of_declaration around Void = []
  types_of_declaration around (Of type x shape) = types_of_type (lifted_name around x) type
  types_of_declaration around (Opaque x length) = []
  types_of_declaration around (String x most) = []

  pub types_of_declarations : List ℕ → Declarations → List NamedBody
  types_of_declarations around none = []
  types_of_declarations around (more d ds) = types_of_declaration around d ++ types_of_declarations around ds

  pub types_of_arms : List ℕ → Arms → List NamedBody
  types_of_arms around no_arm = []
  types_of_arms around (arm cases d rest) = types_of_declaration around d ++ types_of_arms around rest

  pub types_of_default : List ℕ → Default → List NamedBody
  types_of_default around no_default = []
  types_of_default around (default d) = types_of_declaration around d

-- the types that a definition writes: an inline type as an argument or a result is a fault, so a program
-- writes none
abbrev pub types_of : Definition → List NamedBody
types_of (Const name value) = []
types_of (Typedef d) = types_of_declaration (name_of d) d
types_of (NewType name body) = types_inside name body ++ record { name = name; body = body } ∷ []
types_of (Program name versions number) = []
