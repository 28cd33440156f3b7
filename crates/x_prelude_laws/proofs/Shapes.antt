-- What the lines of a prelude define.
use Rattle.std.specs.Prelude.{ℕ, List, [], ◌∷◌, ◌++◌, None, Some, codes, decimal}
use Rattle.x_trees.specs.Tree as tree
use Rattle.x_trees.specs.declared.trees.declaration.Basic.{Basic}
use Rattle.x_trees.specs.declared.trees.declaration.Basic.TheVariants as basics

abbrev pub typedef_of : Basic → List ℕ → tree.Definition
typedef_of b name = tree.Typedef (tree.Of (tree.Simple b) name tree.Plain)

abbrev pub netobj_of : tree.Definition
netobj_of =
    tree.Typedef (tree.Opaque (codes "netobj") (tree.Variable (Some (tree.Number (codes "1024")))))

abbrev pub struct_of : List ℕ → tree.Definition
struct_of name =
    tree.NewType name
    (tree.Struct (tree.more (tree.Opaque (codes "unknown") (tree.Variable None)) tree.none))

abbrev pub union_of : List ℕ → tree.Definition
union_of name =
    tree.NewType name
    (tree.Union (tree.Of (tree.Simple basics.Int) (codes "known") tree.Plain)
    (tree.arm (tree.Number (codes "0") ∷ []) tree.Void tree.no_arm) (tree.default tree.Void))

-- the name of the one enumerator
abbrev pub longer_name : List ℕ → List ℕ
longer_name name = name ++ codes "__"

abbrev pub enum_of : List ℕ → ℕ → tree.Definition
enum_of name n =
    tree.NewType name
    (tree.Enum (record { name = longer_name name; value = Some (tree.Number (decimal n)) } ∷ []))

abbrev pub const_of : List ℕ → ℕ → tree.Definition
const_of name n = tree.Const name (tree.Number (decimal n))
