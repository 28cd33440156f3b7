-- The pieces of the header.
use Rattle.std.proofs.Common.{◌≡◌, ℕ, List, ◌++◌, codes, refl, Vec, Global}
use Rattle.x_trees.specs.View.{view_body}
use Rattle.x_trees.specs.declared.trees.declaration.Body.{Body}
use Rattle.x_trees.specs.declared.trees.declaration.Enumerator.{Enumerator}
use Rattle.x_trees.specs.declared.trees.declaration.Body.TheVariants.{Enum, Struct', Union'}
use Rattle.x_trees.specs.declared.trees.declaration.UnionBody.{UnionBody'}
use Rattle.x_pieces.specs.Header.{forward_of_body}

-- what is no enum is named before it is declared
pub forward_of_struct : (name : List ℕ) (body : Body) → ((es : Vec Enumerator Global) → body ≡ Enum es → ⊥)
    → forward_of_body name (view_body body) ≡ codes "typedef struct " ++ name ++ codes " "
    ++ name ++ codes ";\n"
forward_of_struct name (Enum es) other = absurd (other es refl)
forward_of_struct name (Struct' shape all) other = refl
forward_of_struct name (Union' p (UnionBody' d shape arms default)) other = refl
