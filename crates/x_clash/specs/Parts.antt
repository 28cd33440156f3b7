-- What is in what a definition holds, as far as its C depends on it.
use Rattle.std.specs.Prelude.{ℕ, Bool, true, false, List, [], ◌∷◌}
use Rattle.x_trees.specs.Tree.{Declaration, Of, Opaque, Length, Fixed, Variable, Shape}
use Rattle.x_trees.specs.Tree.{Array}
use Rattle.x_trees.specs.declared.names.declared_name.NameKind.{NameKind}
use Rattle.x_trees.specs.declared.names.declared_name.NameKind.TheVariants as kinds
use Rattle.x_outline.specs.Bodies.{NameAt, Members}

-- whether the length of an array is told beside its elements
abbrev pub is_variable : Length → Bool
is_variable (Fixed size) = false
is_variable (Variable most) = true

abbrev pub is_counted_shape : Shape → Bool
is_counted_shape (Array length) = is_variable length
is_counted_shape shape = false

-- whether what a declaration declares is a struct of a length and elements in C
abbrev pub is_counted : Declaration → Bool
is_counted (Of type name shape) = is_counted_shape shape
is_counted (Opaque name length) = is_variable length
is_counted declaration = false

-- whether a name is that of a type with a body
abbrev pub has_body : NameKind → Bool
has_body kinds.Enum = true
has_body kinds.Struct = true
has_body kinds.Union = true
has_body kind = false

abbrev pub is_typedef : NameKind → Bool
is_typedef kinds.Typedef = true
is_typedef kind = false

-- the word of the first of some names
abbrev pub first_word : List NameAt → ℕ
first_word [] = 0
first_word (n ∷ ns) = n.word

-- the names in the first of some groups
abbrev pub first_names : List Members → List NameAt
first_names [] = []
first_names (m ∷ ms) = m.names
