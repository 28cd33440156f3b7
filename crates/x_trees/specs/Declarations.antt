-- What a declaration declares.
use Rattle.std.specs.Prelude.{ℕ, Bool, true, false, List, []}
use Rattle.x_trees.specs.Tree.{Declaration, Void, Of, Opaque, String}

-- the name that is declared: `void` declares none
abbrev pub name_of : Declaration → List ℕ
name_of Void = []
name_of (Of type x shape) = x
name_of (Opaque x length) = x
name_of (String x most) = x

abbrev pub is_void : Declaration → Bool
is_void Void = true
is_void d = false
