-- What is generated of a declaration that is not `void`.
use Rattle.std.proofs.Common.{◌≡◌, ℕ, List, ◌++◌, false, codes, refl}
use Rattle.x_trees.specs.Tree.{Declaration, Void, Of, Opaque, String}
use Rattle.x_trees.specs.Declarations.{name_of, is_void}
use Rattle.x_pieces.specs.Declarations.{Location, Alone, c_declaration, call}
use Rattle.x_pieces.specs.Header.{routine_line, typedef_header}
use Rattle.x_pieces.specs.Routines.{routine_front, routine_end, checked_call, typedef_routine}

pub typedef_of : (d : Declaration) → is_void d ≡ false
    → typedef_header d ≡ codes "typedef " ++ c_declaration (name_of d) d ++ codes ";\n"
    ++ routine_line (name_of d) ++ codes "\n"
typedef_of Void is = absurd (cc)
typedef_of (Of type x shape) is = refl
typedef_of (Opaque x length) is = refl
typedef_of (String x most) is = refl

pub checked_call_of : (indent around : List ℕ) (place : Location) (d : Declaration) → is_void d ≡ false
    → checked_call indent around place d ≡ (indent ++ codes "if (!") ++ call around place d
    ++ (codes ")\n" ++ indent ++ codes "    return (FALSE);\n")
checked_call_of indent around place Void is = absurd (cc)
checked_call_of indent around place (Of type x shape) is = refl
checked_call_of indent around place (Opaque x length) is = refl
checked_call_of indent around place (String x most) is = refl

pub typedef_routine_of : (d : Declaration) → is_void d ≡ false
    → typedef_routine d ≡ routine_front (name_of d) ++ checked_call (codes "    ") (name_of d) Alone d
    ++ routine_end
typedef_routine_of Void is = absurd (cc)
typedef_routine_of (Of type x shape) is = refl
typedef_routine_of (Opaque x length) is = refl
typedef_routine_of (String x most) is = refl
