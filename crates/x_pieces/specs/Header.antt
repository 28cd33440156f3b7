-- The pieces of the header: this project's profile of what rpcgen(1) writes. A union is a struct in C.
use Rattle.std.specs.Prelude.{ℕ, Bool, true, false, List, [], ◌∷◌, ◌++◌, codes}
use Rattle.std.specs.Prelude.{Option, Some, None, if◌then◌else◌}
use Rattle.std.specs.List.{flat_map}
use Rattle.x_trees.specs.Tree.{Value, Enumerator, Body, Enum, Struct, Union}
use Rattle.x_trees.specs.Tree.{Declaration, Void, Procedure, Version}
use Rattle.x_trees.specs.Tree.{Declarations, none, more, Arms, no_arm, arm, Default, no_default, default}
use Rattle.x_pieces.specs.CTypes.{CType, spelled}
use Rattle.x_trees.specs.Declarations.{name_of, is_void}
use Rattle.x_pieces.specs.Declarations.{c_declaration}
use Rattle.x_pieces.specs.InlineTypes.{NamedBody}
use Rattle.x_pieces.specs.Procedures.{are_several, argument_in, argument_pieces, by_names, result_type}

-- the line that names a type before it is declared: an enum needs none
abbrev pub forward_of_body : List ℕ → Body → List ℕ
forward_of_body name (Enum es) = []
forward_of_body name body = codes "typedef struct " ++ name ++ codes " " ++ name ++ codes ";\n"

abbrev pub forward_line : NamedBody → List ℕ
forward_line t = forward_of_body t.name t.body

-- the routine of a type, as others see it
abbrev pub routine_line : List ℕ → List ℕ
routine_line name = codes "extern bool_t xdr_" ++ name ++ codes "(XDR *, " ++ name ++ codes " *);\n"

abbrev pub constant_line : List ℕ → List ℕ → List ℕ
constant_line name text = codes "#define " ++ name ++ codes " " ++ text ++ codes "\n"

-- an enumerator, with its value where it is given
abbrev pub named_value : List ℕ → Option Value → List ℕ
named_value name None = codes "    " ++ name
named_value name (Some v) = codes "    " ++ name ++ codes " = " ++ spelled v

abbrev pub enumerator_text : Enumerator → List ℕ
enumerator_text e = named_value e.name e.value

-- a line each, with a comma behind each but the last
abbrev pub enumerator_lines : List Enumerator → List ℕ
enumerator_lines [] = []
enumerator_lines (e ∷ es) =
    enumerator_text e ++ flat_map (λ other. codes ",\n" ++ enumerator_text other) es ++ codes "\n"

-- the line of a declaration, behind its indent: `void` has none
abbrev pub member_line : List ℕ → List ℕ → Declaration → List ℕ
member_line indent around Void = []
member_line indent around d = indent ++ c_declaration around d ++ codes ";\n"

abbrev pub field_lines : List ℕ → Declarations → List ℕ
field_lines around none = []
field_lines around (more d ds) = member_line (codes "    ") around d ++ field_lines around ds

abbrev pub is_void_default : Default → Bool
is_void_default no_default = true
is_void_default (default d) = is_void d

-- whether no arm has a value
abbrev pub are_void : Arms → Default → Bool
are_void no_arm other = is_void_default other
are_void (arm cases d rest) other = if is_void d then are_void rest other else false

abbrev pub arm_lines : List ℕ → Arms → Default → List ℕ
arm_lines around no_arm no_default = []
arm_lines around no_arm (default d) = member_line (codes "        ") around d
arm_lines around (arm cases d rest) other =
    member_line (codes "        ") around d ++ arm_lines around rest other

-- the values of the arms, one of which is there
abbrev pub union_lines : List ℕ → Arms → Default → List ℕ
union_lines name arms other =
    if are_void arms other then []
    else codes "    union {\n" ++ arm_lines name arms other ++ (codes "    } " ++ name ++ codes "_u;\n")

-- the lines of a type's own
abbrev pub body_lines : List ℕ → Body → List ℕ
body_lines name (Enum es) =
    (codes "enum " ++ name ++ codes " {\n") ++ enumerator_lines es
    ++ (codes "};\ntypedef enum " ++ name ++ codes " " ++ name ++ codes ";\n")
body_lines name (Struct ds) = (codes "struct " ++ name ++ codes " {\n") ++ field_lines name ds ++ codes "};\n"
body_lines name (Union d arms other) =
    (codes "struct " ++ name ++ codes " {\n") ++ member_line (codes "    ") name d
    ++ union_lines name arms other ++ codes "};\n"

-- the piece of a type
abbrev pub type_header : NamedBody → List ℕ
type_header t = body_lines t.name t.body ++ routine_line t.name ++ codes "\n"

-- the piece of a `typedef`
abbrev pub typedef_header : Declaration → List ℕ
typedef_header Void = []
typedef_header d =
    codes "typedef " ++ c_declaration (name_of d) d ++ codes ";\n" ++ routine_line (name_of d) ++ codes "\n"

-- the field of an argument of this number
abbrev pub argument_line : List ℕ → CType → List ℕ
argument_line number c = codes "    " ++ c.name ++ codes " arg" ++ number ++ codes ";\n"

-- the struct of several arguments
abbrev pub group_struct : List ℕ → Procedure → List ℕ
group_struct group p =
    (codes "struct " ++ group ++ codes " {\n")
    ++ argument_pieces argument_line p
    ++ (codes "};\ntypedef struct " ++ group ++ codes " " ++ group ++ codes ";\n")
    ++ routine_line group

abbrev pub group_lines : List ℕ → Procedure → List ℕ
group_lines group p = if are_several p.others then group_struct group p else []

-- the functions of a procedure, for the client and for the server
abbrev pub function_lines : List ℕ → List ℕ → Procedure → List ℕ
function_lines function group p =
    codes "extern " ++ (result_type p).name ++ codes " *" ++ function ++ codes "("
    ++ (argument_in group p).name ++ codes " *, CLIENT *);\n"
    ++ codes "extern " ++ (result_type p).name ++ codes " *" ++ function ++ codes "_svc("
    ++ (argument_in group p).name ++ codes " *, struct svc_req *);\n"

-- those of a procedure whose function and struct of arguments have these names
abbrev pub procedure_lines : List ℕ → List ℕ → Procedure → List ℕ
procedure_lines function group p =
    group_lines group p ++ constant_line p.name p.number ++ function_lines function group p

abbrev pub version_lines : Version → List ℕ
version_lines v = constant_line v.name v.number ++ flat_map (by_names procedure_lines v) v.procedures

-- the piece of a program
abbrev pub program_header : List ℕ → List Version → List ℕ → List ℕ
program_header name versions number =
    constant_line name number ++ flat_map version_lines versions ++ codes "\n"
