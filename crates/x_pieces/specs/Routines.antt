-- The pieces of the XDR routines: this project's profile of what rpcgen(1) writes.
use Rattle.std.specs.Prelude.{ℕ, List, [], ◌++◌, codes, if◌then◌else◌}
use Rattle.std.specs.List.{flat_map}
use Rattle.x_trees.specs.Tree.{Value, Body, Enum, Struct, Union, Declaration, Void, Procedure, Version}
use Rattle.x_trees.specs.Tree.{Declarations, none, more, Arms, no_arm, arm, Default, no_default, default}
use Rattle.x_pieces.specs.CTypes.{CType, spelled}
use Rattle.x_trees.specs.Declarations.{name_of}
use Rattle.x_pieces.specs.Declarations.{Location, InStruct, InUnion, Alone, call}
use Rattle.x_pieces.specs.InlineTypes.{NamedBody}
use Rattle.x_pieces.specs.Procedures.{are_several, argument_pieces, version_pieces}

-- what a routine begins with
abbrev pub routine_front : List ℕ → List ℕ
routine_front name = codes "bool_t\nxdr_" ++ name ++ codes "(XDR *xdrs, " ++ name ++ codes " *objp)\n{\n"

-- where all was read or written
abbrev pub routine_end : List ℕ
routine_end = codes "    return (TRUE);\n}\n\n"

-- a call that may fail, behind its indent: `void` has none
abbrev pub checked_call : List ℕ → List ℕ → Location → Declaration → List ℕ
checked_call indent around place Void = []
checked_call indent around place d =
    (indent ++ codes "if (!") ++ call around place d
    ++ (codes ")\n" ++ indent ++ codes "    return (FALSE);\n")

abbrev pub field_calls : List ℕ → Declarations → List ℕ
field_calls around none = []
field_calls around (more d ds) = checked_call (codes "    ") around InStruct d ++ field_calls around ds

abbrev pub case_lines : List Value → List ℕ
case_lines values = flat_map (λ v. codes "    case " ++ spelled v ++ codes ":\n") values

-- what is done in an arm
abbrev pub arm_calls : List ℕ → Declaration → List ℕ
arm_calls name d = checked_call (codes "        ") name (InUnion name) d ++ codes "        break;\n"

abbrev pub arms_calls : List ℕ → Arms → List ℕ
arms_calls name no_arm = []
arms_calls name (arm cases d rest) = case_lines cases ++ arm_calls name d ++ arms_calls name rest

-- without a default arm no other value is good
abbrev pub default_calls : List ℕ → Default → List ℕ
default_calls name no_default = codes "    default:\n        return (FALSE);\n"
default_calls name (default d) = codes "    default:\n" ++ arm_calls name d

abbrev pub body_calls : List ℕ → Body → List ℕ
body_calls name (Enum es) = codes "    return (xdr_enum(xdrs, (enum_t *)objp));\n}\n\n"
body_calls name (Struct ds) = field_calls name ds ++ routine_end
body_calls name (Union d arms other) =
    checked_call (codes "    ") name InStruct d ++ (codes "    switch (objp->" ++ name_of d ++ codes ") {\n")
    ++ arms_calls name arms ++ default_calls name other ++ codes "    }\n" ++ routine_end

-- the routine of a type
abbrev pub type_routine : NamedBody → List ℕ
type_routine t = routine_front t.name ++ body_calls t.name t.body

-- the routine of a `typedef`
abbrev pub typedef_routine : Declaration → List ℕ
typedef_routine Void = []
typedef_routine d =
    routine_front (name_of d) ++ checked_call (codes "    ") (name_of d) Alone d ++ routine_end

-- the call for an argument of this number
abbrev pub argument_call : List ℕ → CType → List ℕ
argument_call number c =
    codes "    if (!xdr_" ++ c.routine ++ codes "(xdrs, &objp->arg" ++ number
    ++ codes "))\n        return (FALSE);\n"

-- the routine of the struct of several arguments
abbrev pub struct_routine : List ℕ → Procedure → List ℕ
struct_routine group p = routine_front group ++ argument_pieces argument_call p ++ routine_end

-- that of a procedure whose struct of arguments has this name
abbrev pub group_routine : List ℕ → List ℕ → Procedure → List ℕ
group_routine function group p = if are_several p.others then struct_routine group p else []

-- the routines of a program
abbrev pub program_routines : List Version → List ℕ
program_routines versions = version_pieces group_routine versions
