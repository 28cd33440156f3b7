-- How C declares what a declaration declares, and how its XDR routine calls those of its parts: this
-- project's profile of what rpcgen(1) writes. `around` is the name of the type that a declaration stands in,
-- and for a `typedef` the name that it declares itself.
use Rattle.std.specs.Prelude.{ℕ, List, [], ◌++◌, codes}
use Rattle.x_trees.specs.Tree.{Declaration, Void, Of, Opaque, String, Length, Fixed, Variable, Shape, Plain}
use Rattle.x_trees.specs.Tree.{Optional, Array}
use Rattle.x_trees.specs.Declarations.{name_of}
use Rattle.x_trees.specs.Gloss.{lifted_name}
use Rattle.x_pieces.specs.CTypes.{CType, c_type, spelled, most}

-- elements of a type: so many, or at most so many
abbrev pub declared_array : List ℕ → List ℕ → Length → List ℕ
declared_array c x (Fixed v) = c ++ codes " " ++ x ++ codes "[" ++ spelled v ++ codes "]"
declared_array c x (Variable m) =
    codes "struct { u_int " ++ x ++ codes "_len; " ++ c ++ codes " *" ++ x ++ codes "_val; } " ++ x

-- the name with what stands around it
abbrev pub declared_as : List ℕ → List ℕ → Shape → List ℕ
declared_as c x Plain = c ++ codes " " ++ x
declared_as c x Optional = c ++ codes " *" ++ x
declared_as c x (Array length) = declared_array c x length

-- the declaration in C; opaque bytes are elements of type `char`
abbrev pub c_declaration : List ℕ → Declaration → List ℕ
c_declaration around Void = []
c_declaration around (Of type x shape) = declared_as (c_type (lifted_name around x) type).name x shape
c_declaration around (Opaque x length) = declared_array (codes "char") x length
c_declaration around (String x m) = codes "char *" ++ x

-- where a value lies that a routine reads or writes: in a field of a struct or in a union's discriminant, in
-- an arm of the union of a name, or by itself, as that of a `typedef`
pub data Location : Type 0 where
  InStruct : Location
  InUnion : (union : List ℕ) → Location
  Alone : Location

-- in C
abbrev pub lies_at : Location → List ℕ → List ℕ
lies_at InStruct x = codes "objp->" ++ x
lies_at (InUnion union) x = codes "objp->" ++ union ++ codes "_u." ++ x
lies_at Alone x = codes "(*objp)"

-- the call that reads or writes a value of the type at the place `e`, which is declared as `x`

abbrev pub array_call : CType → List ℕ → List ℕ → Length → List ℕ
array_call c e x (Fixed v) =
    codes "xdr_vector(xdrs, (char *)" ++ e ++ codes ", " ++ spelled v
    ++ codes ", sizeof (" ++ c.name ++ codes "), (xdrproc_t)xdr_" ++ c.routine ++ codes ")"
array_call c e x (Variable m) =
    codes "xdr_array(xdrs, (char **)&" ++ e ++ codes "." ++ x ++ codes "_val, &" ++ e ++ codes "." ++ x
    ++ codes "_len, " ++ most m
    ++ codes ", sizeof (" ++ c.name ++ codes "), (xdrproc_t)xdr_" ++ c.routine ++ codes ")"

abbrev pub call_as : CType → List ℕ → List ℕ → Shape → List ℕ
call_as c e x Plain = codes "xdr_" ++ c.routine ++ codes "(xdrs, &" ++ e ++ codes ")"
call_as c e x Optional =
    codes "xdr_pointer(xdrs, (char **)&" ++ e
    ++ codes ", sizeof (" ++ c.name ++ codes "), (xdrproc_t)xdr_" ++ c.routine ++ codes ")"
call_as c e x (Array length) = array_call c e x length

abbrev pub opaque_call : List ℕ → List ℕ → Length → List ℕ
opaque_call e x (Fixed v) = codes "xdr_opaque(xdrs, " ++ e ++ codes ", " ++ spelled v ++ codes ")"
opaque_call e x (Variable m) =
    codes "xdr_bytes(xdrs, &" ++ e ++ codes "." ++ x ++ codes "_val, &" ++ e ++ codes "." ++ x
    ++ codes "_len, " ++ most m ++ codes ")"

abbrev pub call_at : List ℕ → List ℕ → Declaration → List ℕ
call_at around e Void = []
call_at around e (Of type x shape) = call_as (c_type (lifted_name around x) type) e x shape
call_at around e (Opaque x length) = opaque_call e x length
call_at around e (String x m) = codes "xdr_string(xdrs, &" ++ e ++ codes ", " ++ most m ++ codes ")"

-- the call for what a declaration declares
abbrev pub call : List ℕ → Location → Declaration → List ℕ
call around place d = call_at around (lies_at place (name_of d)) d
