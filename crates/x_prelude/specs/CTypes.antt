-- C's own types that have an XDR routine of their name (those of libtirpc's rpc/xdr.h, with the types of
-- sys/types.h and of its rpc/types.h), each declared as what its routine writes. That of a u_long writes 32
-- bits, as does that of each shorter type.
use Rattle.std.specs.Prelude.{ℕ, List, [], ◌∷◌, Option, codes, map}
use Rattle.std.specs.Borrow.{Bor}
use Rattle.std.specs.Map.{lookup}
use Rattle.std.specs.Str.{bytes_eq}

abbrev pub c_types : List (List ℕ × List ℕ)
c_types =
    (codes "char", codes "int char")
    ∷ (codes "u_char", codes "unsigned int u_char")
    ∷ (codes "short", codes "int short")
    ∷ (codes "u_short", codes "unsigned int u_short")
    ∷ (codes "u_int", codes "unsigned int u_int")
    ∷ (codes "u_long", codes "unsigned long u_long")
    ∷ (codes "int8_t", codes "int int8_t")
    ∷ (codes "uint8_t", codes "unsigned int uint8_t")
    ∷ (codes "u_int8_t", codes "unsigned int u_int8_t")
    ∷ (codes "int16_t", codes "int int16_t")
    ∷ (codes "uint16_t", codes "unsigned int uint16_t")
    ∷ (codes "u_int16_t", codes "unsigned int u_int16_t")
    ∷ (codes "int32_t", codes "int int32_t")
    ∷ (codes "uint32_t", codes "unsigned int uint32_t")
    ∷ (codes "u_int32_t", codes "unsigned int u_int32_t")
    ∷ (codes "int64_t", codes "hyper int64_t")
    ∷ (codes "uint64_t", codes "unsigned hyper uint64_t")
    ∷ (codes "u_int64_t", codes "unsigned hyper u_int64_t")
    ∷ (codes "quad_t", codes "hyper quad_t")
    ∷ (codes "u_quad_t", codes "unsigned hyper u_quad_t")
    ∷ (codes "netobj", codes "opaque netobj<1024>")
    ∷ []

-- the declaration of the type of C with this name, if there is one
abbrev pub c_type : List ℕ → Option (List ℕ)
c_type name = lookup (bytes_eq name) c_types

-- the table of the program
abbrev pub view_types : List (Bor (List ℕ) × Bor (List ℕ)) → List (List ℕ × List ℕ)
view_types table = map (λ e. (e.0.now, e.1.now)) table
