-- The names of types.
use Rattle.std.proofs.Common.{◌≡◌, refl, ap, length, List, [], ◌∷◌, Option, Some, None, cond, ℕ, sym}
use Rattle.std.specs.Prelude.{IfSome}
use Rattle.std.specs.Map.{lookup}
use Rattle.std.specs.Str.{bytes_eq}
use Rattle.std.specs.Global.{Global}
use Rattle.std.specs.declared.vec.Vec.{Vec}
use Rattle.x_schema.specs.declared.schema.NamedType.{NamedType}
use Rattle.x_schema.specs.declared.procedure.CompactProcedure.{CompactProcedure}
use Rattle.x_schema.specs.declared.procedure.ProcedureNumbers.{ProcedureNumbers}
use Rattle.x_schema.specs.Schema.{Schema, named_type, named_types, procedure_at, type_id, IsKeptWithin}
use Rattle.x_schema.specs.Schema.{IsTypeId}
use Rattle.x_schema.specs.Sound.{IsSound}

-- a name is looked up among lists of bytes as among the vectors that hold them
pub lookup_read : (name : List ℕ) (es : List (Vec ℕ Global × NamedType))
    → lookup (bytes_eq name) (named_types es) ≡ lookup (λ (k : Vec ℕ Global). bytes_eq name k.items) es
lookup_read name [] = refl
lookup_read name (e ∷ es) = ap (cond (bytes_eq name e.0.items) (Some e.1)) (lookup_read name es)

-- what a name stands for is a type of the schema
pub known_named : (s : Schema) (name : List ℕ) (found : Option NamedType) → IsSound s
    → found ≡ named_type s name → IfSome found (λ t. IsTypeId s (type_id t))
known_named s name None sound is = record {}
known_named s name (Some t) sound is =
    let known = sound.types name t (sym is) in record { form = known.0; root = known.1 }

-- what is kept of a procedure is within the schema
pub known_kept : (s : Schema) (numbers : ProcedureNumbers) (found : Option CompactProcedure) → IsSound s
    → found ≡ procedure_at s numbers
    → IfSome found (λ kept. IsKeptWithin (length s.names) (length s.forms) kept)
known_kept s numbers None sound is = record {}
known_kept s numbers (Some kept) sound is = sound.procedures numbers kept (sym is)
