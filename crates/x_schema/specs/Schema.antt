-- The types of a text: forms by their places, and the names that lead to them.
use Rattle.std.specs.Prelude.{ℕ, ◌≡◌, ◌<◌, nat_eq, Bool, ◌&&◌, List, [], Option, Some, map, option_map}
use Rattle.std.specs.Prelude.{length}
use Rattle.std.specs.List.{slice_get}
use Rattle.std.specs.Map.{lookup}
use Rattle.std.specs.Str.{bytes_eq}
use Rattle.std.specs.Global.{Global}
use Rattle.std.specs.declared.vec.Vec.{Vec}
use Rattle.std.proofs.Common.{get_or}
use Rattle.x_schema.specs.declared.form.Form.{Form}
use Rattle.x_schema.specs.declared.form.Form.TheVariants as forms
use Rattle.x_schema.specs.declared.schema.NamedType.{NamedType}
use Rattle.x_schema.specs.declared.procedure.CompactProcedure.{CompactProcedure}
use Rattle.x_schema.specs.declared.procedure.ProcedureNumbers.{ProcedureNumbers}
use Rattle.x_schema.specs.declared.schema.Root.{Root}
use Rattle.x_schema.specs.declared.schema.Root.TheVariants as roots
use Rattle.x_schema.specs.declared.schema.TypeId.{TypeId}

pub record Schema : Type 0 where
  pub names : List (List ℕ)
  pub forms : List Form
  -- the forms that links lead to
  pub links : List ℕ
  -- the names of types, with what they stand for
  pub types : List (List ℕ × NamedType)
  -- the procedures by their numbers
  pub procedures : List (ProcedureNumbers × CompactProcedure)

-- the names of types as lists of bytes
abbrev pub named_types : List (Vec ℕ Global × NamedType) → List (List ℕ × NamedType)
named_types entries = map (λ e. (e.0.items, e.1)) entries

abbrev pub form_at : Schema → ℕ → Form
form_at s id = get_or s.forms id forms.Void

abbrev pub target_at : Schema → ℕ → ℕ
target_at s link = get_or s.links link 0

abbrev pub name_at : Schema → ℕ → List ℕ
name_at s name = get_or s.names name []

-- what the name of a type stands for
abbrev pub named_type : Schema → List ℕ → Option NamedType
named_type s name = lookup (bytes_eq name) s.types

abbrev pub type_id : NamedType → TypeId
type_id named = record { root = roots.Type named.name; form = named.form }

abbrev pub id_named : Schema → List ℕ → Option TypeId
id_named s name = option_map type_id (named_type s name)

abbrev pub IsRoot : Schema → Root → Type 0
IsRoot s (roots.Type name) = name < length s.names
IsRoot s roots.Arguments = Unit {0}
IsRoot s roots.Results = Unit {0}

-- the id is one of this schema's
pub record IsTypeId (s : Schema) (id : TypeId) : Type 0 where
  pub form : id.form < length s.forms
  pub root : IsRoot s id.root

-- ---- procedures

abbrev pub same_numbers : ProcedureNumbers → ProcedureNumbers → Bool
same_numbers a b =
    nat_eq a.program b.program && (nat_eq a.version b.version && nat_eq a.procedure b.procedure)

-- the procedure of these numbers
abbrev pub procedure_at : Schema → ProcedureNumbers → Option CompactProcedure
procedure_at s numbers = lookup (same_numbers numbers) s.procedures

-- the procedure at an index
abbrev pub kept_at : Schema → ℕ → Option CompactProcedure
kept_at s index = option_map (λ e. e.1) (slice_get s.procedures index)

-- what it is called with, and what it answers
abbrev pub arguments_id : CompactProcedure → TypeId
arguments_id kept = record { root = roots.Arguments; form = kept.arguments }

abbrev pub results_id : CompactProcedure → TypeId
results_id kept = record { root = roots.Results; form = kept.results }

-- the schema has the procedure, of this name, with these arguments and results
pub record IsProcedureAt (s : Schema) (numbers : ProcedureNumbers) (name : List ℕ)
    (arg res : TypeId) : Type 0 where
  pub kept : CompactProcedure
  pub found : procedure_at s numbers ≡ Some kept
  pub name_is : name ≡ name_at s kept.name
  pub arg_is : arg ≡ arguments_id kept
  pub res_is : res ≡ results_id kept

-- what is kept of a procedure is shown by this name, these arguments and these results
pub record IsShownAs (s : Schema) (procedure : Option CompactProcedure) (name : List ℕ)
    (arg res : TypeId) : Type 0 where
  pub kept : CompactProcedure
  pub is_kept : procedure ≡ Some kept
  pub name_is : name ≡ name_at s kept.name
  pub arg_is : arg ≡ arguments_id kept
  pub res_is : res ≡ results_id kept

-- its parts are within the schema
pub record IsKeptWithin (names forms : ℕ) (kept : CompactProcedure) : Type 0 where
  pub name : kept.name < names
  pub arguments : kept.arguments < forms
  pub results : kept.results < forms
