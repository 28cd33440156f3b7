-- What the reader promises: the nodes of an encoding, and the fault of bytes that are none.
use Rattle.std.specs.Prelude.{◌≡◌, ℕ, ◌*◌, ◌<◌, List, ◌∷◌, ◌++◌, length, Some}
use Rattle.x_schema.specs.declared.schema.Root.{Root}
use Rattle.x_schema.specs.declared.schema.Root.TheVariants as roots
use Rattle.x_schema.specs.declared.schema.TypeId.{TypeId}
use Rattle.x_schema.specs.Schema.{Schema, name_at}
use Rattle.x_value.specs.declared.fault.ReadCode.{ReadCode}
use Rattle.x_value.specs.declared.fault.ReadCode.TheVariants as codes
use Rattle.x_value.specs.Shown.{Label, Name, Arguments, Results, Node}
use Rattle.x_value.specs.Values.{Value, enc}
use Rattle.x_value.specs.Layouts.{Job, job, layout_at}
use Rattle.x_value.specs.Readings.{Fits, UnitRole, fault_of, roles, nodes}

abbrev pub root_label : Schema → Root → Label
root_label s (roots.Type name) = Name (name_at s name)
root_label s roots.Arguments = Arguments
root_label s roots.Results = Results

-- a value of the type stands so, with no link open around it
abbrev pub root_job : Schema → TypeId → Job
root_job s id = job (layout_at s id.form) (root_label s id.root) 0 0

abbrev pub IsOf : Schema → TypeId → Value → Type 0
IsOf s id v = Fits s (root_job s id).layout (root_job s id).spot v

-- the bytes are the encoding of a value of the type
abbrev pub IsEncoding : Schema → TypeId → List ℕ → Type 0
IsEncoding s id bytes = (v : Value) × IsOf s id v × (bytes ≡ enc v)

-- and these are its nodes
abbrev pub IsShown : Schema → TypeId → List ℕ → List Node → Type 0
IsShown s id bytes shown =
    (v : Value) × IsOf s id v × (bytes ≡ enc v) ×
    (shown ≡ nodes s (root_job s id).layout (root_job s id).spot v)

abbrev pub BeginsEncoding : Schema → TypeId → List ℕ → Type 0
BeginsEncoding s id front = (rest : List ℕ) × IsEncoding s id (front ++ rest)

abbrev pub NoFrontIsEncoding : Schema → TypeId → List ℕ → Type 0
NoFrontIsEncoding s id bytes = (a b : List ℕ) → bytes ≡ a ++ b → IsEncoding s id a → ⊥

-- among the roles of units is one behind those of the front, in which the unit is refused for this reason
pub record RefusesUnit (s : Schema) (units : List UnitRole) (front unit : List ℕ)
    (code : ReadCode) : Type 0 where
  pub before : List UnitRole
  pub role : UnitRole
  pub after : List UnitRole
  pub units_are : units ≡ before ++ (role ∷ after)
  pub place : length front ≡ 4 * length before
  pub fault : fault_of s role unit ≡ Some code

-- in each encoding that begins with the front, the unit behind it would be refused for this reason
abbrev pub IsCause : Schema → TypeId → List ℕ → List ℕ → ReadCode → Type 0
IsCause s id front unit code = (v : Value) (y : List ℕ) → IsOf s id v → front ++ y ≡ enc v
    → RefusesUnit s (roles s (root_job s id).layout (root_job s id).spot v) front unit code

-- the first whole unit to whose end the bytes begin no encoding
pub record IsBadUnit (s : Schema) (id : TypeId) (bytes : List ℕ) (at : ℕ) (code : ReadCode) : Type 0 where
  pub none : NoFrontIsEncoding s id bytes
  pub front : List ℕ
  pub unit : List ℕ
  pub rest : List ℕ
  pub parts : bytes ≡ front ++ (unit ++ rest)
  pub place : at ≡ length front
  pub wide : length unit ≡ 4
  pub begins : BeginsEncoding s id front
  pub ended : BeginsEncoding s id (front ++ unit) → ⊥
  pub cause : IsCause s id front unit code

-- all whole units begin an encoding, but the bytes are none and none is a front of them
pub record IsTruncated (s : Schema) (id : TypeId) (bytes : List ℕ) (at : ℕ) : Type 0 where
  pub none : NoFrontIsEncoding s id bytes
  pub place : at ≡ length bytes
  pub front : List ℕ
  pub tail : List ℕ
  pub parts : bytes ≡ front ++ tail
  pub units : ℕ
  pub whole : length front ≡ 4 * units
  pub part : length tail < 4
  pub begins : BeginsEncoding s id front

pub record HasTrailing (s : Schema) (id : TypeId) (bytes : List ℕ) (at : ℕ) : Type 0 where
  pub front : List ℕ
  pub more : List ℕ
  pub parts : bytes ≡ front ++ more
  pub some : 0 < length more
  pub is_encoding : IsEncoding s id front
  pub place : at ≡ length front

-- the one fault of bytes that are no encoding, or want of memory
pub data IsReadFault (s : Schema) (id : TypeId) (bytes : List ℕ) (at : ℕ) (code : ReadCode) : Type 0 where
  no_memory_left : code ≡ codes.NoMemory → at ≡ 0 → IsReadFault s id bytes at code
  trailing : code ≡ codes.Trailing → HasTrailing s id bytes at → IsReadFault s id bytes at code
  bad_unit : IsBadUnit s id bytes at code → IsReadFault s id bytes at code
  cut_short : code ≡ codes.Short → IsTruncated s id bytes at → IsReadFault s id bytes at code
