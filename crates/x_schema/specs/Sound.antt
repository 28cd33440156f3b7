-- What holds of the types of a text, so that a value can be read by them: parts that stand in a value by
-- value have smaller places than what holds them, links lead to any form, and an enum and a union have a
-- number.
use Rattle.std.specs.Prelude.{◌≡◌, ℕ, ◌<◌, ◌^◌, Bool, true, false, nat_lt, IsTrue, is_some, List, [], ◌∷◌}
use Rattle.std.specs.Prelude.{Option, Some, None, length}
use Rattle.x_schema.specs.declared.form.Arm.{Arm}
use Rattle.x_schema.specs.declared.form.Arm.TheVariants as arms
use Rattle.x_schema.specs.declared.form.Field.{Field}
use Rattle.x_schema.specs.declared.form.Form.{Form}
use Rattle.x_schema.specs.declared.form.Form.TheVariants.{Int, UnsignedInt, Bool as Truth, Enum, FixedArray}
use Rattle.x_schema.specs.declared.form.Form.TheVariants.{Array, Optional, Struct, Union}
use Rattle.x_schema.specs.declared.schema.NamedType.{NamedType}
use Rattle.x_schema.specs.Choices.{Choice, arm_for, name_for}
use Rattle.x_schema.specs.declared.procedure.CompactProcedure.{CompactProcedure}
use Rattle.x_schema.specs.declared.procedure.ProcedureNumbers.{ProcedureNumbers}
use Rattle.x_schema.specs.Schema.{Schema, IsKeptWithin, form_at, named_type, procedure_at, target_at}

-- whether the word stands for a number of the discriminant's type
abbrev pub is_legal : Form → ℕ → Bool
is_legal Int w = true
is_legal UnsignedInt w = true
is_legal Truth w = nat_lt w 2
is_legal (Enum names) w = is_some (name_for names w)
is_legal _ w = false

-- a value with a name, in a form at place i of n names
pub record IsSoundField (n i : ℕ) (f : Field) : Type 0 where
  pub name : f.name < n
  pub form : f.form < i

abbrev pub AreSoundFields : ℕ → ℕ → List Field → Type 0
AreSoundFields n i [] = Unit {0}
AreSoundFields n i (f ∷ fs) = IsSoundField n i f × AreSoundFields n i fs

abbrev pub IsSoundArm : ℕ → ℕ → Arm → Type 0
IsSoundArm n i arms.Void = Unit {0}
IsSoundArm n i (arms.Of f) = IsSoundField n i f

abbrev pub IsSoundDefault : ℕ → ℕ → Option Arm → Type 0
IsSoundDefault n i None = Unit {0}
IsSoundDefault n i (Some arm) = IsSoundArm n i arm

pub record AreSoundEnumerators (n : ℕ) (entries : List (ℕ × ℕ)) : Type 0 where
  pub word : ℕ
  pub fits : word < 2 ^ 32
  pub some : IsTrue (is_some (name_for entries word))
  pub named : (w name : ℕ) → name_for entries w ≡ Some name → name < n

pub record IsSoundUnion (s : Schema) (i : ℕ) (discriminant : Field) (choice : Choice) : Type 0 where
  pub discriminates : IsSoundField (length s.names) i discriminant
  pub word : ℕ
  pub fits : word < 2 ^ 32
  pub legal : IsTrue (is_legal (form_at s discriminant.form) word)
  pub chosen : IsTrue (is_some (arm_for choice word))
  pub arms : (w : ℕ) (arm : Arm) → arm_for choice w ≡ Some arm → IsSoundArm (length s.names) i arm
  pub other : IsSoundDefault (length s.names) i choice.default

-- a form at place i
abbrev pub IsSoundForm : Schema → ℕ → Form → Type 0
IsSoundForm s i (Enum entries) = AreSoundEnumerators (length s.names) entries
IsSoundForm s i (FixedArray of n) = of < i
IsSoundForm s i (Array link most) = link < length s.links
IsSoundForm s i (Optional link) = link < length s.links
IsSoundForm s i (Struct fields) = AreSoundFields (length s.names) i fields.items
IsSoundForm s i (Union discriminant choice) = IsSoundUnion s i discriminant choice
IsSoundForm s i _ = Unit {0}

pub record IsSound (s : Schema) : Type 0 where
  pub forms : (i : ℕ) → i < length s.forms → IsSoundForm s i (form_at s i)
  pub links : (l : ℕ) → l < length s.links → target_at s l < length s.forms
  pub types : (name : List ℕ) (t : NamedType) → named_type s name ≡ Some t
      → (t.form < length s.forms) × (t.name < length s.names)
  pub procedures : (numbers : ProcedureNumbers) (kept : CompactProcedure) → procedure_at s numbers ≡ Some kept
      → IsKeptWithin (length s.names) (length s.forms) kept
