-- What a number chooses: the name of an enumerator, the arm of a union. Numbers stand as the words of four
-- bytes that encode them.
use Rattle.std.specs.Prelude.{ℕ, nat_eq, List, Option, Some}
use Rattle.std.specs.Map.{lookup}
use Rattle.x_schema.specs.declared.form.Arm.{Arm}

-- the name that an enum's entries have for the word, if any
abbrev pub name_for : List (ℕ × ℕ) → ℕ → Option ℕ
name_for entries word = lookup (nat_eq word) entries

-- the arms of a union by the words of their cases, and that of `default`
pub record Choice : Type 0 where
  pub cases : List (ℕ × Arm)
  pub default : Option Arm

abbrev pub or_default : Option Arm → Option Arm → Option Arm
or_default (Some arm) default = Some arm
or_default _ default = default

-- the arm of the word's case, else that of `default`, if any
abbrev pub arm_for : Choice → ℕ → Option Arm
arm_for choice word = or_default (lookup (nat_eq word) choice.cases) choice.default
