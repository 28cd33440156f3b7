-- A text behind a known one, as one text.
use Rattle.std.specs.Prelude.{ℕ, ◌+◌, ◌-◌, List, length, take}
use Rattle.x_compile.specs.declared.fault.Fault.{Fault}
use Rattle.x_compile.specs.declared.fault.FaultCode.{FaultCode}

-- without the last element, if there is one
abbrev pub but_last : {X : Type 0} → List X → List X
but_last xs = take (length xs - 1) xs

-- a fault as it is told: without the number of its token in the item
pub record Told : Type 0 where
  pub item : ℕ
  pub line : ℕ
  pub col : ℕ
  pub code : FaultCode

abbrev pub told : Fault → Told
told f = record { item = f.item; line = f.line; col = f.col; code = f.code }

-- so many items and lines later
abbrev pub told_behind : (items lines : ℕ) → Fault → Told
told_behind items lines f =
    record { item = items + f.item; line = lines + f.line; col = f.col; code = f.code }
