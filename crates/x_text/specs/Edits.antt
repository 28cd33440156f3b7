-- Edits of a text.
use Rattle.std.specs.Prelude.{◌↔◌, ℕ, ◌<◌, ◌≤◌, List, ◌++◌, take, drop, length, Result, OnOk, IsErrOf}
use Rattle.x_text.specs.declared.text.edit.Edit.{Edit}
use Rattle.x_text.specs.declared.text.fault.TextFault.{TextFault}
use Rattle.x_text.specs.declared.text.fault.TextFault.TheVariants.{BadRange, TooLarge, NoMemory}
use Rattle.x_text.specs.Limits.{most_text}

-- the bytes from `start` to before `end` of the text `old` go, and those of `insert` come in their place
pub record Change : Type 0 where
  pub old : List ℕ
  pub start : ℕ
  pub end : ℕ
  pub insert : List ℕ

-- what an edit does to a text
abbrev pub change_of : List ℕ → Edit → Change
change_of text edit = record { old = text; start = edit.start; end = edit.end; insert = edit.insert.now }

-- the text that the change leaves
abbrev pub edited_by : Change → List ℕ
edited_by change = take change.start change.old ++ change.insert ++ drop change.end change.old

-- its range lies within the text
pub record LiesWithin (change : Change) : Type 0 where
  pub forward : change.start ≤ change.end
  pub within : change.end ≤ length change.old

-- its range lies within the text, and the text that it leaves isn't too large
pub record FitsText (change : Change) : Type 0 where
  pub lies_within : LiesWithin change
  pub small : length (edited_by change) ≤ most_text

-- why a change is refused; that memory ran out can be so of any
abbrev pub Refuses : Change → TextFault → Type 0
Refuses change BadRange = ¬ (LiesWithin change)
Refuses change TooLarge = LiesWithin change × (most_text < length (edited_by change))
Refuses change NoMemory = Unit {0}

-- the result is `Ok` only of a change that fits, and where it doesn't, an error says why
pub record Judges {T : Type 0} (change : Change) (result : Result T TextFault) : Type 0 where
  pub fits : OnOk result (FitsText change)
  pub bad_range : IsErrOf result BadRange ↔ Refuses change BadRange
  pub too_large : IsErrOf result TooLarge ↔ Refuses change TooLarge
