-- JSON lists as they are written, entry by entry.
use Rattle.std.specs.Prelude.{ℕ, ◌-◌, ◌==◌, List, [], ◌∷◌, ◌++◌, length, take, slice_get}
use Rattle.std.specs.Prelude.{Option, None, Some, if◌then◌else◌}
use Rattle.std.specs.List.{flat_map}
use Rattle.serde_json.specs.Data.{Data}
use Rattle.serde_json.specs.Written.{compact_text}

-- an entry, with a comma behind it
abbrev pub entry_text : Data → List ℕ
entry_text d = compact_text d ++ 44 ∷ []

-- a list with these entries that goes on
abbrev pub open_list : List Data → List ℕ
open_list ds = 91 ∷ flat_map entry_text ds

abbrev pub without_comma : List ℕ → (last : Option ℕ) → List ℕ
without_comma text None = text
without_comma text (Some b) = if b == 44 then take (length text - 1) text else text

-- a text with a closing bracket in place of a comma at its end
abbrev pub ended : List ℕ → List ℕ
ended text = without_comma text (slice_get text (length text - 1)) ++ 93 ∷ []
