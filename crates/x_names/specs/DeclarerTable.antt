-- What a table of names holds.
use Rattle.std.specs.Prelude.{ℕ, not, List, Option, map}
use Rattle.std.specs.List.{filter}
use Rattle.std.specs.Map.{lookup}
use Rattle.std.specs.Cow.{cow_slice_items}
use Rattle.std.specs.declared.borrow.CowSlice.{CowSlice}
use Rattle.std.specs.Str.{bytes_eq}
use Rattle.std.specs.Global.{Global}
use Rattle.x_names.specs.Declarers as names
use Rattle.x_names.specs.declared.names.Declarer.{Declarer}

-- what the entries have for the name
abbrev pub entry_in : List (CowSlice ℕ Global × Declarer) → List ℕ → Option Declarer
entry_in entries name = lookup (λ key. bytes_eq name (cow_slice_items key)) entries

-- the names with their declarers, but for those that were declared beforehand
abbrev pub names_in : List (CowSlice ℕ Global × Declarer) → List (List ℕ × Declarer)
names_in entries = filter (λ e. not (names.is_beforehand e.0)) (map (λ e. (cow_slice_items e.0, e.1)) entries)

-- what a table of names has for the name
abbrev pub first_in : List (List ℕ × Declarer) → List ℕ → Option Declarer
first_in table name = lookup (bytes_eq name) table
