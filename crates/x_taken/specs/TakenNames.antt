-- The names that C has already, and as what; those of macros also with their numbers, as `SIGINT=2`.
use Rattle.std.specs.Prelude.{ℕ, ◌==◌, Bool, List, [], ◌∷◌, Option, Some, None, map, if◌then◌else◌}
use Rattle.std.specs.Borrow.{Bor}
use Rattle.std.specs.List.{list_any, slice_split}
use Rattle.std.specs.Map.{lookup}
use Rattle.std.specs.Str.{bytes_eq}
use Rattle.x_taken.specs.declared.taken.Taken.{Taken}
use Rattle.x_taken.specs.declared.taken.TakenAs.{TakenAs}
use Rattle.x_taken.specs.declared.taken.TheConstants.{LISTS}

-- the words of a text with one blank between two
unfoldable pub words : List ℕ → List (List ℕ)
words text = slice_split (λ b. b == 32) text

-- whether a name is one of these
abbrev pub is_among : List ℕ → List (List ℕ) → Bool
is_among name names = list_any (λ own. bytes_eq own name) names

-- the kind of the first of some lists that has the name, if one has it
abbrev pub kind_in : List (TakenAs × List ℕ) → List ℕ → Option TakenAs
kind_in [] name = None
kind_in (list ∷ lists) name =
    if is_among name (words list.1) then Some list.0 else kind_in lists name

-- what C has the name for: the kind of the first of the program's lists that has it
unfoldable pub taken_as : List ℕ → Option TakenAs
taken_as name = kind_in (map (λ list. (list.0, list.1.now)) LISTS) name

-- the lists of the program
abbrev pub view_lists : List (TakenAs × Bor (List ℕ)) → List (TakenAs × List ℕ)
view_lists lists = map (λ list. (list.0, list.1.now)) lists

-- what the entries of a table have for the name
abbrev pub entry_in : List (Bor (List ℕ) × TakenAs) → List ℕ → Option TakenAs
entry_in entries name = lookup (λ key. bytes_eq name key.now) entries

-- what the table has for the name
abbrev pub taken_in : Taken → List ℕ → Option TakenAs
taken_in taken name = entry_in taken.table.entries name
