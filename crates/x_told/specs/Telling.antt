-- Which faults of a text are told.
use Rattle.std.specs.Prelude.{ℕ, zero, suc, ◌==◌, Bool, true, false, not, ◌&&◌, ◌||◌, List, [], ◌∷◌}
use Rattle.std.specs.Prelude.{if◌then◌else◌}
use Rattle.std.specs.List.{filter, list_any}
use Rattle.std.specs.Option.{option_map_or}
use Rattle.x_lex.specs.Places.{Lexeme}
use Rattle.x_names.specs.Declarers.{first_declarer}
use Rattle.x_rules.specs.declared.fault.RuleCode.TheVariants.{Duplicate, RepeatedField, UsesFaulty}
use Rattle.x_compile.specs.declared.fault.FaultPlace.{FaultPlace}
use Rattle.x_compile.specs.declared.fault.FaultCode.{FaultCode}
use Rattle.x_compile.specs.declared.fault.FaultCode.TheVariants.{Rule}
use Rattle.x_compile.specs.Compile.{Item, definitions_of, places_of, tokens_of}
use Rattle.x_directives.specs.Branches.{in_later_branch}

-- the fault says that a name is declared twice, or a field
abbrev pub is_repeat : FaultCode → Bool
is_repeat (Rule Duplicate) = true
is_repeat (Rule RepeatedField) = true
is_repeat code = false

-- it says so in a branch behind the first one of a conditional: another branch may declare the name
abbrev pub is_of_branch : (shown : List ℕ) → FaultPlace → Bool
is_of_branch shown p = is_repeat p.code && in_later_branch shown p.start

-- the fault says that a name is used whose first declarer has faults
abbrev pub is_of_faulty : FaultCode → Bool
is_of_faulty (Rule UsesFaulty) = true
is_of_faulty code = false

-- the token that starts at a place, of these
abbrev pub word_from : List Lexeme → (start : ℕ) → List ℕ
word_from [] start = []
word_from (t ∷ ts) start = if t.start == start then t.text else word_from ts start

-- the fault says that a name is used which one of those items declares first
abbrev pub follows_from : List Item → (those : ℕ → Bool) → FaultPlace → Bool
follows_from items those p = is_of_faulty p.code && option_map_or (λ d. those d.item)
    (first_declarer (definitions_of items) (word_from (tokens_of items) p.start)) false

-- a fault is told where those items are silent: it is of no later branch, and follows from none of them
abbrev pub is_told_where : (shown : List ℕ) → List Item → (silent : ℕ → Bool) → FaultPlace → Bool
is_told_where shown items silent p = not (is_of_branch shown p || follows_from items silent p)

-- the item has a fault that passes a test
abbrev pub has_fault : List Item → (FaultPlace → Bool) → (item : ℕ) → Bool
has_fault items test item = list_any (λ p. p.item == item && test p) (places_of items)

-- the item has faults, and none is told
abbrev pub is_silent : List Item → (is_told : FaultPlace → Bool) → (item : ℕ) → Bool
is_silent items is_told item =
    has_fault items (λ p. not (is_told p)) item && not (has_fault items is_told item)

-- Which items before a number are silent. What is told of an item depends on those before it alone.
abbrev pub silent_before : (shown : List ℕ) → List Item → (number : ℕ) → (item : ℕ) → Bool
silent_before shown items zero item = false
silent_before shown items (suc n) item =
    if item == n then is_silent items (is_told_where shown items (silent_before shown items n)) n
    else silent_before shown items n item

abbrev pub is_told : (shown : List ℕ) → List Item → FaultPlace → Bool
is_told shown items p = is_told_where shown items (silent_before shown items p.item) p

-- The faults of a text that are told. Where the lines of cpp are blanked all branches of a conditional are
-- read, so not all that is found is wrong.
abbrev pub told_of : (blanks : Bool) → (shown : List ℕ) → List Item → List FaultPlace
told_of blanks shown items =
    if blanks then filter (is_told shown items) (places_of items) else places_of items
