-- The faults that each family of rules finds, in the order in which the program finds them.
use Rattle.std.specs.Prelude.{ℕ, suc, ℤ, Bool, true, false, not, ◌&&◌, ◌||◌, List, [], ◌∷◌, ◌++◌, map}
use Rattle.std.specs.Prelude.{Option, Some, None, if◌then◌else◌}
use Rattle.std.specs.List.{flat_map, list_any}
use Rattle.std.specs.Ordering.{int_eq}
use Rattle.x_trees.specs.Tree.{Definition, Value, Number, Named}
use Rattle.x_trees.specs.Names.{Declared, declared}
use Rattle.x_trees.specs.Mentions.{Mention, mentioned}
use Rattle.x_rules.specs.Views as views
use Rattle.x_rules.specs.Views.{View, Class, Other}
use Rattle.x_trees.specs.Seen.{names_of}
use Rattle.x_outline.specs.Bodies.{EnumeratorAt, NameAt, ValueAt, NumberAt, Members, bodies, enumerators}
use Rattle.x_outline.specs.Bodies.{cases_of, fields_of, members}
use Rattle.x_rules.specs.FirstPlaces.{first_place, is_behind}
use Rattle.x_rules.specs.Tables.{is_too_high}
use Rattle.x_rules.specs.Constants.{Known, knowns, limit_of, number_by}
use Rattle.x_numbers.specs.Numbers.{number_spelled, is_enum_number, is_word_number, is_zero}
use Rattle.x_rules.specs.Mentioned.{mention_fault, suits}
use Rattle.x_rules.specs.Types.{declaration_class, heights}
use Rattle.x_trees.specs.Notes.{Note, NoteAt, ValueNote, NumberNote, MisplacedNote, DiscriminantNote}
use Rattle.x_trees.specs.Notes.{InlineNote, noted}
use Rattle.x_trees.specs.declared.names.note.ValueRole.{ValueRole}
use Rattle.x_trees.specs.declared.names.note.ValueRole.TheVariants as roles
use Rattle.x_rules.specs.declared.fault.RuleCode.{RuleCode}
use Rattle.x_rules.specs.declared.fault.RuleCode.TheVariants as codes
use Rattle.x_rules.specs.declared.fault.WordFault.{WordFault}
use Rattle.x_rules.specs.declared.rules.repeats.Numbered.{Numbered}

-- a fault at a word, if there is one
abbrev pub fault_at : ℕ → Option RuleCode → List WordFault
fault_at word None = []
fault_at word (Some code) = record { word = word; code = code } ∷ []

-- the faults of names that are used
abbrev pub mention_faults : (List ℕ → View) → List EnumeratorAt → List Mention → List WordFault
mention_faults see es ms = flat_map (λ m. fault_at m.word (mention_fault see es m)) ms

abbrev pub is_earlier_name : View → Bool
is_earlier_name (views.Earlier kind lifted meaning) = true
is_earlier_name view = false

-- whether a name in this place of those that an item declares is declared at an earlier place or beforehand
abbrev pub is_taken_at : (List ℕ → View) → (List ℕ → Option ℕ) → ℕ → List ℕ → Bool
is_taken_at see first place name = is_earlier_name (see name) || is_behind (first name) place

abbrev pub duplicate_code : Bool → Option RuleCode
duplicate_code taken = if taken then Some codes.Duplicate else None

-- the faults of declared names, of which the first has this place
abbrev pub duplicates_from : (List ℕ → View) → (List ℕ → Option ℕ) → ℕ → List Declared → List WordFault
duplicates_from see first place [] = []
duplicates_from see first place (x ∷ xs) =
    fault_at x.word (duplicate_code (is_taken_at see first place x.name))
    ++ duplicates_from see first (suc place) xs

-- ---- enumerators without a value

abbrev pub past_last : Option Value → Option ℤ → Option RuleCode
past_last None (Some number) = if is_enum_number number then None else Some codes.Range
past_last given number = None

-- the faults of enumerators without a value
abbrev pub past_last_faults : List Known → List WordFault
past_last_faults known =
    flat_map (λ k. fault_at k.enumerator.word (past_last k.enumerator.given k.number)) known

-- ---- types that are too high

abbrev pub too_high : Bool → Declared → Option RuleCode
too_high high x = if high && (not x.lifted && suits None x.kind) then Some codes.TooHigh else None

-- the faults of a definition one of whose types is too high
abbrev pub too_high_faults : Bool → List Declared → List WordFault
too_high_faults high names = flat_map (λ x. fault_at x.word (too_high high x)) names

-- ---- words by what they are

-- the fault of a value of the role that has the number
abbrev pub number_fault : ValueRole → ℤ → Option RuleCode
number_fault roles.Enumerator z = if is_enum_number z then None else Some codes.Range
number_fault roles.FixedSize z =
    if is_word_number z then (if is_zero z then Some codes.EmptyArray else None) else Some codes.BadSize
number_fault roles.GreatestSize z = if is_word_number z then None else Some codes.BadSize
number_fault role z = None

-- the fault of a value: a number has none where no constant may have it
abbrev pub value_fault : ValueRole → Value → Option ℤ → Option RuleCode
value_fault role v (Some z) = number_fault role z
value_fault role (Number text) None = Some codes.Range
value_fault role (Named name) None = None

-- the fault of the number of a program, a version or a procedure
abbrev pub spelled_fault : Option ℤ → Option RuleCode
spelled_fault None = Some codes.Range
spelled_fault (Some z) = if is_word_number z then None else Some codes.Range

abbrev pub has_no_class : Option Class → Bool
has_no_class (Some Other) = true
has_no_class class = false

abbrev pub discriminant_fault : Option Class → Option RuleCode
discriminant_fault class = if has_no_class class then Some codes.BadDiscriminant else None

-- the fault of a word by what it is
abbrev pub note_fault : (List ℕ → View) → List Known → ℕ → Note → Option RuleCode
note_fault see known word (ValueNote role v) = value_fault role v (number_by see known (limit_of word) v)
note_fault see known word (NumberNote text) = spelled_fault (number_spelled text)
note_fault see known word MisplacedNote = Some codes.VoidPlace
note_fault see known word (DiscriminantNote d) = discriminant_fault (declaration_class see known d)
note_fault see known word InlineNote = Some codes.InlineArgument

-- the faults of words by what they are
abbrev pub note_faults : (List ℕ → View) → List Known → List NoteAt → List WordFault
note_faults see known ns = flat_map (λ n. fault_at n.word (note_fault see known n.word n.note)) ns

-- ---- names that stand twice

abbrev pub repeat_code : Bool → Option RuleCode
repeat_code behind = if behind then Some codes.RepeatedField else None

-- the faults of names of which the first has this place, by the first place of each
abbrev pub repeats_from : (List ℕ → Option ℕ) → ℕ → List NameAt → List WordFault
repeats_from first place [] = []
repeats_from first place (x ∷ xs) =
    fault_at x.word (repeat_code (is_behind (first x.name) place)) ++ repeats_from first (suc place) xs

-- the faults of the names of a group
abbrev pub repeated_names : List NameAt → List WordFault
repeated_names xs = repeats_from (first_place 0 (map (λ x. x.name) xs)) 0 xs

-- ---- numbers that stand twice

-- a number at a word, if there is one
abbrev pub numbered : ℕ → Option ℤ → List Numbered
numbered word None = []
numbered word (Some z) = record { number = z; word = word } ∷ []

-- those of these numbers that constants may have
abbrev pub spelled_numbers : List NumberAt → List Numbered
spelled_numbers xs = flat_map (λ x. numbered x.word (number_spelled x.text)) xs

-- the cases that have a number
abbrev pub case_numbers : (List ℕ → View) → List Known → List ValueAt → List Numbered
case_numbers see known vs = flat_map (λ v. numbered v.word (number_by see known (limit_of v.word) v.value)) vs

abbrev pub repeated_code : RuleCode → Bool → Option RuleCode
repeated_code code is_new = if is_new then None else Some code

-- the faults of numbers behind others
abbrev pub numbers_behind : RuleCode → List ℤ → List Numbered → List WordFault
numbers_behind code before [] = []
numbers_behind code before (n ∷ ns) =
    fault_at n.word (repeated_code code (not (list_any (int_eq n.number) before)))
    ++ numbers_behind code (n.number ∷ before) ns

-- the faults of numbers that an earlier word has too
abbrev pub repeated_numbers : RuleCode → List Numbered → List WordFault
repeated_numbers code ns = numbers_behind code [] ns

-- the faults of the cases of a union
abbrev pub repeated_cases : (List ℕ → View) → List Known → List ValueAt → List WordFault
repeated_cases see known vs = repeated_numbers codes.RepeatedCase (case_numbers see known vs)

-- the faults of the versions of a program, or of the procedures of a version
abbrev pub repeated_members : Members → List WordFault
repeated_members m =
    repeated_names m.names ++ repeated_numbers codes.RepeatedNumber (spelled_numbers m.numbers)

-- ---- all

-- whether one of the types that the definition declares is too high
abbrev pub has_too_high : Definition → (List ℕ → View) → Bool
has_too_high d see = list_any is_too_high (heights d see)

-- what the rules for bodies find, but that for cases, and those for the members of programs and for heights
abbrev pub body_faults : Definition → (List ℕ → View) → List Known → List WordFault
body_faults d see known =
    flat_map (λ b. repeated_cases see known (cases_of b)) (bodies d)
    ++ (flat_map (λ b. repeated_names (fields_of b)) (bodies d)
    ++ (flat_map repeated_members (members d)
    ++ too_high_faults (has_too_high d see) (declared d)))

-- what is found of a definition by all rules but that for cases, in the order in which the rules are tried;
-- `known` are its enumerators with their numbers
abbrev pub found_by : Definition → (List ℕ → View) → List Known → List WordFault
found_by d see known =
    duplicates_from see (first_place 0 (names_of d)) 0 (declared d)
    ++ (mention_faults see (enumerators d) (mentioned d)
    ++ (note_faults see known (noted d)
    ++ (past_last_faults known
    ++ body_faults d see known)))

abbrev pub found_faults : Definition → (List ℕ → View) → List WordFault
found_faults d see = found_by d see (knowns see (enumerators d))
