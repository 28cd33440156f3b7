-- A walk over the faults of the items of a text.
use Rattle.std.specs.Prelude.{◌≡◌, ℕ, ◌+◌, ◌≤◌, List, [], ◌∷◌, length, take, drop, map, All}
use Rattle.x_lex.specs.declared.kind.Kind.{Kind}
use Rattle.x_lex.specs.Places.{Lexeme, lexemes}
use Rattle.x_lex.specs.Tiling.{end_of}
use Rattle.x_cutting.specs.declared.cutting.item_entry.ItemEntry.{ItemEntry}
use Rattle.x_item.specs.Parse as parse
use Rattle.x_item.specs.Parse.{Parse}
use Rattle.x_rules.specs.Rules.{Ascends}
use Rattle.x_rules.specs.declared.fault.WordFault.{WordFault}
use Rattle.x_compile.specs.Compile.{places_from, rule_faults, start_of}
use Rattle.x_compile.specs.KeptView.{IsMarked, byte_count, found_result, items_with, kept_found}
use Rattle.x_compile.specs.ItemReading.{ItemReading, place_read, unread}
use Rattle.x_compile.specs.declared.fault.FaultPlace.{FaultPlace}
use Rattle.x_compile.specs.declared.fault.FaultCode.{FaultCode}
use Rattle.x_compile.specs.declared.fault.FaultCode.TheVariants as codes
use Rattle.x_compile.specs.declared.content.Content.{Content}
use Rattle.x_compile.specs.declared.content.Verdict.{Verdict}
use Rattle.x_compile.specs.declared.content.Verdict.TheVariants.{Syntax, Rule, Rules}
use Rattle.x_compile.specs.declared.item_faults.ItemFaults.{ItemFaults}
use Rattle.x_compile.specs.declared.reader.WordPlace.{WordPlace}

-- the faults of an item, by its parse and by the rules
abbrev pub IsToldBy : Parse → List WordFault → Verdict → Type 0
IsToldBy (parse.Fault token code) ruled (Syntax at why) = (at ≡ token) × (why ≡ code)
IsToldBy (parse.Fault token code) ruled told = ⊥
IsToldBy p ruled (Syntax at why) = ⊥
IsToldBy p ruled (Rule fault) = ruled ≡ fault ∷ []
IsToldBy p ruled (Rules faults) = faults.now ≡ ruled

-- a fault of an item at a place
abbrev pub found_at : ℕ → WordPlace × FaultCode → FaultPlace
found_at item found = record { item = item; token = found.0.token; start = found.0.start; code = found.1 }

-- a fault by the rules, at its place
abbrev pub rule_at : ItemReading → WordFault → WordPlace × FaultCode
rule_at r f = (place_read r f.word, codes.Rule f.code)

-- the faults of an item that are left, at their places
abbrev pub places_left : ItemReading → Verdict → List (WordPlace × FaultCode)
places_left r (Syntax at why) = (record { token = at; start = start_of (unread r) at }, codes.Syntax why) ∷ []
places_left r (Rule fault) = rule_at r fault ∷ []
places_left r (Rules faults) = map (rule_at r) faults.now

-- the faults of an item that are left
abbrev pub faults_here : ItemFaults → List FaultPlace
faults_here i = map (found_at i.number) (places_left i.reader i.told)

-- the words of faults come in order, and none before the last word that was read
abbrev pub IsOnward : ItemReading → List WordFault → Type 0
IsOnward r [] = Unit {0}
IsOnward r (f ∷ fs) = (r.words ≤ f.word + 1) × Ascends (f ∷ fs)

abbrev pub TellsOn : ItemReading → Verdict → Type 0
TellsOn r (Syntax at why) = Unit {0}
TellsOn r (Rule fault) = IsOnward r (fault ∷ [])
TellsOn r (Rules faults) = IsOnward r faults.now

abbrev pub IsTelling : ItemFaults → Type 0
IsTelling i = TellsOn i.reader i.told

-- the faults of these items by the rules come in order
abbrev pub AreOrdered : List (ItemEntry Content) → Type 0
AreOrdered entries = All (λ e. Ascends (rule_faults (found_result (kept_found e.kept)))) entries

-- Items one behind another, which have the first of these tokens: it is said of each how many bytes these
-- have, whether it has faults, and which one if that is said.
abbrev pub ArePassed : List Lexeme → List (ItemEntry Content) → Type 0
ArePassed tokens [] = Unit {0}
ArePassed tokens (e ∷ es) = (e.tokens ≤ length tokens)
    × (e.bytes ≡ byte_count (take e.tokens tokens))
    × IsMarked e.kept × ArePassed (drop e.tokens tokens) es

-- items stand in a text from a token on, which starts at this place
pub record StandAt (text : List ℕ) (tokens : List (Kind × ℕ)) (token start : ℕ)
    (entries : List (ItemEntry Content)) : Type 0 where
  pub within : token ≤ length tokens
  pub start_is : start ≡ end_of tokens token
  pub passed : ArePassed (drop token (lexemes text tokens)) entries

-- the faults of these items, which have the tokens of a text from an index on; the first has this number
abbrev pub faults_behind : List ℕ → List (Kind × ℕ) → ℕ → ℕ → List (ItemEntry Content) → List FaultPlace
faults_behind text tokens token number entries =
    places_from number (items_with (drop token (lexemes text tokens)) entries)
