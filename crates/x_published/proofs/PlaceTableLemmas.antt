-- What is told beside a fault.
use Rattle.std.proofs.Common.{◌≡◌, ℕ, Bool, true, false, cond, Option, None, Some, List, refl, sym, subst, ap}
use Rattle.std.proofs.Common.{◌∙◌}
use Rattle.std.specs.Prelude.{◌&&◌, option_and_then, option_map}
use Rattle.x_lex.specs.declared.kind.Kind.{Kind}
use Rattle.x_lex.specs.Places.{Lexeme}
use Rattle.x_names.specs.Declarers.{first_declarer}
use Rattle.x_names.specs.declared.names.Declarer.{Declarer}
use Rattle.x_compile.specs.Compile.{IsCompilation, Item, definitions_of}
use Rattle.x_compile.specs.declared.fault.FaultCode.{FaultCode}
use Rattle.x_compile.specs.Known.{KnownText}
use Rattle.x_session.specs.Session.{Compiles}
use Rattle.x_session.specs.declared.declared.FirstPlace.{FirstPlace}
use Rattle.x_explain.specs.declared.facts.FaultNames.{FaultNames}
use Rattle.x_session.specs.DeclaredNames.{declared_at, definition_of, first_place, first_place_by, spot_at}
use Rattle.x_session.specs.DeclaredNames.{word_at}
use Rattle.x_explain.specs.Facts.{AreNamesOf, name_of}
use Rattle.x_session.proofs.DeclaredLemmas.{of_each}
use Rattle.x_positions.specs.declared.range.Range.{Range}
use Rattle.x_positions.specs.declared.encoding.Encoding.{Encoding}
use Rattle.x_published.specs.Diagnostics.{IsRangeAt, declared_elsewhere, is_of_declarer, other_place}

-- ---- beside a fault

chosen : (a b : Bool) (o : Option ℕ) → a ≡ true → b ≡ true → cond (a && b) o None ≡ o
chosen true true o p q = refl
chosen true false o p q = absurd (cc)
chosen false b o p q = absurd (cc)

-- what is found of a text is told beside a fault
pub is_beside : {known : KnownText} (e : Encoding) (front text : List ℕ) (shown : Bool) (code : FaultCode)
    (word : List ℕ) (start : ℕ) (names : FaultNames) (found : Option Range) → shown ≡ true
    → is_of_declarer code ≡ true
    → Compiles known text (λ items. AreNamesOf text items names)
    → ((items : List Item) → AreNamesOf text items names
    → IsRangeAt e front text (declared_elsewhere items (name_of items code start word) start) found)
    → (tokens : List (Kind × ℕ)) (items : List Item) → IsCompilation known text tokens items
    → IsRangeAt e front text (other_place shown items code word start) found
is_beside e front text shown code word start names found is_shown declares made range tokens items is =
    let there = range items (of_each text made tokens items is) in
    subst (λ o. IsRangeAt e front text o found) (sym
    (chosen shown (is_of_declarer code) (declared_elsewhere items
    (name_of items code start word) start) is_shown declares)) there

-- where a name is declared first is where the token is that declares it
start_by : (text : List ℕ) (d : Declarer) (o : Option Lexeme)
    → option_map (λ (f : FirstPlace). f.spot.start)
    (option_map (λ (t : Lexeme). declared_at d (spot_at text t.start)) o) ≡ option_map
    (λ (t : Lexeme). t.start) o
start_by text d None = refl
start_by text d (Some t) = refl

start_of : (text : List ℕ) (items : List Item) (o : Option Declarer)
    → option_map (λ (f : FirstPlace). f.spot.start) (option_and_then (first_place_by text items) o)
    ≡ option_map (λ (t : Lexeme). t.start) (option_and_then (word_at items) o)
start_of text items None = refl
start_of text items (Some d) = start_by text d (word_at items d)

pub start_found : (text : List ℕ) (items : List Item) (name : List ℕ) (r : Option FirstPlace)
    → r ≡ first_place text items name
    → option_map (λ (f : FirstPlace). f.spot.start) r ≡ option_map (λ (t : Lexeme). t.start)
    (definition_of items name)
start_found text items name r is = ap (option_map (λ (f : FirstPlace). f.spot.start)) is
    ∙ start_of text items (first_declarer (definitions_of items) name)
