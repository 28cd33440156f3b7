-- What a text says of a word with a fault.
use Rattle.std.specs.Prelude.{ℕ, Bool, true, false, List, Option, None, map, option_map}
use Rattle.std.specs.Prelude.{if◌then◌else◌, unwrap_or}
use Rattle.x_trees.specs.declared.names.declared_name.NameKind.{NameKind}
use Rattle.x_rules.specs.declared.fault.RuleCode.TheVariants.{Duplicate, LateName, NotType, NotConst}
use Rattle.x_compile.specs.Compile.{Item}
use Rattle.x_compile.specs.declared.fault.FaultCode.{FaultCode}
use Rattle.x_compile.specs.declared.fault.FaultCode.TheVariants.{Rule}
use Rattle.x_explain.specs.declared.facts.FaultFacts.{FaultFacts}
use Rattle.x_explain.specs.declared.facts.FaultNames.{FaultNames}
use Rattle.x_explain.specs.declared.facts.Known as rust
use Rattle.x_explain.specs.AgainNames.{AreAgain, again_at}
use Rattle.x_session.specs.DeclaredNames.{IsTableOf}
use Rattle.x_session.specs.Foreign.{ForeignName, view_all}
use Rattle.x_explain.specs.KnownFiles.{FirstDeclaration, KnownPlaces, first_declaration, places_of_files}
use Rattle.x_explain.specs.KnownFiles.{view_first}
use Rattle.x_explain.specs.Suggestions.{AreSuggested, is_unknown, suggested_at, view_suggestion}

-- the code says something of how its word is declared
abbrev pub is_of_declarer : FaultCode → Bool
is_of_declarer (Rule Duplicate) = true
is_of_declarer (Rule LateName) = true
is_of_declarer (Rule NotType) = true
is_of_declarer (Rule NotConst) = true
is_of_declarer code = false

-- where the word is declared first, if that matters to the fault
abbrev pub first_of : KnownPlaces → List ℕ → List Item → FaultCode → List ℕ → Option FirstDeclaration
first_of before text items code word =
    if is_of_declarer code then first_declaration before text items word else None

-- what a name is declared as
abbrev pub kind_of : Option FirstDeclaration → Option NameKind
kind_of first = option_map (λ f. f.place.kind) first

-- what is suggested for the word at a place, if it is undeclared
abbrev pub suggested_for : List (ℕ × Option (List ℕ)) → FaultCode → (start : ℕ) → Option (List ℕ)
suggested_for near code start = if is_unknown code then suggested_at near start else None

-- the name that a fault is about: the word, or the whole name of an inline type that it declares again
abbrev pub name_of : List Item → FaultCode → (start : ℕ) → (word : List ℕ) → List ℕ
name_of items (Rule Duplicate) start word = unwrap_or (again_at items start) word
name_of items code start word = word

-- that name, where it is declared first, and what it may have been meant as
pub record Known : Type 0 where
  pub name : List ℕ
  pub first : Option FirstDeclaration
  pub suggested : Option (List ℕ)

-- what is known of a word that starts at a place, by what is known before the text, and by what is suggested
-- for its words
abbrev pub known_of : KnownPlaces → List ℕ → List Item → List (ℕ × Option (List ℕ)) → FaultCode
    → (start : ℕ) → (word : List ℕ) → Known
known_of before text items near code start word = record {
  name = name_of items code start word;
  first = first_of before text items code (name_of items code start word);
  suggested = suggested_for near code start;
}

-- what the program knows of it
abbrev pub view_known : rust.Known → Known
view_known k = record {
  name = k.name.now;
  first = option_map view_first k.first;
  suggested = option_map (λ n. n.now) k.suggested;
}

-- what the program has of a text is right
pub record AreNamesOf (text : List ℕ) (items : List Item) (names : FaultNames) : Type 0 where
  pub table : IsTableOf text items names.declared
  pub again : AreAgain items names.again

abbrev pub near_in : FaultFacts → List (ℕ × Option (List ℕ))
near_in facts = map view_suggestion facts.suggestions.list.items

abbrev pub before_in : FaultFacts → KnownPlaces
before_in facts = places_of_files facts.files.now.list.items

abbrev pub foreign_in : FaultFacts → List ForeignName
foreign_in facts = view_all facts.foreign.items

pub record AreFactsOf (text : List ℕ) (items : List Item) (facts : FaultFacts) : Type 0 where
  pub names : AreNamesOf text items facts.names
  pub near : AreSuggested text items (near_in facts)
