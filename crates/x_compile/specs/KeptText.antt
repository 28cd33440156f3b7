-- What a session keeps beside its text.
use Rattle.std.specs.Prelude.{◌≡◌, ◌≤◌, ◌+◌, ℕ, List, Option, IfSome, length, map, All}
use Rattle.x_text.specs.declared.text.source.TheConstants.{MAX_TEXT}
use Rattle.x_lex.specs.declared.kind.Kind.{Kind}
use Rattle.x_lex.specs.Tiling.{AreTokens}
use Rattle.x_lex.specs.Places.{lexemes}
use Rattle.x_cutting.specs.declared.cutting.item_entry.ItemEntry.{ItemEntry}
use Rattle.x_names.specs.Declarers.{AreShort}
use Rattle.x_rules.specs.Results.{AreResults}
use Rattle.x_uses.specs.Occurrences.{IsUsesOf, UseTable}
use Rattle.x_compile.specs.Checking.{IsSound}
use Rattle.x_compile.specs.Known.{KnownText, known_names}
use Rattle.x_compile.specs.Compile.{Item, faults_of}
use Rattle.x_compile.specs.KeptView.{AreParsed, entry_definitions, entry_results, items_with, kept_part}
use Rattle.x_compile.specs.declared.content.Content.{Content}

-- the items of a text by what the program keeps of them
abbrev pub items_of : List ℕ → List (Kind × ℕ) → List (ItemEntry Content) → List Item
items_of text tokens entries = items_with (lexemes text tokens) entries

-- All that is kept of a text, before which this is known, is what compiling it from scratch gives.
pub record IsKept (known : KnownText) (text : List ℕ) (tokens : List (Kind × ℕ))
    (entries : List (ItemEntry Content)) (faults : ℕ) (uses : Option UseTable) : Type 0 where
  pub are_tokens : AreTokens text tokens
  pub parsed : AreParsed (lexemes text tokens) entries
  pub short : AreShort (entry_definitions entries)
  pub are_results : AreResults (known_names known) (entry_definitions entries) (entry_results entries)
  pub sound : All (λ e. IsSound e.kept) entries
  pub few : length (map (λ e. kept_part e.kept) entries) ≤ MAX_TEXT + 1
  pub count_is : faults ≡ length (faults_of text (items_of text tokens entries))
  pub uses_are : IfSome uses (IsUsesOf (entry_definitions entries))
