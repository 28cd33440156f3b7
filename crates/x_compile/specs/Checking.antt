-- What the program keeps of what checking items found, and what it says of it.
use Rattle.std.specs.Prelude.{◌≡◌, ℕ, false, List, [], ◌∷◌, map, Option, None, Some, option_map, slice_get}
use Rattle.std.specs.Prelude.{if◌then◌else◌}
use Rattle.std.specs.Global.{Box}
use Rattle.x_text.specs.Counts.{Counts}
use Rattle.x_streams.specs.Counters.{raised}
use Rattle.x_trees.specs.Tree.{Definition}
use Rattle.x_trees.specs.declared.names.declared_name.NameKind.TheVariants as kinds
use Rattle.x_rules.specs.Views.{View, Earlier}
use Rattle.x_trees.specs.Spell.{IsShort}
use Rattle.x_names.specs.Declarers.{is_beforehand}
use Rattle.x_rules.specs.Results.{AreResults, KnownNames, Outcome, beforehand_meaning, known_or}
use Rattle.x_rules.specs.Results.{view_of}
use Rattle.x_rules.specs.declared.fault.WordFault.{WordFault}
use Rattle.x_names.specs.declared.names.Declarer.{Declarer}
use Rattle.x_pieces.specs.Pieces.{Pieces}
use Rattle.x_pieces.specs.Rendering.{pieces_of}
use Rattle.x_compile.specs.Compile.{rule_faults}
use Rattle.x_compile.specs.Counting.{faults_found}
use Rattle.x_compile.specs.KeptView.{found_pieces, found_result, kept_definition, kept_found, renewed_pieces}
use Rattle.x_compile.specs.declared.content.CheckResult.{CheckResult}
use Rattle.x_compile.specs.declared.content.Content.{Content}

-- the definition of an item, if it has one, has fewer than 2^64 words
abbrev pub IsShortAt : Option Definition → Type 0
IsShortAt definition = (d : Definition) → definition ≡ Some d → IsShort d

-- what is counted once each of these definitions has been checked
abbrev pub all_checked : Counts → List (Option Definition) → Counts
all_checked counts [] = counts
all_checked counts (None ∷ ds) = all_checked counts ds
all_checked counts (Some d ∷ ds) = all_checked (record counts { checked = raised counts.checked 1 }) ds

-- what an item sees of a name, by what is known before the text, by first declarers and by results
abbrev pub view_by_first : KnownNames → (List ℕ → Option Declarer) → (ℕ → Option Outcome) → ℕ → List ℕ → View
view_by_first known first results item name =
    if is_beforehand name then Earlier kinds.Constant false (beforehand_meaning name)
    else known_or (known name) (view_of results item (first name))

-- the definition, unless it has faults by the rules
abbrev pub sound : Option Definition → List WordFault → Option Definition
sound d [] = d
sound d (f ∷ fs) = None

-- what is generated of a definition, by what checking it gives
abbrev pub sound_pieces : Option Definition → Option Outcome → Option Pieces
sound_pieces d o = option_map pieces_of (sound d (rule_faults o))

-- the definitions of items, by what is kept with each
abbrev pub kept_definitions : List Content → List (Option Definition)
kept_definitions ks = map kept_definition ks

-- of the definition the pieces that it has, if any, are generated
abbrev pub IsMade : Content → Type 0
IsMade k =
    (p : Pieces) → found_pieces (kept_found k) ≡ Some p → option_map pieces_of (kept_definition k) ≡ Some p

-- the item has pieces exactly where its definition has no fault, and they are generated of it
abbrev pub IsSound : Content → Type 0
IsSound k = found_pieces (kept_found k) ≡ sound_pieces (kept_definition k) (found_result (kept_found k))

-- so it will be with each of these items, once it has what was found of it
abbrev pub AreRendered : List Content → List (Option (Box CheckResult)) → Type 0
AreRendered [] [] = Unit {0}
AreRendered (k ∷ ks) (r ∷ rs) =
    (renewed_pieces (found_pieces (kept_found k)) r ≡ sound_pieces (kept_definition k) (found_result r))
    × AreRendered ks rs
AreRendered ks rs = ⊥

-- each item has what was found of it, and nothing was found of one without a definition
abbrev pub AreKnown : List Content → List (Option (Box CheckResult)) → Type 0
AreKnown [] [] = Unit {0}
AreKnown (k ∷ ks) (r ∷ rs) = (kept_definition k ≡ None → r ≡ None) × AreKnown ks rs
AreKnown ks rs = ⊥

-- nothing was found of the item at an index where it has no definition
abbrev pub IsKnownAt : List Content → ℕ → Option (Box CheckResult) → Type 0
IsKnownAt ks index r = (k : Content) → slice_get ks index ≡ Some k → kept_definition k ≡ None → r ≡ None

-- this is what checking these items gives, and so many faults
pub record AreChecked (known : KnownNames) (ks : List Content) (rs : List (Option (Box CheckResult)))
    (faults : ℕ) : Type 0 where
  pub results : AreResults known (kept_definitions ks) (map found_result rs)
  pub rendered : AreRendered ks rs
  pub count : faults ≡ faults_found ks rs
