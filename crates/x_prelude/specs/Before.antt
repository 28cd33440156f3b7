-- What stands before a text that is opened: the text of known files, and then the definitions that it lacks.
use Rattle.std.specs.Prelude.{◌≡◌, ◌⊎◌, ℕ, ◌<◌, List, [], ◌∷◌, ◌++◌, length, Option, Result, IfOk}
use Rattle.std.specs.Prelude.{IsErrOf}
use Rattle.x_text.specs.Limits.{most_text}
use Rattle.x_text.specs.declared.text.fault.TextFault.{TextFault}
use Rattle.x_text.specs.declared.text.fault.TextFault.TheVariants as faults
use Rattle.x_trees.specs.Tree.{Definition}
use Rattle.x_compile.specs.Compile.{Item, definitions_of}
use Rattle.x_compile.specs.Known.{KnownText, known_names, nothing_known}
use Rattle.x_session.specs.Session.{Compiles, Document}
use Rattle.x_session.specs.Typed.{IsKnownBy}
use Rattle.x_prelude.specs.Prelude.{prelude}
use Rattle.x_prelude.specs.declared.definition.FromC.{FromC}

-- the definitions of this text are known
abbrev pub IsKnownOf : (text : List ℕ) → KnownText → Type 0
IsKnownOf [] known = known ≡ nothing_known
IsKnownOf (b ∷ bs) known = Compiles nothing_known (b ∷ bs) (λ items. IsKnownBy items known)

-- this holds of what a text defines, item by item, which is the same whatever is known before it
abbrev pub Defines : (text : List ℕ) → (List (Option Definition) → Type 0) → Type 0
Defines text P = (known : KnownText) × Compiles known text (λ items. P (definitions_of items))

-- the definitions that a text lacks behind the text of known files, as far as they may be taken from C
abbrev pub IsPrelude : (files : List ℕ) → FromC → (text prelude : List ℕ) → Type 0
IsPrelude files from text lacking = (known : KnownText) × IsKnownOf files known
    × Defines text (λ definitions. lacking ≡ prelude from (known_names known) definitions)

-- what stands before a text
abbrev pub StandsBefore : (files : List ℕ) → FromC → (text before : List ℕ) → Type 0
StandsBefore files from text before =
    (lacking : List ℕ) × IsPrelude files from text lacking × (before ≡ files ++ lacking)

-- this is known before a text
abbrev pub IsBefore : (files : List ℕ) → FromC → (text : List ℕ) → KnownText → Type 0
IsBefore files from text known =
    (before : List ℕ) × StandsBefore files from text before × IsKnownOf before known

-- what compiling a text gives, over what is known before it
abbrev pub CompilesBy : (files : List ℕ) → FromC → (text : List ℕ) → (List Item → Type 0) → Type 0
CompilesBy files from text P = (known : KnownText) × IsBefore files from text known × Compiles known text P

-- what stands before a text is too large: that of the known files alone, or with what the text lacks
pub data IsCrowded (files : List ℕ) (from : FromC) (text : List ℕ) : Type 0 where
  by_files : most_text < length files → IsCrowded files from text
  by_names : (before : List ℕ) → StandsBefore files from text before → most_text < length before
      → IsCrowded files from text

-- What opening a text comes to, over the definitions of another: a session; or one of the two is too large.
pub record IsOpenOver (before base bytes : List ℕ) (result : Result Document TextFault) : Type 0 where
  pub base_is : IfOk result (λ s. s.base ≡ base)
  pub text_is : IfOk result (λ s. s.text ≡ bytes)
  pub known_is : IfOk result (λ s. IsKnownOf before s.known)
  pub items : IfOk result (λ s. Compiles s.known s.text (λ items. s.item_seat ≡ length items))
  pub large : IsErrOf result faults.TooLarge → (most_text < length bytes) ⊎ (most_text < length before)
  pub in_range : IsErrOf result faults.BadRange → ⊥

-- over what stands before it
pub record IsOpenBy (files : List ℕ) (from : FromC) (base bytes : List ℕ)
    (result : Result Document TextFault) : Type 0 where
  pub base_is : IfOk result (λ s. s.base ≡ base)
  pub text_is : IfOk result (λ s. s.text ≡ bytes)
  pub known_is : IfOk result (λ s. IsBefore files from bytes s.known)
  pub too_large : most_text < length bytes → IsErrOf result faults.TooLarge
  pub large : IsErrOf result faults.TooLarge → (most_text < length bytes) ⊎ IsCrowded files from bytes
  pub in_range : IsErrOf result faults.BadRange → ⊥
