-- What a definition leads to, by the names that it uses: whether a name is among it that a text takes from C
-- and of which nothing is known.
use Rattle.std.specs.Prelude.{◌≡◌, ℕ, Bool, true, false, not, List, [], ◌∷◌, Contains, Option, Some, None}
use Rattle.std.specs.Prelude.{option_and_then, slice_get}
use Rattle.std.specs.List.{filter, flat_map}
use Rattle.x_trees.specs.Tree.{Definition}
use Rattle.x_trees.specs.Mentions.{Mention, mentioned}
use Rattle.x_names.specs.Declarers.{first_declarer}
use Rattle.x_names.specs.declared.names.Declarer.{Declarer}
use Rattle.x_rules.specs.Results.{KnownNames}
use Rattle.x_compile.specs.Compile.{Item, definitions_of}
use Rattle.x_compile.specs.Known.{KnownText, known_names}
use Rattle.x_session.specs.declared.declared.Spot.{Spot}
use Rattle.x_prelude.specs.Before.{IsKnownOf}
use Rattle.x_prelude.specs.Foreign.{spot_of}
use Rattle.x_prelude.specs.Lacking.{Occurrence, lacking, name_of}
use Rattle.x_prelude.specs.Prelude.{is_type}
use Rattle.x_prelude.specs.declared.definition.FromC.{FromC}

-- ---- from item to item

-- the item that declares a name first, if one does
abbrev pub declaring : Option Declarer → List ℕ
declaring None = []
declaring (Some at) = at.item ∷ []

-- the items that declare first what these mentions use
abbrev pub declaring_all : (List ℕ → Option Declarer) → List Mention → List ℕ
declaring_all first mentions = flat_map (λ m. declaring (first m.name)) mentions

-- those that declare first what a definition uses
abbrev pub declaring_used : (List ℕ → Option Declarer) → Option Definition → List ℕ
declaring_used first None = []
declaring_used first (Some d) = declaring_all first (mentioned d)

-- those that declare first what the item at a place uses
abbrev pub used_by : List (Option Definition) → ℕ → List ℕ
used_by definitions item = declaring_used (first_declarer definitions)
    (option_and_then (λ d. d) (slice_get definitions item))

-- An item leads to itself, and to those that declare what is used by one that it leads to.
pub data LeadsTo (definitions : List (Option Definition)) (from : ℕ) : ℕ → Type 0 where
  itself : LeadsTo definitions from from
  goes_on : {via to : ℕ} → LeadsTo definitions from via → Contains (used_by definitions via) to
      → LeadsTo definitions from to

-- the test finds the items that one leads to
pub record AreLed (definitions : List (Option Definition)) (from : ℕ) (is_led : ℕ → Bool) : Type 0 where
  pub leads : (item : ℕ) → is_led item ≡ true → LeadsTo definitions from item
  pub all : (item : ℕ) → LeadsTo definitions from item → is_led item ≡ true

-- ---- to a name of C

-- the mentions of names that a text takes from C and that are no types in the table
abbrev pub foreign_uses : FromC → KnownNames → List (Option Definition) → List Occurrence
foreign_uses from known definitions = filter (λ o. not (is_type from (name_of o))) (lacking known definitions)

-- the first of these mentions that stands in an item which the test finds
abbrev pub first_led : (ℕ → Bool) → List Occurrence → Option Occurrence
first_led is_led mentions = slice_get (filter (λ o. is_led o.item) mentions) 0

-- The place where the definition of a name leads to a name of C first, in the order of the text, behind
-- these known names: none where no name is taken from C, nor where the text does not declare the name.
pub data IsForeignUseBy (known : KnownNames) (from : FromC) (text : List ℕ) (items : List Item)
    (name : List ℕ) (spot : Option Spot) : Type 0 where
  not_taken : from.foreign ≡ false → spot ≡ None → IsForeignUseBy known from text items name spot
  undeclared : first_declarer (definitions_of items) name ≡ None → spot ≡ None
      → IsForeignUseBy known from text items name spot
  declared : from.foreign ≡ true → (at : Declarer)
      → first_declarer (definitions_of items) name ≡ Some at
      → (is_led : ℕ → Bool) → AreLed (definitions_of items) at.item is_led
      → spot ≡ option_and_then (spot_of text items)
      (first_led is_led (foreign_uses from known (definitions_of items)))
      → IsForeignUseBy known from text items name spot

-- behind known files
abbrev pub IsForeignUse : (files : List ℕ) → FromC → (text : List ℕ) → List Item → (name : List ℕ)
    → Option Spot → Type 0
IsForeignUse files from text items name spot = (known : KnownText) × IsKnownOf files known
    × IsForeignUseBy (known_names known) from text items name spot
