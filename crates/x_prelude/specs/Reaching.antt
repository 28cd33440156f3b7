-- A walk from item to item, as private functions take it.
use Rattle.std.specs.Prelude.{◌≡◌, ◌+◌, ◌<◌, ℕ, Bool, true, false, not, ◌&&◌, List, ◌++◌, All, Contains}
use Rattle.std.specs.Prelude.{Option, Some, length, option_map, slice_get, slice_index_or}
use Rattle.std.specs.List.{count_by, filter}
use Rattle.x_trees.specs.Tree.{Definition}
use Rattle.x_trees.specs.Mentions.{Mention}
use Rattle.x_names.specs.Declarers.{AreShort, first_declarer}
use Rattle.x_names.specs.declared.names.Declarer.{Declarer}
use Rattle.x_rules.specs.Results.{KnownNames}
use Rattle.x_prelude.specs.Lacking.{Occurrence, is_lacking}
use Rattle.x_prelude.specs.Leading.{AreLed, first_led, foreign_uses}
use Rattle.x_prelude.specs.Prelude.{is_type}
use Rattle.x_prelude.specs.declared.definition.FromC.{FromC}
use Rattle.x_prelude.specs.declared.leading.Reached.{Reached}

-- whether an item is marked
abbrev pub is_marked : List Bool → ℕ → Bool
is_marked marks item = slice_index_or marks item false

-- of so many items exactly those are marked that were reached, once each
pub record AreReached (count : ℕ) (r : Reached) : Type 0 where
  pub counted : length r.marks.items ≡ count
  pub listed : (item : ℕ) → is_marked r.marks.items item ≡ true → Contains r.order.items item
  pub marked : All (λ item. is_marked r.marks.items item ≡ true) r.order.items
  pub room : length r.order.items + count_by not r.marks.items ≡ count

-- these items are reached behind those before, and no others
pub record GoesOnTo (items : List ℕ) (count : ℕ) (old new : Reached) : Type 0 where
  pub more : List ℕ
  pub order_is : new.order.items ≡ old.order.items ++ more
  pub only : All (Contains items) more
  pub all : All (Contains new.order.items) items
  pub reached : AreReached count new

-- a table of names leads to one of so many items
abbrev pub LeadsWithin : ℕ → (List ℕ → Option Declarer) → Type 0
LeadsWithin count first = (name : List ℕ) (at : Declarer) → first name ≡ Some at → at.item < count

-- a table of names is that of these definitions
abbrev pub AreNamesOf : List (Option Definition) → (List ℕ → Option Declarer) → Type 0
AreNamesOf definitions first =
    AreShort definitions × ((name : List ℕ) → first name ≡ first_declarer definitions name)

-- the word of the first of these mentions that is one of a name of C in no table
abbrev pub foreign_word : FromC → KnownNames → (List ℕ → Option Declarer) → List Mention → Option ℕ
foreign_word from known first mentions = option_map (λ m. m.word)
    (slice_get (filter (λ m. is_lacking known first m.name && not (is_type from m.name)) mentions) 0)

-- the item and the word of an occurrence
abbrev pub occurrence_place : Occurrence → ℕ × ℕ
occurrence_place o = (o.item, o.mention.word)

-- the item and the word of the first name of C that an item leads to, if it leads to any
pub record IsFirstLed (from_c : FromC) (known : KnownNames) (definitions : List (Option Definition))
    (from : ℕ) (found : Option (ℕ × ℕ)) : Type 0 where
  pub is_led : ℕ → Bool
  pub led : AreLed definitions from is_led
  pub first : found ≡ option_map occurrence_place (first_led is_led (foreign_uses from_c known definitions))
