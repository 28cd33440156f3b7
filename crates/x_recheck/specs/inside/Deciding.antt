-- What is known of the items while those are checked that an edit makes stale.
use Rattle.std.specs.Prelude.{◌≡◌, ◌<◌, ◌≤◌, ◌↔◌, ◌⊎◌, ℕ, ◌+◌, Bool, true, false, List, map}
use Rattle.std.specs.Prelude.{slice_get, Option, Some, None}
use Rattle.std.specs.BTreeSet.{contains}
use Rattle.std.specs.Cow.{cow_slice_items}
use Rattle.std.specs.List.{IsAmong}
use Rattle.std.specs.Ordering.{nat_cmp}
use Rattle.x_text.specs.Counts.{Counts}
use Rattle.x_trees.specs.Tree.{Definition}
use Rattle.x_trees.specs.declared.names.declared_name.DeclaredName.{DeclaredName}
use Rattle.x_trees.specs.View.{tree_at}
use Rattle.x_names.specs.Declarers.{first_declarer}
use Rattle.x_names.specs.declared.names.Declarer.{Declarer}
use Rattle.x_rules.specs.Results.{Outcome, AreResults, result_at, meaning_at, meaning_in, view_by}
use Rattle.x_trees.specs.Seen.{names_of}
use Rattle.x_uses.specs.declared.uses.ItemSplice.{ItemSplice}
use Rattle.x_recheck.specs.Editing.{CheckedText, TextEdit, edit_at, count_after, definitions_after, IsEdit}
use Rattle.x_recheck.specs.Editing.{definition_at, old_number}
use Rattle.x_uses.specs.Occurrences.{Definitions, UseTable, IsUsesOf}
use Rattle.x_recheck.specs.Staleness.{Ascending, IsStale, checked_more, items_of, result_after}
use Rattle.x_recheck.specs.declared.rechecking.Rechecked.{Rechecked}
use Rattle.x_recheck.specs.declared.rechecking.edited_items.EditedItems.{EditedItems}
use Rattle.x_recheck.specs.declared.rechecking.queue.Queue.{Queue}

-- an edit whose uses are told by these tables
pub record HasTables (e : TextEdit) (uses fresh : UseTable) : Type 0 where
  pub edit : IsEdit e
  pub old_uses : IsUsesOf e.old uses
  pub put_uses : IsUsesOf e.put fresh

-- the edit that the program has of a text that is seen so
abbrev pub text_edit : {L : Type 0} → (L → CheckedText) → EditedItems L → TextEdit
text_edit text items = edit_at (text items.old.now) items.place (map tree_at items.put.now)

abbrev pub AreEditedItems : {L : Type 0} → (L → CheckedText) → EditedItems L → Type 0
AreEditedItems text items = HasTables (text_edit text items) items.uses.now items.fresh.now

-- ---- what an item sees

-- the item of this old number sees the name after the edit, by these results, as it did before
abbrev pub SeesSame : TextEdit → (ℕ → Option Outcome) → ℕ → ℕ → List ℕ → Type 0
SeesSame e results was k name = view_by e.known e.old (result_at e.outcomes) was name
    ≡ view_by e.known (definitions_after e) results k name

-- it sees one of these names otherwise
abbrev pub SeesOther : TextEdit → (ℕ → Option Outcome) → ℕ → ℕ → List (List ℕ) → Type 0
SeesOther e results was k names = (name : List ℕ) × IsAmong names name × (SeesSame e results was k name → ⊥)

-- the item o of the text before is that of this old number; it went, where the item now is fresh
abbrev pub IsFormer : ItemSplice → ℕ → Option ℕ → Type 0
IsFormer place o None = (place.at ≤ o) × (o < place.at + place.removed)
IsFormer place o (Some j) = o ≡ j

-- first declarers before and after the edit are alike to each kept item, but for what the name means
abbrev pub IsAlike : ItemSplice → Option Declarer → Option Declarer → Type 0
IsAlike place None None = Unit {0}
IsAlike place None (Some f) = ⊥
IsAlike place (Some o) None = ⊥
IsAlike place (Some o) (Some f) = IsFormer place o.item (old_number place f.item) × (o.kind ≡ f.kind)
    × (o.lifted ≡ f.lifted)

-- ---- what is known of items

-- the first declarers of the name are alike
abbrev pub HasAlike : TextEdit → List ℕ → Type 0
HasAlike e name = IsAlike e.place (first_declarer e.old name) (first_declarer (definitions_after e) name)

-- where the first declarer of the name has a number below `low`, the name means what it meant
abbrev pub MeansSame : TextEdit → List (Option Outcome) → List ℕ → ℕ → Type 0
MeansSame e after name low = (o f : Declarer) → first_declarer e.old name ≡ Some o
    → first_declarer (definitions_after e) name ≡ Some f
    → f.item < low → meaning_at (result_at e.outcomes) o ≡ meaning_at (result_at after) f

-- an item with a definition is kept
abbrev pub IsOfOld : TextEdit → ℕ → Type 0
IsOfOld e k = (d : Definition) → definition_at (definitions_after e) k ≡ Some d
    → (was : ℕ) × (old_number e.place k ≡ Some was)

-- the item is kept, and declares or uses the name
pub record IsKeptUser (e : TextEdit) (k : ℕ) (name : List ℕ) : Type 0 where
  pub definition : Definition
  pub was : ℕ
  pub has : definition_at (definitions_after e) k ≡ Some definition
  pub kept : old_number e.place k ≡ Some was
  pub sees : IsAmong (names_of definition) name

-- an item with a definition is kept, and sees each of its names as before
pub record IsUnchanged (e : TextEdit) (after : List (Option Outcome)) (k : ℕ) : Type 0 where
  pub kept : IsOfOld e k
  pub same : (name : List ℕ) → (u : IsKeptUser e k name) → SeesSame e (result_at after) u.was k name

-- so it is by what is known of the items below `low`
pub record IsSettled (e : TextEdit) (after : List (Option Outcome)) (low k : ℕ) : Type 0 where
  pub kept : IsOfOld e k
  pub alike : (name : List ℕ) → IsKeptUser e k name → HasAlike e name
  pub means : (name : List ℕ) → IsKeptUser e k name → MeansSame e after name low

-- The results of the items below `low` are found, and each item from there on that does not wait is settled.
pub record IsDecided (e : TextEdit) (after : List (Option Outcome)) (waits : ℕ → Bool)
    (rechecked : List Rechecked) (low : ℕ) : Type 0 where
  pub each : (j : ℕ) → j < low → result_after e rechecked j ≡ result_at after j
  pub ascend : Ascending 0 (items_of rechecked)
  pub stale : (j : ℕ) → IsAmong (items_of rechecked) j ↔ ((j < low) × IsStale e after j)
  pub settled : (k : ℕ) → low ≤ k → k < count_after e → waits k ≡ false → IsSettled e after low k

-- all kept users of the name wait, unless its first declarers are alike
abbrev pub IsCovered : TextEdit → (ℕ → Bool) → List ℕ → Type 0
IsCovered e waits name = (k : ℕ) → k < count_after e → IsKeptUser e k name → waits k ≡ false → HasAlike e name

-- so it is for each name that this item declares first, by these definitions
abbrev pub AreCoveredAt : TextEdit → (ℕ → Bool) → Definitions → ℕ → Type 0
AreCoveredAt e waits definitions item = (d : Definition) → definition_at definitions item ≡ Some d
    → (name : List ℕ) (f : Declarer) → first_declarer definitions name ≡ Some f
    → f.item ≡ item → IsCovered e waits name

-- so it is for each name that one of these items declares first, from `low` to before `high`
abbrev pub AreCovered : TextEdit → (ℕ → Bool) → Definitions → ℕ → ℕ → Type 0
AreCovered e waits definitions low high =
    (name : List ℕ) (f : Declarer) → first_declarer definitions name ≡ Some f
    → low ≤ f.item → f.item < high → IsCovered e waits name

-- all kept users of the name behind the item `low` wait, unless it is not first declared there or means what
-- it meant
abbrev pub IsSpread : TextEdit → List (Option Outcome) → (ℕ → Bool) → ℕ → List ℕ → Type 0
IsSpread e after waits low name = (k : ℕ) → low < k → k < count_after e → IsKeptUser e k name
    → waits k ≡ false
    → (o f : Declarer) → first_declarer e.old name ≡ Some o
    → first_declarer (definitions_after e) name ≡ Some f → f.item ≡ low
    → meaning_at (result_at e.outcomes) o ≡ meaning_at (result_at after) f

-- this is a first declarer of the name, before the edit or after it
abbrev pub IsFirst : TextEdit → List ℕ → Declarer → Type 0
IsFirst e name f = (first_declarer e.old name ≡ Some f) ⊎ (first_declarer (definitions_after e) name ≡ Some f)

-- the name stands in this place of those that are listed of a definition
pub record IsNamed (names : List DeclaredName) (place : ℕ) (name : List ℕ) : Type 0 where
  pub declared : DeclaredName
  pub there : slice_get names place ≡ Some declared
  pub is : cow_slice_items declared.name ≡ name

-- ---- items that wait

abbrev pub is_waiting : Queue → ℕ → Bool
is_waiting queue k = contains nat_cmp queue.items k

-- the queue has no fewer items than before, and those that are new have these numbers
pub record AddsItems (before now : Queue) (low high : ℕ) : Type 0 where
  pub keeps : (k : ℕ) → is_waiting before k ≡ true → is_waiting now k ≡ true
  pub range : (k : ℕ) → is_waiting now k ≡ true → is_waiting before k ≡ false → (low ≤ k) × (k < high)

-- the same, with numbers from `low` on of items that the text has then
abbrev pub AddsItemsFrom : TextEdit → Queue → Queue → ℕ → Type 0
AddsItemsFrom e before now low = AddsItems before now low (count_after e)

-- what was found of an item: nothing where it is unchanged
abbrev pub IsFoundAs : TextEdit → List (Option Outcome) → ℕ → Option Outcome → Type 0
IsFoundAs e after k None = IsUnchanged e after k
IsFoundAs e after k (Some c) = IsStale e after k × (Some c ≡ result_at after k)

-- the items below `low` are decided, and only others wait
pub record IsReady (e : TextEdit) (queue : Queue) (rechecked : List Rechecked) (low : ℕ) : Type 0 where
  pub within : low ≤ count_after e
  pub range : (k : ℕ) → is_waiting queue k ≡ true → (low ≤ k) × (k < count_after e)
  pub ascend : Ascending 0 (items_of rechecked)
  pub decided : (after : List (Option Outcome)) → AreResults e.known (definitions_after e) after
      → IsDecided e after (is_waiting queue) rechecked low

-- a turn decided the item of this number; or none waited, and all items are decided
abbrev pub HasAdvanced : TextEdit → ℕ → Option ℕ → List Rechecked → Queue → Type 0
HasAdvanced e low None rechecked queue =
    (after : List (Option Outcome)) → AreResults e.known (definitions_after e) after
    → IsDecided e after (λ k. true) rechecked (count_after e)
HasAdvanced e low (Some k) rechecked queue = (low ≤ k) × (k < count_after e)
    × IsReady e queue rechecked (k + 1)

-- what was found of an item is counted
abbrev pub counts_found : Counts → Option Outcome → Counts
counts_found counts None = counts
counts_found counts (Some c) = checked_more counts 1

-- the same of what was counted behind so many checks
abbrev pub CountsOn : Counts → Counts → Type 0
CountsOn before now = (base : Counts) (n : ℕ) → before ≡ checked_more base n
    → (m : ℕ) × (now ≡ checked_more base m)

-- where the item declares the name first in this place, it means there what it meant, by what was found of
-- the item
abbrev pub IsMeantAs : TextEdit → ℕ → ℕ → Outcome → List ℕ → Type 0
IsMeantAs e item place found name = (o f : Declarer) → first_declarer e.old name ≡ Some o
    → first_declarer (definitions_after e) name ≡ Some f → f.item ≡ item → f.place ≡ place
    → meaning_at (result_at e.outcomes) o ≡ meaning_in found place

-- so it is where a kept user of the name behind the item does not wait
abbrev pub IsWaitedFor : TextEdit → ℕ → ℕ → Outcome → (ℕ → Bool) → List ℕ → Type 0
IsWaitedFor e item place found waits name = (k : ℕ) → item < k → k < count_after e → IsKeptUser e k name
    → waits k ≡ false → IsMeantAs e item place found name
