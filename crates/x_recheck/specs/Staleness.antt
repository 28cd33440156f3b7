-- Which items an edit makes stale.
use Rattle.std.specs.Prelude.{◌≡◌, ◌<◌, ◌≤◌, ◌↔◌, ℕ, suc, nat_eq, List, [], ◌∷◌, map, Option, Some}
use Rattle.std.specs.Prelude.{None, if◌then◌else◌}
use Rattle.std.specs.List.{IsAmong}
use Rattle.std.specs.Option.{option_or}
use Rattle.x_text.specs.Counts.{Counts}
use Rattle.x_streams.specs.Counters.{raised}
use Rattle.x_trees.specs.Tree.{Definition}
use Rattle.x_rules.specs.Results.{Outcome, AreResults, result_at, view_by}
use Rattle.x_trees.specs.Seen.{names_of}
use Rattle.x_recheck.specs.Editing.{TextEdit, count_after, definition_at, definitions_after}
use Rattle.x_recheck.specs.Editing.{old_number, old_result}
use Rattle.x_recheck.specs.declared.rechecking.Rechecked.{Rechecked}

-- what the item k sees of the name after the edit, by the results `after`, is another than what it saw as the
-- item j before
abbrev pub SeesOtherwise : TextEdit → List (Option Outcome) → ℕ → ℕ → List ℕ → Type 0
SeesOtherwise e after j k name =
    view_by e.known e.old (result_at e.outcomes) j name
    ≡ view_by e.known (definitions_after e) (result_at after) k name → ⊥

-- an item of this old number sees one of these names otherwise than before; a fresh one counts as outdated,
-- whatever it sees
abbrev pub IsOutdated : TextEdit → List (Option Outcome) → Option ℕ → ℕ → List (List ℕ) → Type 0
IsOutdated e after None k names = Unit {0}
IsOutdated e after (Some j) k names = (name : List ℕ) × IsAmong names name × SeesOtherwise e after j k name

-- The item has a definition; and it is fresh, or it sees a name that it declares or mentions otherwise than
-- before. What it sees of a name (a view) is who declares it first (nobody, an earlier item, itself, a later
-- one; TRUE and FALSE come before all), as what, and where that is earlier what the name means.
pub record IsStale (e : TextEdit) (after : List (Option Outcome)) (k : ℕ) : Type 0 where
  pub definition : Definition
  pub has : definition_at (definitions_after e) k ≡ Some definition
  pub outdated : IsOutdated e after (old_number e.place k) k (names_of definition)

-- these numbers ascend, from `low` on
abbrev pub Ascending : ℕ → List ℕ → Type 0
Ascending low [] = Unit {0}
Ascending low (k ∷ ks) = (low ≤ k) × Ascending (suc k) ks

-- these are the numbers of the stale items, in order
pub record AreStale (e : TextEdit) (after : List (Option Outcome)) (ks : List ℕ) : Type 0 where
  pub ascend : Ascending 0 ks
  pub each : (k : ℕ) → IsAmong ks k ↔ IsStale e after k

-- the numbers of the items that were checked
abbrev pub items_of : List Rechecked → List ℕ
items_of rechecked = map (λ r. r.item) rechecked

-- what was found of an item anew, if it was checked
abbrev pub new_result : List Rechecked → ℕ → Option Outcome
new_result [] k = None
new_result (r ∷ rs) k = if nat_eq k r.item then Some r.checked else new_result rs k

-- the result of an item once these were checked: what was found anew, or else what it was before
abbrev pub result_after : TextEdit → List Rechecked → ℕ → Option Outcome
result_after e rechecked k = option_or (new_result rechecked k) (old_result e.place e.outcomes k)

-- what is counted once so many more items were checked
abbrev pub checked_more : Counts → ℕ → Counts
checked_more counts n = record counts { checked = raised counts.checked n }

-- some items were checked, or none, and nothing else was counted
abbrev pub CountsChecks : Counts → Counts → Type 0
CountsChecks before now = (n : ℕ) × (now ≡ checked_more before n)

-- Of the stale items, and of no other, it was found anew what checking them gives; so each item has its
-- result.
pub record IsRecheck (e : TextEdit) (rechecked : List Rechecked) : Type 0 where
  pub after : List (Option Outcome)
  pub results : AreResults e.known (definitions_after e) after
  pub stale : AreStale e after (items_of rechecked)
  pub each : (k : ℕ) → k < count_after e → result_after e rechecked k ≡ result_at after k
