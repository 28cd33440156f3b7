-- The items of a text before an edit and after it.
use Rattle.std.specs.Prelude.{◌≡◌, ◌<◌, ◌≤◌, ℕ, ◌+◌, ◌-◌, ◌^◌, nat_lt, List, length, Option, Some, None}
use Rattle.std.specs.Prelude.{slice_get, option_and_then, if◌then◌else◌}
use Rattle.std.specs.List.{splice}
use Rattle.x_trees.specs.Tree.{Definition}
use Rattle.x_names.specs.Declarers.{AreShort}
use Rattle.x_rules.specs.Results.{KnownNames, Outcome, AreResults, result_at}
use Rattle.x_uses.specs.declared.uses.ItemSplice.{ItemSplice}

-- what a list of definitions has for an item
abbrev pub definition_at : List (Option Definition) → ℕ → Option Definition
definition_at definitions item = option_and_then (λ d. d) (slice_get definitions item)

-- the number that an item had before the edit, unless it is fresh
abbrev pub old_number : ItemSplice → ℕ → Option ℕ
old_number place k =
    if nat_lt k place.at then Some k
    else (if nat_lt k (place.at + place.added) then None else Some (k - place.added + place.removed))

-- the number that an item has after the edit, unless it goes
abbrev pub new_number : ItemSplice → ℕ → Option ℕ
new_number place j =
    if nat_lt j place.at then Some j
    else (if nat_lt j (place.at + place.removed) then None else Some (j - place.removed + place.added))

-- the result that an item had before the edit, unless it is fresh
abbrev pub old_result : ItemSplice → List (Option Outcome) → ℕ → Option Outcome
old_result place outcomes k = option_and_then (result_at outcomes) (old_number place k)

-- What is known of names before a text, the definitions of its items, and what checking them found.
pub record CheckedText : Type 0 where
  pub known : KnownNames
  pub definitions : List (Option Definition)
  pub outcomes : List (Option Outcome)

-- An edit of a text: what is known of names before it, the definitions of its items and what checking them
-- found, the place, and the definitions that are put there.
pub record TextEdit : Type 0 where
  pub known : KnownNames
  pub old : List (Option Definition)
  pub outcomes : List (Option Outcome)
  pub place : ItemSplice
  pub put : List (Option Definition)

-- an edit of this text, which puts these definitions in at the place
abbrev pub edit_at : CheckedText → ItemSplice → List (Option Definition) → TextEdit
edit_at text place put = record {
  known = text.known;
  old = text.definitions;
  outcomes = text.outcomes;
  place = place;
  put = put;
}

-- the definitions after the edit
abbrev pub definitions_after : TextEdit → List (Option Definition)
definitions_after e = splice e.old e.place.at (e.place.at + e.place.removed) e.put

-- how many items there are after the edit
abbrev pub count_after : TextEdit → ℕ
count_after e = length (definitions_after e)

-- The place lies within the text, and `added` items are put in there; the outcomes are those of the
-- definitions, each of which has fewer than 2^64 words; and old and new items are fewer than 2^32 together.
pub record IsEdit (e : TextEdit) : Type 0 where
  pub within : e.place.at + e.place.removed ≤ length e.old
  pub added : e.place.added ≡ length e.put
  pub few : length e.old + length e.put < 2 ^ 32
  pub results : AreResults e.known e.old e.outcomes
  pub short : AreShort e.old
  pub short_put : AreShort e.put
