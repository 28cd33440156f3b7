-- Items as they are kept, and what takes the place of some of them.
use Rattle.std.specs.Prelude.{ℕ, ◌+◌, ◌<◌, ◌≤◌, List, length, map}
use Rattle.x_lists.specs.Lengths.{total_length, length_before, Patch}
use Rattle.x_text.specs.declared.text.source.TheConstants.{MAX_TEXT}
use Rattle.x_cutting.specs.declared.cutting.item_entry.ItemEntry.{ItemEntry}
pub use Rattle.x_lists.specs.Lengths.{patched, LiesAmong, HasRoom}

-- how many tokens an item has
abbrev pub tokens_in : {K : Type 0} → ItemEntry K → ℕ
tokens_in entry = entry.tokens

-- how many tokens each item has
abbrev pub counts : {K : Type 0} → List (ItemEntry K) → List ℕ
counts entries = map tokens_in entries

-- how many bytes it is said that each has
abbrev pub byte_counts : {K : Type 0} → List (ItemEntry K) → List ℕ
byte_counts entries = map (λ entry. entry.bytes) entries

-- what is kept with each
abbrev pub kept : {K : Type 0} → List (ItemEntry K) → List K
kept entries = map (λ entry. entry.kept) entries

-- how many tokens items have together, where each has so many
abbrev pub total : List ℕ → ℕ
total cs = total_length (λ c. c) cs

-- how many tokens stand before the item at an index
abbrev pub tokens_before : List ℕ → ℕ → ℕ
tokens_before cs i = length_before (λ c. c) cs i

-- there is an item, and there are no more items and tokens than a text can have
pub record AreOfText (cs : List ℕ) : Type 0 where
  pub some : 0 < length cs
  pub few : length cs ≤ MAX_TEXT + 1
  pub short : total cs ≤ MAX_TEXT

-- fresh items in place of `removed` old ones from index `at` on; `start` is the index of the first token of
-- the first of them
abbrev pub ItemChange : Type 0 → Type 0
ItemChange K = Patch (ItemEntry K)
