-- Lists of entries that each have a length, and what takes the place of some entries. `size` gives the length
-- of an entry.
use Rattle.std.specs.Prelude.{◌≡◌, ℕ, ◌+◌, ◌^◌, ◌<◌, ◌≤◌, List, [], ◌∷◌, length, take}
use Rattle.std.specs.List.{splice}
use Rattle.x_lists.specs.Seqs.{Gapped}

-- the length of all entries together
abbrev pub total_length : {T : Type 0} → (T → ℕ) → List T → ℕ
total_length size [] = 0
total_length size (x ∷ xs) = size x + total_length size xs

-- the length of the first entries together: where the one at an index starts
abbrev pub length_before : {T : Type 0} → (T → ℕ) → List T → ℕ → ℕ
length_before size xs index = total_length size (take index xs)

-- Of the first entries, up to so many, the most that end before the limit: that many, or 0.
pub record IsCountBefore {T : Type 0} (size : T → ℕ) (xs : List T) (most limit count : ℕ) : Type 0 where
  pub within : count ≤ most
  pub before : 0 < count → length_before size xs count < limit
  pub next : count < most → limit ≤ length_before size xs (count + 1)

-- the place is where the entry behind the seat starts, and all places fit into 64 bits
pub record IsPlaced {T : Type 0} (size : T → ℕ) (entries : Gapped T) (place : ℕ) : Type 0 where
  pub within : entries.seat ≤ length entries.list
  pub short : total_length size entries.list < 2 ^ 64
  pub placed : place ≡ length_before size entries.list entries.seat

-- fresh entries in place of `removed` old ones from index `at` on; `start` is where the first of them starts
pub record Patch (T : Type 0) : Type 0 where
  pub at : ℕ
  pub removed : ℕ
  pub start : ℕ
  pub fresh : List T

-- the entries that the patch leaves
abbrev pub patched : {T : Type 0} → List T → Patch T → List T
patched xs patch = splice xs patch.at (patch.at + patch.removed) patch.fresh

-- the entries that the patch takes out are among these
abbrev pub LiesAmong : {T : Type 0} → List T → Patch T → Type 0
LiesAmong xs patch = patch.at + patch.removed ≤ length xs

-- there is room for the fresh entries beside all old ones
abbrev pub HasRoom : {T : Type 0} → Gapped T → Patch T → Type 0
HasRoom entries patch = length patch.fresh ≤ entries.spare
