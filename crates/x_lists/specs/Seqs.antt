-- Lists with room for more entries.
use Rattle.std.specs.Prelude.{ℕ, ◌+◌, ◌-◌, List}

-- a list, how many more entries it has room for, and how many kept entries it has moved since it was made
pub record Roomy (T : Type 0) : Type 0 where
  pub list : List T
  pub spare : ℕ
  pub moved : ℕ

-- The same for a list that is cut at a seat: the entries before it stand in one part, the others in another.
-- An entry is moved when it is taken from one part and put on the other.
pub record Gapped (T : Type 0) : Type 0 where
  pub list : List T
  pub seat : ℕ
  pub spare : ℕ
  pub moved : ℕ

-- how far a seat is from the range from `at` to before `end`: how many entries lie between them
abbrev pub distance : ℕ → ℕ → ℕ → ℕ
distance seat at end = (at - seat) + (seat - end)
