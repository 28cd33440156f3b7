-- Two buffers of a text.
use Rattle.std.specs.Prelude.{◌≡◌, ℕ, ◌≤◌, List, length, take}

-- a text, and the one that is made ready beside it
pub record Buffered : Type 0 where
  pub text : List ℕ
  pub ready : List ℕ

-- so many first bytes are the same in both
pub record IsShared (text ready : List ℕ) (count : ℕ) : Type 0 where
  pub in_text : count ≤ length text
  pub in_ready : count ≤ length ready
  pub same : take count text ≡ take count ready
