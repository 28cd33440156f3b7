-- What is shown of a value: nodes, each with its level, what it is called, and what stands there.
use Rattle.std.specs.Prelude.{ℕ, ℤ, Bool, List}

pub data Label : Type 0 where
  -- a declared name
  Name : List ℕ → Label
  -- an element of an array
  Index : ℕ → Label
  -- what a link leads to
  Star : Label
  -- what a procedure takes, and what it gives
  Arguments : Label
  Results : Label

pub data Leaf : Type 0 where
  Signed : ℤ → Leaf
  Unsigned : ℕ → Leaf
  Truth : Bool → Leaf
  Enumerator : List ℕ → ℤ → Leaf
  Hex : List ℕ → Leaf
  Text : List ℕ → Leaf
  Array : ℕ → Leaf
  Null : Leaf
  Link : Leaf
  Struct : Leaf
  Union : Leaf
  Void : Leaf

pub record Node : Type 0 where
  pub level : ℕ
  pub label : Label
  pub leaf : Leaf

abbrev pub node : ℕ → Label → Leaf → Node
node level label leaf = record { level = level; label = label; leaf = leaf }
