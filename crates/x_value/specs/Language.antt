-- Languages: lists of bytes, each with what its units are and what is shown of it. L x r n says that x is in
-- L, that its units are r, and that n is shown of it. Nothing here knows which bytes are values.
use Rattle.std.specs.Prelude.{◌≡◌, ℕ, ◌*◌, ◌<◌, List, [], ◌∷◌, ◌++◌, length}
use Rattle.x_value.specs.Shown.{Node}
use Rattle.x_value.specs.Readings.{UnitRole}

abbrev pub Language : Type 1
Language = List ℕ → List UnitRole → List Node → Type 0

-- What may stand behind the front, in the one language, is the other.
pub record Leads (from : Language) (front : List ℕ) (told : List UnitRole) (shown : List Node)
    (to : Language) : Type 0 where
  pub on : (x : List ℕ) (y : List UnitRole) (n : List Node) → to x y n →
      from (front ++ x) (told ++ y) (shown ++ n)
  pub back : (x : List ℕ) (z : List UnitRole) (m : List Node) → from (front ++ x) z m →
      (y : List UnitRole) × (n : List Node) × (z ≡ told ++ y) × (m ≡ shown ++ n) × to x y n

-- a list of the language begins with the front
pub record Begins (L : Language) (front : List ℕ) : Type 0 where
  pub rest : List ℕ
  pub told : List UnitRole
  pub shown : List Node
  pub is_in : L (front ++ rest) told shown

abbrev pub NotIn : Language → List ℕ → Type 0
NotIn L x = (z : List UnitRole) (n : List Node) → L x z n → ⊥

-- no list of the language is a proper front of another, and each has as many units as it tells
pub record IsOfUnits (L : Language) : Type 0 where
  pub one_end : (a b : List ℕ) (y z : List UnitRole) (n m : List Node) → L a y n → L (a ++ b) z m → b ≡ []
  pub units : (a : List ℕ) (y : List UnitRole) (n : List Node) → L a y n → length a ≡ 4 * length y

-- The unit at a place is the first that no list of the language goes on with: and why.
pub record Stuck (L : Language) (faulty : UnitRole → List ℕ → Type 0) (m : List ℕ) (at : ℕ) : Type 0 where
  pub front : List ℕ
  pub unit : List ℕ
  pub rest : List ℕ
  pub parts : m ≡ front ++ (unit ++ rest)
  pub place : at ≡ length front
  pub wide : length unit ≡ 4
  pub begun : Begins L front
  pub unfinished : NotIn L front
  pub ended : (x : List ℕ) (z : List UnitRole) (n : List Node) → L (front ++ (unit ++ x)) z n → ⊥
  pub cause : (x : List ℕ) (z : List UnitRole) (n : List Node) → L (front ++ x) z n →
      (q : List UnitRole) × (r : UnitRole) × (y : List UnitRole) × (z ≡ q ++ (r ∷ y)) ×
      (length front ≡ 4 * length q) × faulty r unit

-- The list ends too early: its whole units are the front of a longer list of the language.
pub record Short (L : Language) (m : List ℕ) (at : ℕ) : Type 0 where
  pub front : List ℕ
  pub tail : List ℕ
  pub parts : m ≡ front ++ tail
  pub place : at ≡ length m
  pub begun : Begins L front
  pub units : ℕ
  pub whole : length front ≡ 4 * units
  pub part : length tail < 4
  pub unfinished : NotIn L front

-- A list of the language is a proper front.
pub record Trailing (L : Language) (m : List ℕ) (at : ℕ) : Type 0 where
  pub front : List ℕ
  pub more : List ℕ
  pub told : List UnitRole
  pub shown : List Node
  pub parts : m ≡ front ++ more
  pub place : at ≡ length front
  pub is_in : L front told shown
  pub some : 0 < length more
