-- The first places of what is looked for in a list.
use Rattle.std.specs.Prelude.{◌≡◌, ℕ, suc, nat_lt, Bool, false, List, [], ◌∷◌, Option, Some, None}
use Rattle.std.specs.Prelude.{if◌then◌else◌}
use Rattle.std.specs.Map.{lookup}
use Rattle.std.specs.Str.{bytes_eq}

-- the place of the first of these that passes the test, where the first of them has this number
abbrev pub first_from : {X : Type 0} → (X → Bool) → ℕ → List X → Option ℕ
first_from test n [] = None
first_from test n (x ∷ xs) = if test x then Some n else first_from test (suc n) xs

-- the place of the first of these names that is this one, likewise
abbrev pub first_place : ℕ → List (List ℕ) → List ℕ → Option ℕ
first_place n names name = first_from (bytes_eq name) n names

-- whether there is a first place, and it is before this one
abbrev pub is_behind : Option ℕ → ℕ → Bool
is_behind None place = false
is_behind (Some first) place = nat_lt first place

-- the table has the place of the first item of each key
pub record HasFirsts {K X : Type 0} (eq : K → K → Bool) (has_key : X → K → Bool) (entries : List (K × ℕ))
    (items : List X) : Type 0 where
  pub at : (key : K) → lookup (eq key) entries ≡ first_from (λ x. has_key x key) 0 items
