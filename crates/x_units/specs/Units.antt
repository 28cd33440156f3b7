-- Units of four bytes (RFC 4506, section 3).
use Rattle.std.specs.Prelude.{◌≡◌, ℕ, zero, suc, ◌-◌, ◌%◌, Bool, List, [], ◌∷◌, ◌++◌, length, nat_eq}
use Rattle.std.specs.Int.{to_be_bytes, w32}
use Rattle.std.specs.List.{list_all}

-- a number of four bytes, the high byte first
unfoldable pub word : ℕ → List ℕ
word n = to_be_bytes w32 n

-- how many zero bytes stand behind n bytes
unfoldable pub padding : ℕ → ℕ
padding n = (4 - n % 4) % 4

abbrev pub copies : {A : Type 0} → ℕ → A → List A
copies zero x = []
copies (suc n) x = x ∷ copies n x

abbrev pub are_zeros : List ℕ → Bool
are_zeros bs = list_all (λ b. nat_eq b 0) bs

-- a body of so many bytes, what fills its last unit up, and the rest, one behind another
pub record SplitsBody (len : ℕ) (bytes body filling rest : List ℕ) : Type 0 where
  pub parts : bytes ≡ body ++ (filling ++ rest)
  pub long : length body ≡ len
  pub full : length filling ≡ padding len
