-- Where the first byte of a kind parts a list.
use Rattle.std.proofs.Common.{◌≡◌, ℕ, ◌+◌, ◌<◌, false, List, [], ◌∷◌, length, take, drop, get_or, eqb, Option}
use Rattle.std.proofs.Common.{None, Some, arith, ap, ◌∙◌, ne_eqb, eq-eqb}
use Rattle.std.specs.List.{slice_split, All, position_or_len}
use Rattle.std.proofs.lemmas.List.Splits.{slice_split_none, slice_split_first}
use Rattle.std.proofs.lemmas.List.Sums.{position_or_len_is}
use Rattle.std.proofs.lemmas.List.Elements.{All-from_get_or}
use Rattle.memchr.specs.Find.{IsFirstByte, is_byte}

-- the list has none of the byte
pub has_none : (c : ℕ) (bs : List ℕ) (r : Option ℕ) → IsFirstByte (is_byte c) bs r → r ≡ None
    → All (λ x. eqb x c ≡ false) bs
has_none c bs None first none = All-from_get_or (λ x. eqb x c ≡ false) bs 0
    (λ k lt. ne_eqb (get_or bs k 0) c (λ e. first k (omega arith) lt (eq-eqb (get_or bs k 0) c e)))
has_none c bs (Some at) first none = absurd (cc)

pub unsplit : (c : ℕ) (bs : List ℕ) (r : Option ℕ) → IsFirstByte (is_byte c) bs r → r ≡ None
    → slice_split (λ b. eqb b c) bs ≡ bs ∷ []
unsplit c bs r first none = slice_split_none (λ b. eqb b c) bs (has_none c bs r first none)

-- the first byte of the kind stands at this place
pub first_is : (c : ℕ) (bs : List ℕ) (r : Option ℕ) (at : ℕ) → IsFirstByte (is_byte c) bs r → r ≡ Some at
    → (at < length bs) × (position_or_len (λ b. eqb b c) bs ≡ at)
first_is c bs None at first some = absurd (cc)
first_is c bs (Some k) at first some =
    let same : k ≡ at = cc in
    let here : position_or_len (λ b. eqb b c) bs ≡ k =
    position_or_len_is (λ b. eqb b c) bs k 0 (let lt = first.0.high in omega arith)
    (λ j lt. ne_eqb (get_or bs j 0) c (λ e. first.0.before j (omega arith) lt (eq-eqb (get_or bs j 0) c e)))
    (λ _. first.1) in
    (let lt = first.0.high in omega arith, here ∙ same)

pub split_at : (c : ℕ) (bs : List ℕ) (r : Option ℕ) (at : ℕ) → IsFirstByte (is_byte c) bs r → r ≡ Some at
    → slice_split (λ b. eqb b c) bs ≡ take at bs ∷ slice_split (λ b. eqb b c) (drop (at + 1) bs)
split_at c bs r at first some =
    let is = first_is c bs r at first some in
    slice_split_first (λ b. eqb b c) bs 0 (let lt = is.0 in let e = is.1 in omega arith)
    ∙ ap (λ k. take k bs ∷ slice_split (λ b. eqb b c) (drop (k + 1) bs)) is.1
