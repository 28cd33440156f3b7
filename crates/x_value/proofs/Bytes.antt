-- Words, bodies and their padding.
use Rattle.std.proofs.Common.{lit<, Bool, true, false, ◌&&◌, ◌≡◌, ℕ, zero, suc, ◌+◌, ◌*◌, ◌%◌, ◌^◌, ◌<◌, ◌≤◌}
use Rattle.std.proofs.Common.{List, [], ◌∷◌, ◌++◌, length, get_or, refl, sym, ap, ◌∙◌, append_assoc, arith}
use Rattle.std.specs.Int.{from_be_bytes, w32}
use Rattle.std.proofs.lemmas.Nat.{from_be_bytes-to_be_bytes_4}
use Rattle.std.specs.Prelude.{nat_eq}
use Rattle.std.proofs.lemmas.Bool.Decides.{nat_tests}
use Rattle.std.proofs.lemmas.List.{length-append}
use Rattle.x_units.specs.Units.{word, copies, padding, are_zeros}
use Rattle.x_value.specs.Readings.{IsByteList, Free, Padded, body_roles}
use Rattle.x_value.proofs.Fronts.{cut_same}

-- ---- words

pub word_length : (n : ℕ) → length (word n) ≡ 4
unfolding word
word_length n = refl

pub word_from : (n : ℕ) → n < 2 ^ 32 → from_be_bytes w32 (word n) ≡ n
unfolding word
word_from n lt = from_be_bytes-to_be_bytes_4 n lt

pub word_cancel : (a b : ℕ) (x y : List ℕ) → a < 2 ^ 32 → b < 2 ^ 32 → word a ++ x ≡ word b ++ y
    → (a ≡ b) × (x ≡ y)
word_cancel a b x y la lb e =
    let c = cut_same (word a) x (word b) y e (word_length a ∙ sym (word_length b)) in
    (sym (word_from a la) ∙ ap (λ v. from_be_bytes w32 v) c.0 ∙ word_from b lb, c.1)

pub copies_length : {A : Type 0} (n : ℕ) (x : A) → length (copies n x) ≡ n
copies_length zero x = refl
copies_length (suc n) x = ap suc (copies_length n x)

pub IsByteList_of : (bs : List ℕ) → ((i : ℕ) → get_or bs i 0 < 256) → IsByteList bs
IsByteList_of [] h = tt
IsByteList_of (b ∷ bs) h = (h 0, IsByteList_of bs (λ i. h (suc i)))

both_true : (a b : Bool) → (a && b) ≡ true → (a ≡ true) × (b ≡ true)
both_true true b h = (refl, h)
both_true false b h = absurd cc

true_eq : (a b : ℕ) → nat_eq a b ≡ true → a ≡ b
true_eq a b h = grind (arith, nat_tests)

pub zeros_copies : (n : ℕ) (p : List ℕ) → length p ≡ n → are_zeros p ≡ true → p ≡ copies n 0
zeros_copies zero [] e h = refl
zeros_copies zero (x ∷ p) e h = absurd (omega arith)
zeros_copies (suc n) [] e h = absurd (omega arith)
zeros_copies (suc n) (x ∷ p) e h =
    let both = both_true (nat_eq x 0) (are_zeros p) h in
    let zero_is : x ≡ 0 = true_eq x 0 both.0 in
    let rest = zeros_copies n p (omega arith) both.1 in
    ap (λ t. t ∷ p) zero_is ∙ ap (λ t. 0 ∷ t) rest

-- ---- padding

pad_again : (n : ℕ) → padding (suc (suc (suc (suc n)))) ≡ padding n
unfolding padding
pad_again n = omega arith

-- a body and its padding fill whole units
pub body_units : (n : ℕ) → n + padding n ≡ 4 * length (body_roles n)
unfolding padding
body_units zero = refl
body_units (suc zero) = refl
body_units (suc (suc zero)) = refl
body_units (suc (suc (suc zero))) = refl
body_units (suc (suc (suc (suc n)))) = let ih = body_units n in let p = pad_again n in omega arith

-- no fewer whole units have room for the body
pub padding_least : (n q : ℕ) → 4 * q < n + padding n → 4 * q ≤ n
unfolding padding
padding_least n q h = omega arith

-- the last unit of a body that does not fill it
pub roles_padded : (q k : ℕ) → 0 < k → k < 4 → body_roles (4 * q + k) ≡ copies q Free ++ (Padded k ∷ [])
roles_padded zero zero p lt = absurd (omega arith)
roles_padded zero (suc zero) p lt = refl
roles_padded zero (suc (suc zero)) p lt = refl
roles_padded zero (suc (suc (suc zero))) p lt = refl
roles_padded zero (suc (suc (suc (suc k)))) p lt = absurd (omega arith)
roles_padded (suc q) k p lt =
    let e : 4 * suc q + k ≡ suc (suc (suc (suc (4 * q + k)))) = omega arith in
    ap body_roles e ∙ ap (λ t. Free ∷ t) (roles_padded q k p lt)

pub zeros_true : (n : ℕ) → are_zeros (copies n 0) ≡ true
zeros_true zero = refl
zeros_true (suc n) = zeros_true n

pub IsByteList-append : (a b : List ℕ) → IsByteList a → IsByteList b → IsByteList (a ++ b)
IsByteList-append [] b h k = k
IsByteList-append (x ∷ a) b h k = (h.0, IsByteList-append a b h.1 k)

pub IsByteList-zeros : (n : ℕ) → IsByteList (copies n 0)
IsByteList-zeros zero = tt
IsByteList-zeros (suc n) = (lit< tt, IsByteList-zeros n)

pub IsByteList-left : (a b : List ℕ) → IsByteList (a ++ b) → IsByteList a
IsByteList-left [] b h = tt
IsByteList-left (x ∷ a) b h = (h.0, IsByteList-left a b h.1)

pub IsByteList-right : (a b : List ℕ) → IsByteList (a ++ b) → IsByteList b
IsByteList-right [] b h = h
IsByteList-right (x ∷ a) b h = IsByteList-right a b h.1

pub unit_full : (q k : ℕ) → 0 < k → k < 4 → k + padding (4 * q + k) ≡ 4
unfolding padding
unit_full q k p l = omega arith

pub pad_left : (n : ℕ) → 0 < padding n → 0 < n % 4
unfolding padding
pad_left n h = omega arith

-- the bytes of a body of so many bytes
pub body_cancel : (a b x y : List ℕ) → length a ≡ length b → (a ++ copies (padding (length a)) 0) ++ x
    ≡ (b ++ copies (padding (length b)) 0) ++ y → (a ≡ b) × (x ≡ y)
body_cancel a b x y same e =
    let e' : a ++ (copies (padding (length a)) 0 ++ x) ≡ b ++ (copies (padding (length b)) 0 ++ y) =
    sym (append_assoc a (copies (padding (length a)) 0) x) ∙ e
    ∙ append_assoc b (copies (padding (length b)) 0) y in
    let d = cut_same a (copies (padding (length a)) 0 ++ x) b (copies (padding (length b)) 0 ++ y) e' same in
    let p : padding (length a) ≡ padding (length b) = ap (λ v. padding v) same in
    let f = cut_same (copies (padding (length a)) 0) x (copies (padding (length b)) 0) y d.1
    (copies_length _ 0 ∙ p ∙ sym (copies_length _ 0)) in
    (d.0, f.1)

pub body_length : (bs : List ℕ) → length (bs ++ copies (padding (length bs)) 0)
    ≡ length bs + padding (length bs)
body_length bs = length-append bs (copies {A = ℕ} (padding (length bs)) 0)
    ∙ ap (λ t. length bs + t) (copies_length (padding (length bs)) 0)
