-- Words and slices of bytes.
use Rattle.std.proofs.Common.{lit<, inl, inr, take, drop, ◌≡◌, ℕ, ◌+◌, ◌*◌, ◌^◌, ◌<◌, ◌≤◌, List, [], ◌∷◌}
use Rattle.std.proofs.Common.{◌++◌, length, get_or, refl, sym, ap, ◌∙◌, arith}
use Rattle.std.specs.Int.{from_be_bytes, to_be_bytes, w32, w64}
use Rattle.std.proofs.lemmas.Nat.{be_bytes_4}
use Rattle.std.proofs.lemmas.Bool.{cases_lt}
use Rattle.std.proofs.lemmas.List.{take-append-drop, length-take, get_or-take, get_or_past}
use Rattle.byteorder.specs.Endian.{big_number}
use Rattle.x_units.specs.Units.{word}

-- the two ways to say what four bytes read as
pub big_number_4 : (bytes : List ℕ) → big_number 4 bytes ≡ from_be_bytes w32 bytes
big_number_4 bytes = omega arith

pub big_number_8 : (bytes : List ℕ) → big_number 8 bytes ≡ from_be_bytes w64 bytes
big_number_8 bytes = omega arith

take_fits : (n : ℕ) (bs : List ℕ) → ((i : ℕ) → get_or bs i 0 < 256) → (i : ℕ) → get_or (take n bs) i 0 < 256
take_fits n bs h i =
    elim (cases_lt i n) [
      | inl lt ↦ rw (get_or-take n bs i 0 lt) (h i)
      | inr le ↦ rw (get_or_past (take n bs) i 0 (omega (arith, length-take n bs))) (lit< tt)
    ]

-- the word that four bytes read as is these bytes
pub word_read : (w : ℕ) (front rest bytes : List ℕ) → front ≡ take 4 bytes → rest ≡ drop 4 bytes
    → 4 ≤ length bytes → ((i : ℕ) → get_or bytes i 0 < 256) → w ≡ from_be_bytes w32 front
    → bytes ≡ word w ++ rest
unfolding word
word_read w front rest bytes f r len fits is =
    sym (take-append-drop 4 bytes)
    ∙ ap (λ t. t ++ drop 4 bytes)
    (sym (be_bytes_4 (take 4 bytes) w (length-take 4 bytes ∙ omega arith) (take_fits 4 bytes fits)
    (is ∙ ap (λ t. from_be_bytes w32 t) f))) ∙ ap (λ t. to_be_bytes w32 w ++ t) (sym r)

-- a slice cut in three
pub cut_in_three : (n k : ℕ) (bytes a b c d : List ℕ) → a ≡ take n bytes → b ≡ drop n bytes → c ≡ take k b
    → d ≡ drop k b → bytes ≡ a ++ (c ++ d)
cut_in_three n k bytes a b c d ea eb ec ed =
    sym (take-append-drop n bytes) ∙ ap (λ t. t ++ drop n bytes) (sym ea) ∙ ap (λ t. a ++ t) (sym eb)
    ∙ ap (λ t. a ++ t) (sym (take-append-drop k b)) ∙ ap (λ t. a ++ (t ++ drop k b)) (sym ec)
    ∙ ap (λ t. a ++ (c ++ t)) (sym ed)
