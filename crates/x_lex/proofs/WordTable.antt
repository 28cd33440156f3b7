-- The table of the bytes of words says of each byte what their definition says.
use Rattle.std.proofs.Common.{◌≡◌, ℕ, zero, suc, ◌+◌, ◌<◌, Bool, true, false, not, ◌&&◌, ◌==◌, List, [], ◌∷◌}
use Rattle.std.proofs.Common.{length, slice_index, refl, ap, ◌∙◌, arith}
use Rattle.std.proofs.lemmas.Bool.{false≢true}
use Rattle.x_lex.specs.Bytes.{is_word_byte}
use Rattle.x_lex.specs.declared.scan.classes.TheConstants.{WORD_BYTES}

abbrev same : Bool → Bool → Bool
same true q = q
same false q = not q

same_is : (p q : Bool) → same p q ≡ true → p ≡ q
same_is true true is = refl
same_is true false is = absurd (false≢true is)
same_is false true is = absurd (false≢true is)
same_is false false is = refl

first_of : (p q : Bool) → (p && q) ≡ true → p ≡ true
first_of true q is = refl
first_of false q is = absurd (false≢true is)

second_of : (p q : Bool) → (p && q) ≡ true → q ≡ true
second_of true q is = is
second_of false q is = absurd (false≢true is)

-- each byte of the table, the first of which stands for
-- byte i, is a dot just where that byte stands in no word
agrees : List ℕ → ℕ → Bool
agrees [] i = true
agrees (b ∷ bs) i = same (not (b == 46)) (is_word_byte i) && agrees bs (suc i)

same_byte : (i j : ℕ) → i ≡ j → is_word_byte i ≡ is_word_byte j
same_byte i j is = ap is_word_byte is

told_at : (bs : List ℕ) (i k : ℕ) → agrees bs i ≡ true → k < length bs
    → not (slice_index bs k == 46) ≡ is_word_byte (i + k)
unfolding agrees
told_at [] i k is within = absurd (omega (arith, within))
told_at (b ∷ bs) i zero is within =
    same_is (not (b == 46)) (is_word_byte i)
    (first_of (same (not (b == 46)) (is_word_byte i)) (agrees bs (suc i)) is)
    ∙ same_byte i (i + 0) (omega arith)
told_at (b ∷ bs) i (suc k) is within =
    told_at bs (suc i) k (second_of (same (not (b == 46)) (is_word_byte i)) (agrees bs (suc i)) is)
    (omega (arith, within))
    ∙ same_byte (suc i + k) (i + suc k) (omega arith)

agrees_all : agrees WORD_BYTES.now 0 ≡ true
unfolding agrees
agrees_all = refl

pub told : (b : ℕ) → b < 256 → not (slice_index WORD_BYTES.now b == 46) ≡ is_word_byte b
told b within = told_at WORD_BYTES.now 0 b agrees_all within ∙ same_byte (0 + b) b (omega arith)
