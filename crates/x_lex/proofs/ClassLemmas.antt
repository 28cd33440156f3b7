-- The class of a place, which decides the kinds that a word there may have.
use Rattle.std.proofs.Common.{◌≡◌, ℕ, Bool, true, false, arith, refl, sym, subst}
use Rattle.std.specs.Prelude.{◌==◌, ◌&&◌}
use Rattle.std.proofs.lemmas.Bool.Decides.{nat_tests}
use Rattle.x_lex.specs.Scan.{Class, blank, letters, digits, signed, mark, remark, percent, hash, other}
use Rattle.x_lex.specs.Scan.{chosen, class_of}
use Rattle.x_lex.specs.Bytes.{is_space, is_digit, is_letter, is_punct}
use Rattle.x_lex.specs.Marks.{mark_of}
use Rattle.x_lex.proofs.MarkLemmas.{punct_apart}

-- what the class tells of the tests
abbrev pub Tells : Class → Bool → Bool → Bool → Bool → Bool → Bool → Bool → Bool → Type 0
Tells blank p q r s t u v w = p ≡ true
Tells letters p q r s t u v w = q ≡ true
Tells digits p q r s t u v w = r ≡ true
Tells signed p q r s t u v w = s ≡ true
Tells mark p q r s t u v w = t ≡ true
Tells remark p q r s t u v w = u ≡ true
Tells percent p q r s t u v w = v ≡ true
Tells hash p q r s t u v w = w ≡ true
Tells other p q r s t u v w = Unit {0}

tells : (p q r s t u v w : Bool) → Tells (chosen p q r s t u v w) p q r s t u v w
tells true q r s t u v w = refl
tells false true r s t u v w = refl
tells false false true s t u v w = refl
tells false false false true t u v w = refl
tells false false false false true u v w = refl
tells false false false false false true v w = refl
tells false false false false false false true w = refl
tells false false false false false false false true = refl
tells false false false false false false false false = tt

abbrev pub Told : Class → Bool → ℕ → ℕ → Type 0
Told k start b c =
    Tells k (is_space b) (is_letter b) (is_digit b) (b == 45 && is_digit c) (is_punct b) (b == 47 && c == 42)
    (start && b == 37) (start && b == 35)

pub told : (start : Bool) (b c : ℕ) → Told (class_of start b c) start b c
unfolding class_of
told start b c =
    tells (is_space b) (is_letter b) (is_digit b) (b == 45 && is_digit c) (is_punct b) (b == 47 && c == 42)
    (start && b == 37) (start && b == 35)

pub class_blank : (start : Bool) (b c : ℕ) → is_space b ≡ true → class_of start b c ≡ blank
unfolding class_of
class_blank start b c h = grind (arith, nat_tests)

pub class_letters : (start : Bool) (b c : ℕ) → is_letter b ≡ true → class_of start b c ≡ letters
unfolding class_of
class_letters start b c h = grind (arith, nat_tests)

pub class_remark : (start : Bool) (b c : ℕ) → b ≡ 47 → c ≡ 42 → class_of start b c ≡ remark
unfolding class_of mark_of
class_remark start b c h k =
    subst (λ x. class_of start x c ≡ remark) (sym h) (subst (λ y. class_of start 47 y ≡ remark) (sym k) refl)

pub class_digits : (start : Bool) (b c : ℕ) → is_digit b ≡ true → class_of start b c ≡ digits
unfolding class_of
class_digits start b c h = grind (arith, nat_tests)

pub class_signed : (start : Bool) (b c : ℕ) → b ≡ 45 → is_digit c ≡ true → class_of start b c ≡ signed
unfolding class_of
class_signed start b c h k = grind (arith, nat_tests)

pub class_mark : (start : Bool) (b c : ℕ) → is_punct b ≡ true → class_of start b c ≡ mark
unfolding class_of
class_mark start b c h = let apart = punct_apart b h in grind (arith, nat_tests)

pub class_percent : (start : Bool) (b c : ℕ) → start ≡ true → b ≡ 37 → class_of start b c ≡ percent
unfolding class_of mark_of
class_percent start b c s h =
    subst (λ x. class_of x b c ≡ percent) (sym s) (subst (λ y. class_of true y c ≡ percent) (sym h) refl)

pub class_hash : (start : Bool) (b c : ℕ) → start ≡ true → b ≡ 35 → class_of start b c ≡ hash
unfolding class_of mark_of
class_hash start b c s h =
    subst (λ x. class_of x b c ≡ hash) (sym s) (subst (λ y. class_of true y c ≡ hash) (sym h) refl)
