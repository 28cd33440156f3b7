-- The name of a file behind its last slash.
use Rattle.std.proofs.Common.{◌≡◌, ℕ, ◌+◌, ◌-◌, true, false, not, List, length, get_or, drop, Option, None}
use Rattle.std.proofs.Common.{Some, arith, ap, ◌∙◌}
use Rattle.std.specs.Prelude.{◌==◌}
use Rattle.std.specs.List.{after_last, suffix_len}
use Rattle.std.proofs.lemmas.Bool.Decides.{nat_tests}
use Rattle.std.proofs.lemmas.List.Sums.{suffix_len_is}
use Rattle.memchr.specs.Find.{IsLastByte, is_byte}

-- where the name begins
abbrev pub behind : Option ℕ → ℕ
behind None = 0
behind (Some i) = i + 1

no_slash : (b : ℕ) → (is_byte 47 b ≡ true → ⊥) → not (b == 47) ≡ true
no_slash b h = grind (arith, nat_tests)

slash : (b : ℕ) → is_byte 47 b ≡ true → not (b == 47) ≡ false
slash b h = grind (arith, nat_tests)

pub behind_last : (path : List ℕ) (r : Option ℕ) → IsLastByte (is_byte 47) path r
    → drop (behind r) path ≡ after_last (λ b. b == 47) path
behind_last path None h =
    let all = suffix_len_is (λ b. not (b == 47)) path 0 0 (omega arith)
    (λ k le lt. no_slash (get_or path k 0) (h k le lt)) (λ lt. absurd (omega arith)) in
    let none : 0 ≡ length path - suffix_len (λ b. not (b == 47)) path = omega (arith, all) in
    ap (λ n. drop n path) none
behind_last path (Some i) h =
    let high = h.0.high in
    let all = suffix_len_is (λ b. not (b == 47)) path (i + 1) 0 (omega (arith, high))
    (λ k le lt. no_slash (get_or path k 0) (h.0.after k le lt))
    (λ lt. let e : i + 1 - 1 ≡ i = omega arith in ap (λ k. not (get_or path k 0 == 47)) e
    ∙ slash (get_or path i 0) h.1) in
    let place : i + 1 ≡ length path - suffix_len (λ b. not (b == 47)) path = omega (arith, all, high) in
    ap (λ n. drop n path) place
