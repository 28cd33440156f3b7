-- Numbers digit by digit.
use Rattle.std.proofs.Common.{◌≡◌, ℕ, ◌+◌, ◌*◌, ◌<◌, ◌≤◌, List, [], ◌∷◌, length, get_or, drop, arith, sym, ap}
use Rattle.std.proofs.Common.{◌∙◌, drop-cons, add-one}
use Rattle.std.proofs.Math.Nat.{mul-le-mul_left}
use Rattle.std.proofs.lemmas.List.{drop_all}
use Rattle.x_numbers.specs.Numbers.{digit_value, value_behind}

-- more digits make no number smaller
pub grows : (base high : ℕ) (digits : List ℕ) → 0 < base → high ≤ value_behind base high digits
grows base high [] some = omega arith
grows base high (b ∷ bs) some =
    let more = grows base (high * base + digit_value b) bs some in
    let times : high * 1 ≤ high * base = mul-le-mul_left high some in
    omega (arith, more, times)

-- one digit of the rest
pub one_digit : (base high : ℕ) (digits : List ℕ) (i : ℕ) → i < length digits
    → value_behind base high (drop i digits)
    ≡ value_behind base (high * base + digit_value (get_or digits i 0)) (drop (i + 1) digits)
one_digit base high digits i lt = ap (value_behind base high) (sym (sym (drop-cons digits i 0 lt)))
    ∙ ap (λ n. value_behind base (high * base + digit_value (get_or digits i 0)) (drop n digits))
    (sym (add-one i))

-- where a number with one digit more does not fit, none with these digits does
pub too_great : (base high : ℕ) (digits : List ℕ) (i total bound : ℕ) → 0 < base → i < length digits
    → total ≡ value_behind base high (drop i digits)
    → (high * base + digit_value (get_or digits i 0) < bound → ⊥) → total < bound → ⊥
too_great base high digits i total bound some lt is great fits =
    let more = grows base (high * base + digit_value (get_or digits i 0)) (drop (i + 1) digits) some in
    let step = one_digit base high digits i lt in
    great (omega (arith, more, step, is, fits))

-- all digits are read
pub all_digits : (base high : ℕ) (digits : List ℕ) (i total : ℕ) → length digits ≤ i
    → total ≡ value_behind base high (drop i digits) → total ≡ high
all_digits base high digits i total le is = is ∙ ap (value_behind base high) (drop_all i digits le)
