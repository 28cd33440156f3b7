-- Numbers, digit by digit.
use Rattle.std.proofs.Common.{◌≡◌, ℕ, ◌+◌, ◌-◌, ◌*◌, ◌^◌, ◌<◌, ◌≤◌, true, List, length, take, get_or, arith}
use Rattle.std.proofs.Common.{rules}
use Rattle.std.specs.List.{list_all}
use Rattle.std.specs.Char.{is_ascii_digit, digit_value}
use Rattle.std.specs.Int.{IsInRange}
use Rattle.std.specs.Str.Parse.{digits_value}
use Rattle.std.proofs.lemmas.Str.Parse.{IsNumeralModel, numerals_by_value, digits_value_short, digit_at}
use Rattle.std.proofs.lemmas.Str.Parse.{digits_value-take-le}
use Rattle.std.proofs.lemmas.Int.Digits.{digits_value_more}
use Rattle.std.proofs.lemmas.Bool.Decides.{nat_tests}

own : IsNumeralModel (λ ds. list_all is_ascii_digit ds ≡ true) (digits_value 10)
own = numerals_by_value _ (search rules)

digit_value_at : (c : ℕ) → IsInRange 48 57 c → digit_value c ≡ c - 48
digit_value_at c h = grind (arith, nat_tests)

-- one digit more of a number
pub record IsNextDigit (word : List ℕ) (i number digit : ℕ) : Type 0 where
  pub low : 48 ≤ digit
  pub high : digit ≤ 57
  pub small : 10 * number + (digit - 48) < 10 ^ 9
  pub next : digits_value 10 (take (i + 1) word) ≡ 10 * number + (digit - 48)

pub next_digit : (word : List ℕ) (i number digit : ℕ) → i < length word → length word ≤ 9
    → list_all is_ascii_digit word ≡ true
    → number ≡ digits_value 10 (take i word) → digit ≡ get_or word i 0 → IsNextDigit word i number digit
next_digit word i number digit lt short digits n d =
    let range : IsInRange 48 57 (get_or word i 0) = digit_at word i (own.to word digits) lt in
    let value : digit_value (get_or word i 0) ≡ get_or word i 0 - 48 =
    digit_value_at (get_or word i 0) range in
    let more : digits_value 10 (take (i + 1) word)
    ≡ digits_value 10 (take i word) * 10 + digit_value (get_or word i 0) = digits_value_more 10 word i lt in
    let bound : digits_value 10 word < 10 ^ 9 = digits_value_short own word 9 digits short in
    let front : digits_value 10 (take (i + 1) word) ≤ digits_value 10 word =
    digits_value-take-le 10 word (i + 1) (omega arith) in
    record { low = omega arith; high = omega arith; small = omega arith; next = omega arith }
