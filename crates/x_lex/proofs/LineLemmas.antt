-- The end of a line, as a search for the line feed finds it.
use Rattle.std.proofs.Common.{◌≡◌, ℕ, true, false, List, length, get_or, Option, None, Some, arith, sym}
use Rattle.std.specs.List.{prefix_len}
use Rattle.std.specs.Prelude.{unwrap_or}
use Rattle.std.proofs.lemmas.Bool.Decides.{nat_tests}
use Rattle.std.proofs.lemmas.List.Sums.{prefix_len_is}
use Rattle.memchr.specs.Find.{IsFirstByte, is_byte}
use Rattle.x_lex.specs.Bytes.{is_in_line}

in_line : (b : ℕ) → (is_byte 10 b ≡ true → ⊥) → is_in_line b ≡ true
in_line b h = grind (arith, nat_tests)

ends_line : (b : ℕ) → is_byte 10 b ≡ true → is_in_line b ≡ false
ends_line b h = grind (arith, nat_tests)

pub found_line : (rest : List ℕ) (r : Option ℕ) → IsFirstByte (is_byte 10) rest r
    → unwrap_or r (length rest) ≡ prefix_len is_in_line rest
found_line rest None h =
    sym (prefix_len_is is_in_line rest (length rest) 0 (omega arith)
    (λ k lt. in_line (get_or rest k 0) (h k (omega arith) lt)) (λ lt. absurd (omega arith)))
found_line rest (Some i) h =
    sym (prefix_len_is is_in_line rest i 0 (let l = h.0.high in omega (arith, l))
    (λ k lt. in_line (get_or rest k 0) (h.0.before k (omega arith) lt))
    (λ lt. ends_line (get_or rest i 0) h.1))
