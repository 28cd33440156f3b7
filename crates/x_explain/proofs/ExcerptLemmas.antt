-- Lines of which a part is shown.
use Rattle.std.proofs.Common.{◌≡◌, ℕ, Option, None, Some, length, take, get_or, arith, ne_eqb, eq-eqb, List}
use Rattle.std.proofs.Common.{refl, sym, ap, ◌∙◌}
use Rattle.std.specs.Prelude.{◌==◌}
use Rattle.std.specs.List.{before_first}
use Rattle.std.proofs.lemmas.List.{take_all}
use Rattle.std.proofs.lemmas.List.Sums.{position_or_len_is}
use Rattle.memchr.specs.Find.{IsFirstByte, is_byte}
use Rattle.x_lines.proofs.Parting.{first_is}

-- the bytes before a place, or all
abbrev pub front_of : Option ℕ → List ℕ → List ℕ
front_of None text = text
front_of (Some at) text = take at text

-- the bytes before the first of this value
pub byte_found : (byte : ℕ) (text : List ℕ) (r : Option ℕ) → IsFirstByte (is_byte byte) text r
    → front_of r text ≡ before_first (λ b. b == byte) text
byte_found byte text None first =
    let all = position_or_len_is (λ b. b == byte) text (length text) 0 (omega arith)
    (λ j lt. ne_eqb (get_or text j 0) byte (λ e. first j (omega arith) lt (eq-eqb (get_or text j 0) byte e)))
    (λ lt. absurd (omega arith)) in
    sym (ap (λ k. take k text) all ∙ take_all (length text) text (omega arith))
byte_found byte text (Some at) first =
    ap (λ k. take k text) (sym (first_is byte text (Some at) at first refl).1)
