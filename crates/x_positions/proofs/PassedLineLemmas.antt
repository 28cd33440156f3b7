-- How far a walk has come in a line.
use Rattle.std.proofs.Common.{◌≡◌, ℕ, ◌+◌, ◌-◌, ◌≤◌, Bool, true, false, List, [], ◌∷◌, length, take, drop}
use Rattle.std.proofs.Common.{arith, refl, sym, ap, subst, ◌∙◌, slice_range, min}
use Rattle.std.specs.Prelude.{sum_by}
use Rattle.std.proofs.lemmas.List.{take_min, take-take, drop-take}
use Rattle.std.proofs.lemmas.List.Sums.{sum_by-take-drop}
use Rattle.x_positions.specs.declared.encoding.Encoding.{Encoding}
use Rattle.x_positions.specs.Encodings.{unit}
use Rattle.x_positions.specs.Positions.{is_break, first_line, units_before}
use Rattle.x_positions.proofs.Choices.{on_true, on_false}

-- a line is what its length has of the text
pub content_is : (text : List ℕ) → take (length (first_line text)) text ≡ first_line text
content_is [] = refl
content_is (b ∷ rest) = go (content_is rest) (is_break b) refl
  where
    go : take (length (first_line rest)) rest ≡ first_line rest → (t : Bool) → is_break b ≡ t
        → take (length (first_line (b ∷ rest))) (b ∷ rest) ≡ first_line (b ∷ rest)
    go more true is = subst (λ l. take (length l) (b ∷ rest) ≡ l)
        (sym (on_true (is_break b) [] (b ∷ first_line rest) is)) refl
    go more false is = subst (λ l. take (length l) (b ∷ rest) ≡ l)
        (sym (on_false (is_break b) [] (b ∷ first_line rest) is)) (ap (λ l. b ∷ l) more)

-- the bytes of a line of a text
pub content_of : (text : List ℕ) (start n : ℕ) → n ≡ length (first_line (drop start text))
    → slice_range text start (start + n) ≡ first_line (drop start text)
content_of text start n is =
    let e : start + n - start ≡ length (first_line (drop start text)) = omega (arith, is) in
    ap (λ k. take k (drop start text)) e ∙ content_is (drop start text)

-- behind a line's end stand no more units of it
pub units_within : (e : Encoding) (line : List ℕ) (n : ℕ)
    → units_before e line (min n (length line)) ≡ units_before e line n
units_within e line n = ap (sum_by (unit e)) (take_min n line)

dropped : (line : List ℕ) (from to : ℕ) → from ≤ to → drop from (take to line) ≡ slice_range line from to
dropped line from to le =
    let e : to ≡ from + (to - from) = omega arith in
    ap (λ n. drop from (take n line)) e ∙ drop-take from (to - from) line

-- the units before a place are those before an earlier one, and those in between
pub units_between : (e : Encoding) (line : List ℕ) (from to : ℕ) → from ≤ to
    → units_before e line from + sum_by (unit e) (slice_range line from to) ≡ units_before e line to
units_between e line from to le =
    ap (λ l. sum_by (unit e) l + sum_by (unit e) (slice_range line from to)) (sym (take-take from to line le))
    ∙ ap (λ l. sum_by (unit e) (take from (take to line)) + sum_by (unit e) l) (sym (dropped line from to le))
    ∙ sum_by-take-drop (unit e) (take to line) from
