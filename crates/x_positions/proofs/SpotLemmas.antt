-- What is found from a place of a text whose position is known.
use Rattle.std.proofs.Common.{◌≡◌, ℕ, suc, ◌+◌, ◌-◌, ◌<◌, ◌≤◌, List, length, take, drop, min, arith, sym, ap}
use Rattle.std.proofs.Common.{◌∙◌, ◌⊎◌, inl, inr}
use Rattle.std.proofs.lemmas.List.{length-take, take-take}
use Rattle.std.proofs.Math.Seq.{take-length}
use Rattle.x_positions.specs.declared.encoding.Encoding.{Encoding}
use Rattle.x_positions.specs.declared.positions.Position.{Position}
use Rattle.x_positions.specs.Positions.{behind_lines, first_line, lines_before, offset_of, place_within}
use Rattle.x_positions.specs.Positions.{position_of, units_before}
use Rattle.x_positions.specs.Waymarks.{IsAt, IsNotBehind, IsOutsidePair}
use Rattle.x_positions.proofs.LineLemmas.{position}
use Rattle.x_positions.proofs.PassedLineLemmas.{units_within}
use Rattle.x_positions.proofs.PositionLemmas.{behind_on, offset_on}
use Rattle.x_positions.proofs.WalkLemmas.{is_in_line, same_position}

-- ---- the place of a position

pub in_its_line : (e : Encoding) (text : List ℕ) (at : ℕ) (p q : Position) → IsAt e text at p
    → IsOutsidePair text at → IsNotBehind p q → q.line ≡ p.line
    → at + place_within e (first_line (drop at text)) (q.character - p.character) ≡ offset_of e text q
in_its_line e text at p q is outside before same = go before
  where
    found : p.character ≤ q.character
        → at + place_within e (first_line (drop at text)) (q.character - p.character) ≡ offset_of e text q
    found le =
        let n = q.character - p.character in
        let all : p.character + n ≡ q.character = omega arith in
        sym (offset_on e text at n is.within outside)
        ∙ ap (λ (v : Position). offset_of e text (position v.line (v.character + n))) is.position_is
        ∙ (λ i. offset_of e text (position (sym same i) (all i)))

    go : IsNotBehind p q → at + place_within e (first_line (drop at text)) (q.character - p.character)
        ≡ offset_of e text q
    go (inl lt) = absurd (omega (arith, lt, same))
    go (inr le) = found le.1

pub in_later_line : (e : Encoding) (text rest : List ℕ) (at : ℕ) (p q : Position) → IsAt e text at p
    → IsNotBehind p q → (q.line ≡ p.line → ⊥) → rest ≡ behind_lines (q.line - p.line) (drop at text)
    → (length text - length rest) + place_within e (first_line rest) q.character ≡ offset_of e text q
in_later_line e text rest at p q is before other rest_is = go before
  where
    found : p.line < q.line → (length text - length rest) + place_within e (first_line rest) q.character
        ≡ offset_of e text q
    found lt =
        let n = q.line - p.line - 1 in
        let more : suc n ≡ q.line - p.line = omega arith in
        let lines : lines_before text at ≡ p.line = ap (λ (v : Position). v.line) is.position_is in
        let all : lines_before text at + suc n ≡ q.line = omega (arith, lines, more) in
        let same : rest ≡ behind_lines q.line text =
        rest_is ∙ ap (λ k. behind_lines k (drop at text)) (sym more) ∙ sym (behind_on text at n)
        ∙ ap (λ k. behind_lines k text) all in
        ap (λ l. (length text - length l) + place_within e (first_line l) q.character) same

    go : IsNotBehind p q → (length text - length rest) + place_within e (first_line rest) q.character
        ≡ offset_of e text q
    go (inl lt) = found lt
    go (inr le) = absurd (other (sym le.0))

-- ---- the position of a place

pub counted_on : (e : Encoding) (text line : List ℕ) (at start bytes units : ℕ) (p : Position)
    → IsAt e text start p → start ≤ at → lines_before (drop start text) (at - start) ≡ 0
    → line ≡ first_line (drop start text) → bytes ≡ min (at - start) (length line)
    → units ≡ units_before e line bytes
    → position p.line (p.character + units) ≡ position_of e text at
counted_on e text line at start bytes units p is le none line_is bytes_is units_is =
    let n = at - start in
    let place : start + n ≡ at = omega arith in
    let all : units ≡ units_before e (first_line (drop start text)) n =
    units_is ∙ ap (units_before e line) bytes_is ∙ units_within e line n
    ∙ ap (λ l. units_before e l n) line_is in
    ap (λ u. position p.line (p.character + u)) all ∙ is_in_line e text start n p is none
    ∙ ap (position_of e text) place

-- the front of a text with one byte behind a place, or all of it
cut : (text : List ℕ) (n i : ℕ) → n ≡ min (length text) i → take i (take n text) ≡ take i text
cut text n i is = go (either i (length text))
  where
    either : (a c : ℕ) → (a ≤ c) ⊎ (c < a)
    either a c = grind arith

    go : (i ≤ length text) ⊎ (length text < i) → take i (take n text) ≡ take i text
    go (inl le) = take-take i n text (omega arith)
    go (inr lt) =
        let all : n ≡ length text = omega arith in
        ap (λ k. take i (take k text)) all ∙ ap (take i) (take-length text)

near_position : (e : Encoding) (text : List ℕ) (at from n : ℕ) → from ≤ at → n ≡ min (length text) (at + 1)
    → position_of e (take n text) from ≡ position_of e text from
near_position e text at from n le is =
    same_position e (take n text) text from (at + 1) (omega arith) (cut text n (at + 1) is)

pub near_at : (e : Encoding) (text : List ℕ) (at from n : ℕ) (p : Position) → from ≤ at → at ≤ length text
    → n ≡ min (length text) (at + 1) → IsAt e text from p → IsAt e (take n text) from p
near_at e text at from n p le within n_is is =
    let len = length-take n text in
    record {
      within = omega (arith, len);
      position_is = near_position e text at from n le n_is ∙ is.position_is;
    }

pub near_is : (e : Encoding) (text : List ℕ) (at n : ℕ) → n ≡ min (length text) (at + 1)
    → position_of e (take n text) at ≡ position_of e text at
near_is e text at n is = near_position e text at at n (omega arith) is
