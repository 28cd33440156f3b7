-- Lines of a text.
use Rattle.std.proofs.Common.{◌≡◌, ℕ, zero, suc, ◌+◌, ◌-◌, ◌<◌, ◌≤◌, Bool, true, false, List, [], ◌∷◌, ◌++◌}
use Rattle.std.proofs.Common.{length, take, drop, Option, None, Some, arith, refl, sym, ap, subst, ◌∙◌}
use Rattle.std.proofs.Common.{zero-add, append-nil}
use Rattle.std.specs.Prelude.{option_map, slice_index, ◌==◌, ◌||◌, ◌&&◌, not}
use Rattle.std.proofs.lemmas.List.{length-drop, drop-drop}
use Rattle.std.proofs.Math.Seq.{drop-cons}
use Rattle.memchr.specs.Find.{IsFirstByte, is_byte2}
use Rattle.x_positions.specs.declared.encoding.Encoding.{Encoding}
use Rattle.x_positions.specs.declared.positions.Position.{Position}
use Rattle.x_positions.specs.Positions.{starts_feed, ends_line, behind_lines, is_break, first_line, line_end}
use Rattle.x_positions.specs.Positions.{lines_before, position_of, units_before}
use Rattle.x_positions.specs.LineStarts.{IsLineStart}
use Rattle.x_positions.proofs.Choices.{on_true, on_false, no_break, one_break, not_true}

-- a line and a character
abbrev pub position : ℕ → ℕ → Position
position line character = record { line = line; character = character }

-- no byte before the place is one of a line end
abbrev pub HasNoBreak : List ℕ → ℕ → Type 0
HasNoBreak text at = (k : ℕ) → k < at → is_break (slice_index text k) ≡ false

-- ---- the first line end

plus_zero : (o : Option ℕ) → o ≡ option_map (λ n. 0 + n) o
plus_zero None = refl
plus_zero (Some n) = ap Some (sym (zero-add n))

plus_suc : (k : ℕ) (o : Option ℕ) → option_map suc (option_map (λ n. k + n) o) ≡ option_map (λ n. suc k + n) o
plus_suc k None = refl
plus_suc k (Some n) = ap Some (let e : suc (k + n) ≡ suc k + n = omega arith in e)

pub line_end_behind : (text : List ℕ) (at : ℕ) → at ≤ length text → HasNoBreak text at
    → line_end text ≡ option_map (λ n. at + n) (line_end (drop at text))
line_end_behind text zero le none = plus_zero (line_end text)
line_end_behind [] (suc at) le none = absurd (omega arith)
line_end_behind (b ∷ rest) (suc at) le none =
    on_false (ends_line b rest) (Some 1) (option_map suc (line_end rest))
    (no_break (b == 10) (b == 13) (starts_feed rest) (none 0 (omega arith)))
    ∙ ap (option_map suc) (line_end_behind rest at (omega arith) (λ k lt. none (suc k) (omega arith)))
    ∙ plus_suc at (line_end (drop at rest))

pub first_line_behind : (text : List ℕ) (at : ℕ) → at ≤ length text → HasNoBreak text at
    → first_line text ≡ take at text ++ first_line (drop at text)
first_line_behind text zero le none = refl
first_line_behind [] (suc at) le none = absurd (omega arith)
first_line_behind (b ∷ rest) (suc at) le none =
    on_false (is_break b) [] (b ∷ first_line rest) (none 0 (omega arith))
    ∙ ap (λ l. b ∷ l) (first_line_behind rest at (omega arith) (λ k lt. none (suc k) (omega arith)))

here : (b : ℕ) (rest : List ℕ) → is_break b ≡ true → (b == 13 && starts_feed rest) ≡ false
    → line_end (b ∷ rest) ≡ Some 1
here b rest broken alone =
    on_true (ends_line b rest) (Some 1) (option_map suc (line_end rest))
    (one_break (b == 10) (b == 13) (starts_feed rest) broken alone)

feed_first : (rest : List ℕ) → starts_feed rest ≡ true → line_end rest ≡ Some 1
feed_first [] e = absurd (cc)
feed_first (c ∷ rest) e = on_true (ends_line c rest) (Some 1) (option_map suc (line_end rest))
    (ap (λ x. x || (c == 13 && not (starts_feed rest))) e)

pair_first : (b : ℕ) (rest : List ℕ) → b ≡ 13 → starts_feed rest ≡ true → line_end (b ∷ rest) ≡ Some 2
pair_first b rest is feed =
    subst (λ x. line_end (x ∷ rest) ≡ Some 2) (sym is)
    (on_false (ends_line 13 rest) (Some 1) (option_map suc (line_end rest)) (ap not feed)
    ∙ ap (option_map suc) (feed_first rest feed))

none_before : (text : List ℕ) (at : ℕ) → IsFirstByte (is_byte2 10 13) text (Some at) → HasNoBreak text at
none_before text at first k lt = not_true (is_break (slice_index text k)) (first.0.before k (omega arith) lt)

split_here : (text : List ℕ) (at : ℕ) → IsFirstByte (is_byte2 10 13) text (Some at)
    → drop at text ≡ slice_index text at ∷ drop (at + 1) text
split_here text at first = drop-cons text at 0 first.0.high
    ∙ ap (λ k. slice_index text at ∷ drop k text) (let e : suc at ≡ at + 1 = omega arith in e)

behind_first : (text : List ℕ) (at len : ℕ) → (first : IsFirstByte (is_byte2 10 13) text (Some at))
    → line_end (slice_index text at ∷ drop (at + 1) text) ≡ Some len → line_end text ≡ Some (at + len)
behind_first text at len first is =
    line_end_behind text at (let h = first.0.high in omega arith) (none_before text at first)
    ∙ ap (λ l. option_map (λ n. at + n) (line_end l)) (split_here text at first)
    ∙ ap (option_map (λ n. at + n)) is

-- what a search for the first byte of a line end tells
pub end_found : (text : List ℕ) (at : ℕ) → IsFirstByte (is_byte2 10 13) text (Some at)
    → (slice_index text at == 13 && starts_feed (drop (at + 1) text)) ≡ false → line_end text ≡ Some (at + 1)
end_found text at first alone =
    behind_first text at 1 first (here (slice_index text at) (drop (at + 1) text) first.1 alone)

pub pair_found : (text : List ℕ) (at : ℕ) → IsFirstByte (is_byte2 10 13) text (Some at)
    → slice_index text at ≡ 13 → starts_feed (drop (at + 1) text) ≡ true → line_end text ≡ Some (at + 2)
pair_found text at first is feed =
    behind_first text at 2 first (pair_first (slice_index text at) (drop (at + 1) text) is feed)

none_found : (text : List ℕ) → IsFirstByte (is_byte2 10 13) text None → HasNoBreak text (length text)
none_found text none k lt = not_true (is_break (slice_index text k)) (none k (omega arith) lt)

pub drop_all : (text : List ℕ) → drop (length text) text ≡ []
drop_all [] = refl
drop_all (b ∷ rest) = drop_all rest

take_all : (text : List ℕ) → take (length text) text ≡ text
take_all [] = refl
take_all (b ∷ rest) = ap (λ l. b ∷ l) (take_all rest)

pub no_end_found : (text : List ℕ) → IsFirstByte (is_byte2 10 13) text None → line_end text ≡ None
no_end_found text none =
    line_end_behind text (length text) (omega arith) (none_found text none)
    ∙ ap (λ l. option_map (λ n. length text + n) (line_end l)) (drop_all text)

pub line_found : (text : List ℕ) (at : ℕ) → IsFirstByte (is_byte2 10 13) text (Some at)
    → take at text ≡ first_line text
line_found text at first =
    let e = first_line_behind text at (let h = first.0.high in omega arith) (none_before text at first) in
    let stop : first_line (drop at text) ≡ [] =
    ap first_line (split_here text at first)
    ∙ on_true (is_break (slice_index text at)) []
    (slice_index text at ∷ first_line (drop (at + 1) text)) first.1 in
    sym (e ∙ ap (λ l. take at text ++ l) stop ∙ append-nil (take at text))

pub all_is_line : (text : List ℕ) → IsFirstByte (is_byte2 10 13) text None → text ≡ first_line text
all_is_line text none =
    let e = first_line_behind text (length text) (omega arith) (none_found text none) in
    sym (e ∙ ap (λ l. take (length text) text ++ first_line l) (drop_all text)
    ∙ append-nil (take (length text) text) ∙ take_all text)

-- ---- what stands behind it

-- the first line end is at the first byte, or behind it
EndIs : ℕ → List ℕ → ℕ → Type 0
EndIs b rest end = (ends_line b rest ≡ true) × (end ≡ 1)

pub some_suc : (o : Option ℕ) (end : ℕ) → option_map suc o ≡ Some end → (m : ℕ) × (o ≡ Some m) × (end ≡ suc m)
some_suc None end e = absurd (cc)
some_suc (Some m) end e = (m, refl, cc)

none_suc : (o : Option ℕ) → option_map suc o ≡ None → o ≡ None
none_suc None e = refl
none_suc (Some m) e = absurd (cc)

pub behind_next : (n : ℕ) (text : List ℕ) (end : ℕ) → line_end text ≡ Some end
    → behind_lines (suc n) text ≡ behind_lines n (drop end text)
behind_next n [] end e = absurd (cc)
behind_next n (b ∷ rest) end e = go (λ m f. behind_next n rest m f) (ends_line b rest) refl
  where
    go : ((m : ℕ) → line_end rest ≡ Some m → behind_lines (suc n) rest ≡ behind_lines n (drop m rest))
        → (t : Bool) → ends_line b rest ≡ t
        → behind_lines (suc n) (b ∷ rest) ≡ behind_lines n (drop end (b ∷ rest))
    go next true is =
        let one : Some 1 ≡ Some end =
        sym (on_true (ends_line b rest) (Some 1) (option_map suc (line_end rest)) is) ∙ e in
        let end_is : end ≡ 1 = cc in
        on_true (ends_line b rest) (behind_lines n rest) (behind_lines (suc n) rest) is
        ∙ ap (λ k. behind_lines n (drop k (b ∷ rest))) (sym end_is)
    go next false is =
        let more = some_suc (line_end rest) end
        (sym (on_false (ends_line b rest) (Some 1) (option_map suc (line_end rest)) is) ∙ e) in
        on_false (ends_line b rest) (behind_lines n rest) (behind_lines (suc n) rest) is ∙ next more.0 more.1
        ∙ ap (λ k. behind_lines n (drop k (b ∷ rest))) (sym more.2)

pub behind_none : (n : ℕ) (text : List ℕ) → line_end text ≡ None → behind_lines (suc n) text ≡ []
behind_none n [] e = refl
behind_none n (b ∷ rest) e = go (λ f. behind_none n rest f) (ends_line b rest) refl
  where
    go : (line_end rest ≡ None → behind_lines (suc n) rest ≡ []) → (t : Bool) → ends_line b rest ≡ t
        → behind_lines (suc n) (b ∷ rest) ≡ []
    go next true is =
        let one : Some 1 ≡ None =
        sym (on_true (ends_line b rest) (Some 1) (option_map suc (line_end rest)) is) ∙ e in absurd (cc one)
    go next false is =
        on_false (ends_line b rest) (behind_lines n rest) (behind_lines (suc n) rest) is
        ∙ next (none_suc (line_end rest)
        (sym (on_false (ends_line b rest) (Some 1) (option_map suc (line_end rest)) is) ∙ e))

pub end_within : (text : List ℕ) (end : ℕ) → line_end text ≡ Some end → (0 < end) × (end ≤ length text)
end_within [] end e = absurd (cc)
end_within (b ∷ rest) end e = go (λ m f. end_within rest m f) (ends_line b rest) refl
  where
    go : ((m : ℕ) → line_end rest ≡ Some m → (0 < m) × (m ≤ length rest)) → (t : Bool) → ends_line b rest ≡ t
        → (0 < end) × (end ≤ length (b ∷ rest))
    go next true is =
        let one : Some 1 ≡ Some end =
        sym (on_true (ends_line b rest) (Some 1) (option_map suc (line_end rest)) is) ∙ e in
        let end_is : end ≡ 1 = cc in (omega arith, omega arith)
    go next false is =
        let more = some_suc (line_end rest) end
        (sym (on_false (ends_line b rest) (Some 1) (option_map suc (line_end rest)) is) ∙ e) in
        let within = next more.0 more.1 in
        let end_is = more.2 in (omega arith, let w = within.1 in omega arith)

-- ---- line ends before a place

pub before_none : (text : List ℕ) (at : ℕ) → line_end text ≡ None → lines_before text at ≡ 0
before_none text zero e = refl
before_none [] (suc at) e = refl
before_none (b ∷ rest) (suc at) e = go (λ f. before_none rest at f) (ends_line b rest) refl
  where
    go : (line_end rest ≡ None → lines_before rest at ≡ 0) → (t : Bool) → ends_line b rest ≡ t
        → lines_before (b ∷ rest) (suc at) ≡ 0
    go next true is =
        let one : Some 1 ≡ None =
        sym (on_true (ends_line b rest) (Some 1) (option_map suc (line_end rest)) is) ∙ e in absurd (cc one)
    go next false is =
        let rest_none =
        next (none_suc (line_end rest)
        (sym (on_false (ends_line b rest) (Some 1) (option_map suc (line_end rest)) is) ∙ e)) in
        let first = on_false {A = ℕ} (ends_line b rest) 1 0 is in omega (arith, first, rest_none)

pub before_end : (text : List ℕ) (end at : ℕ) → line_end text ≡ Some end → at < end → lines_before text at ≡ 0
before_end text end zero e lt = refl
before_end [] end (suc at) e lt = refl
before_end (b ∷ rest) end (suc at) e lt = go (λ m f l. before_end rest m at f l) (ends_line b rest) refl
  where
    go : ((m : ℕ) → line_end rest ≡ Some m → at < m → lines_before rest at ≡ 0) → (t : Bool)
        → ends_line b rest ≡ t → lines_before (b ∷ rest) (suc at) ≡ 0
    go next true is =
        let one : Some 1 ≡ Some end =
        sym (on_true (ends_line b rest) (Some 1) (option_map suc (line_end rest)) is) ∙ e in
        let end_is : end ≡ 1 = cc in absurd (omega arith)
    go next false is =
        let more = some_suc (line_end rest) end
        (sym (on_false (ends_line b rest) (Some 1) (option_map suc (line_end rest)) is) ∙ e) in
        let end_is = more.2 in
        let rest_none = next more.0 more.1 (omega arith) in
        let first = on_false {A = ℕ} (ends_line b rest) 1 0 is in omega (arith, first, rest_none)

pub at_end : (text : List ℕ) (end : ℕ) → line_end text ≡ Some end → lines_before text end ≡ 1
at_end [] end e = absurd (cc)
at_end (b ∷ rest) end e = go (λ m f. at_end rest m f) (ends_line b rest) refl
  where
    go : ((m : ℕ) → line_end rest ≡ Some m → lines_before rest m ≡ 1) → (t : Bool) → ends_line b rest ≡ t
        → lines_before (b ∷ rest) end ≡ 1
    go next true is =
        let one : Some 1 ≡ Some end =
        sym (on_true (ends_line b rest) (Some 1) (option_map suc (line_end rest)) is) ∙ e in
        let end_is : end ≡ 1 = cc in
        let first = on_true {A = ℕ} (ends_line b rest) 1 0 is in
        let none : lines_before rest 0 ≡ 0 = refl in
        ap (lines_before (b ∷ rest)) end_is ∙ omega (arith, first, none)
    go next false is =
        let more = some_suc (line_end rest) end
        (sym (on_false (ends_line b rest) (Some 1) (option_map suc (line_end rest)) is) ∙ e) in
        let first = on_false {A = ℕ} (ends_line b rest) 1 0 is in
        let later = next more.0 more.1 in
        ap (lines_before (b ∷ rest)) more.2 ∙ omega (arith, first, later)

pub before_add : (text : List ℕ) (at more : ℕ)
    → lines_before text (at + more) ≡ lines_before text at + lines_before (drop at text) more
before_add text zero more = ap (lines_before text) (zero-add more) ∙ sym (zero-add (lines_before text more))
before_add [] (suc at) more = none (suc at + more) ∙ sym (zero-add (lines_before [] more) ∙ none more)
  where
    none : (n : ℕ) → lines_before [] n ≡ 0
    none zero = refl
    none (suc n) = refl
before_add (b ∷ rest) (suc at) more =
    let e : suc at + more ≡ suc (at + more) = omega arith in
    let later = before_add rest at more in
    ap (lines_before (b ∷ rest)) e ∙ omega (arith, later)

-- ---- where lines start

pub one_more : (n : ℕ) (text : List ℕ) → behind_lines (suc n) text ≡ behind_lines 1 (behind_lines n text)
one_more zero text = refl
one_more (suc n) [] = refl
one_more (suc n) (b ∷ rest) = go (λ m. one_more m rest) (ends_line b rest) refl
  where
    go : ((m : ℕ) → behind_lines (suc m) rest ≡ behind_lines 1 (behind_lines m rest)) → (t : Bool)
        → ends_line b rest ≡ t
        → behind_lines (suc (suc n)) (b ∷ rest) ≡ behind_lines 1 (behind_lines (suc n) (b ∷ rest))
    go next true is =
        on_true (ends_line b rest) (behind_lines (suc n) rest) (behind_lines (suc (suc n)) rest) is ∙ next n
        ∙ ap (behind_lines 1)
        (sym (on_true (ends_line b rest) (behind_lines n rest) (behind_lines (suc n) rest) is))
    go next false is =
        on_false (ends_line b rest) (behind_lines (suc n) rest) (behind_lines (suc (suc n)) rest) is
        ∙ next (suc n)
        ∙ ap (behind_lines 1)
        (sym (on_false (ends_line b rest) (behind_lines n rest) (behind_lines (suc n) rest) is))

pub first_start : (text : List ℕ) → IsLineStart text 0 0
first_start text = record { within = omega arith; few = omega arith; before = refl; behind = refl }

pub next_start : (text : List ℕ) (line start end : ℕ) → IsLineStart text line start
    → line_end (drop start text) ≡ Some end → IsLineStart text (line + 1) (start + end)
next_start text line start end h e =
    let bounds = end_within (drop start text) end e in
    let room = bounds.1 in
    let some = bounds.0 in
    let len = length-drop start text in
    let within = h.within in
    let few = h.few in
    let next : line + 1 ≡ suc line = omega arith in
    record {
      within = omega (arith, room, len, within);
      few = omega (arith, few, some);
      before = before_add text start end ∙ ap (λ n. n + lines_before (drop start text) end) h.before
          ∙ ap (λ n. line + n) (at_end (drop start text) end e);
      behind = ap (λ n. behind_lines n text) next ∙ one_more line text ∙ ap (behind_lines 1) h.behind
          ∙ behind_next 0 (drop start text) end e ∙ drop-drop end start text;
    }

-- the position of a place, by the last line that starts before it
pub position_found : (e : Encoding) (text : List ℕ) (at line start : ℕ) → IsLineStart text line start
    → start ≤ at → lines_before (drop start text) (at - start) ≡ 0
    → position (line) (units_before e (first_line (drop start text)) (at - start)) ≡ position_of e text at
position_found e text at line start h le last =
    let place : start + (at - start) ≡ at = omega arith in
    let before = h.before in
    let count : line ≡ lines_before text at =
    sym (ap (lines_before text) (sym place) ∙ before_add text start (at - start)
    ∙ (let b = h.before in omega (arith, b, last))) in
    let behind : drop start text ≡ behind_lines (lines_before text at) text = sym h.behind
    ∙ ap (λ n. behind_lines n text) count in
    let len = length-drop start text in
    let within = h.within in
    let size = ap length behind in
    let from : start ≡ length text - length (behind_lines (lines_before text at) text) =
    omega (arith, len, within, size) in
    λ i. position (count i) (units_before e (first_line (behind i)) (at - from i))
