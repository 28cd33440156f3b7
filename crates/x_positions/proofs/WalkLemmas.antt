-- Walks over a text, which tell the position of each place of it by that of one before.
use Rattle.std.proofs.Common.{◌≡◌, ℕ, zero, suc, ◌+◌, ◌-◌, ◌*◌, ◌<◌, ◌≤◌, Bool, true, false, cond, List, []}
use Rattle.std.proofs.Common.{◌∷◌, length, take, drop, arith, refl, sym, ap, subst, ◌∙◌, zero-add, ◌⊎◌, inl}
use Rattle.std.proofs.Common.{inr}
use Rattle.std.specs.Prelude.{slice_index, ◌==◌, ◌||◌, ◌&&◌, not, option_map, Some}
use Rattle.std.proofs.lemmas.Bool.Decides.{nat_tests}
use Rattle.std.proofs.lemmas.List.Sums.{sum_by-cons}
use Rattle.std.proofs.Math.Seq.{drop-cons}
use Rattle.x_positions.specs.declared.encoding.Encoding.{Encoding}
use Rattle.x_positions.specs.declared.positions.Position.{Position}
use Rattle.x_positions.specs.Encodings.{unit}
use Rattle.x_positions.specs.Positions.{starts_feed, ends_line, behind_lines, is_break, first_line, line_end}
use Rattle.x_positions.specs.Positions.{line_at, line_start, lines_before, position_of, units_before}
use Rattle.x_positions.specs.Waymarks.{IsAt}
use Rattle.x_positions.proofs.Choices.{on_true, on_false, not_true}
use Rattle.x_positions.proofs.LineLemmas.{position, some_suc}
use Rattle.x_positions.proofs.PositionLemmas.{behind_le, feed_then, plain}

-- the position behind a byte that stands before the rest
abbrev pub stepped : Encoding → ℕ → List ℕ → Position → Position
stepped e b rest p =
    cond (ends_line b rest) (position (suc p.line) 0)
    (cond (is_break b) p (position p.line (p.character + unit e b)))

-- the position so many bytes on
abbrev pub walked : Encoding → List ℕ → ℕ → Position → Position
walked e text zero p = p
walked e [] (suc n) p = p
walked e (b ∷ rest) (suc n) p = walked e rest n (stepped e b rest p)

-- ---- one byte

step_end : (e : Encoding) (b : ℕ) (rest : List ℕ) (p : Position) → ends_line b rest ≡ true
    → stepped e b rest p ≡ position (suc p.line) 0
step_end e b rest p is = on_true (ends_line b rest) (position (suc p.line) 0)
    (cond (is_break b) p (position p.line (p.character + unit e b))) is

step_pair : (e : Encoding) (b : ℕ) (rest : List ℕ) (p : Position) → ends_line b rest ≡ false
    → is_break b ≡ true → stepped e b rest p ≡ p
step_pair e b rest p is broken =
    on_false (ends_line b rest) (position (suc p.line) 0)
    (cond (is_break b) p (position p.line (p.character + unit e b))) is
    ∙ on_true (is_break b) p (position p.line (p.character + unit e b)) broken

step_unit : (e : Encoding) (b : ℕ) (rest : List ℕ) (p : Position) → ends_line b rest ≡ false
    → is_break b ≡ false → stepped e b rest p ≡ position p.line (p.character + unit e b)
step_unit e b rest p is broken =
    on_false (ends_line b rest) (position (suc p.line) 0)
    (cond (is_break b) p (position p.line (p.character + unit e b))) is
    ∙ on_false (is_break b) p (position p.line (p.character + unit e b)) broken

-- a byte that ends no line leaves the line
step_line : (e : Encoding) (b : ℕ) (rest : List ℕ) (p : Position) → ends_line b rest ≡ false
    → (stepped e b rest p).line ≡ p.line
step_line e b rest p is = go (is_break b) refl
  where
    go : (t : Bool) → is_break b ≡ t → (stepped e b rest p).line ≡ p.line
    go true broken = ap (λ q. q.line) (step_pair e b rest p is broken)
    go false broken = ap (λ q. q.line) (step_unit e b rest p is broken)

-- ---- walks behind one another

pub walked_none : (e : Encoding) (n : ℕ) (p : Position) → walked e [] n p ≡ p
walked_none e zero p = refl
walked_none e (suc n) p = refl

pub walked_add : (e : Encoding) (text : List ℕ) (i j : ℕ) (p : Position)
    → walked e text (i + j) p ≡ walked e (drop i text) j (walked e text i p)
walked_add e text zero j p = ap (λ n. walked e text n p) (zero-add j)
walked_add e [] (suc i) j p = walked_none e (suc i + j) p ∙ sym (walked_none e j p)
walked_add e (b ∷ rest) (suc i) j p =
    let next : suc i + j ≡ suc (i + j) = omega arith in
    ap (λ n. walked e (b ∷ rest) n p) next ∙ walked_add e rest i j (stepped e b rest p)

-- ---- within a line, and to its end

first_none : (b : ℕ) (rest : List ℕ) (n : ℕ) → ends_line b rest ≡ true
    → lines_before (b ∷ rest) (suc n) ≡ suc (lines_before rest n)
first_none b rest n is = let first = on_true {A = ℕ} (ends_line b rest) 1 0 is in omega (arith, first)

first_same : (b : ℕ) (rest : List ℕ) (n : ℕ) → ends_line b rest ≡ false
    → lines_before (b ∷ rest) (suc n) ≡ lines_before rest n
first_same b rest n is = let first = on_false {A = ℕ} (ends_line b rest) 1 0 is in omega (arith, first)

-- behind a carriage return whose line feed follows, no place but that one is in the same line
pair_last : (b : ℕ) (rest : List ℕ) (n : ℕ) → ends_line b rest ≡ false → is_break b ≡ true
    → lines_before rest n ≡ 0 → n ≡ 0
pair_last b rest zero is broken none = refl
pair_last b rest (suc n) is broken none =
    absurd (let wrong =
    sym (plain (b == 10) (b == 13) (starts_feed rest) is
    (λ pair. let some = feed_then rest n (second (b == 13) (starts_feed rest) pair) in
    omega (arith, some, none))) ∙ broken in cc)
  where
    second : (x y : Bool) → x && y ≡ true → y ≡ true
    second true y e = e
    second false y e = absurd (cc)

pub line_walked : (e : Encoding) (text : List ℕ) (n : ℕ) (p : Position) → lines_before text n ≡ 0
    → walked e text n p ≡ position p.line (p.character + units_before e (first_line text) n)
line_walked e text zero p none =
    let same : p.character ≡ p.character + 0 = omega arith in ap (position p.line) same
line_walked e [] (suc n) p none =
    let same : p.character ≡ p.character + 0 = omega arith in ap (position p.line) same
line_walked e (b ∷ rest) (suc n) p none = go (λ q f. line_walked e rest n q f) (is_break b) refl
  where
    unended : ends_line b rest ≡ false
    unended = not_true (ends_line b rest)
        (λ is. let some = first_none b rest n is in omega (arith, some, none))

    later : lines_before rest n ≡ 0
    later = sym (first_same b rest n unended) ∙ none

    go : ((q : Position) → lines_before rest n ≡ 0 → walked e rest n q
        ≡ position q.line (q.character + units_before e (first_line rest) n)) → (t : Bool) → is_break b ≡ t
        → walked e (b ∷ rest) (suc n) p ≡ position p.line
        (p.character + units_before e (first_line (b ∷ rest)) (suc n))
    go more true broken =
        let same : p.character ≡ p.character + 0 = omega arith in
        ap (walked e rest n) (step_pair e b rest p unended broken)
        ∙ ap (λ k. walked e rest k p) (pair_last b rest n unended broken later)
        ∙ ap (position p.line) same
        ∙ ap (λ l. position p.line (p.character + units_before e l (suc n)))
        (sym (on_true (is_break b) [] (b ∷ first_line rest) broken))
    go more false broken =
        let u = unit e b in
        let v = units_before e (first_line rest) n in
        let sum : p.character + u + v ≡ p.character + (u + v) = omega arith in
        let all : units_before e (first_line (b ∷ rest)) (suc n) ≡ u + v =
        ap (λ l. units_before e l (suc n)) (on_false (is_break b) [] (b ∷ first_line rest) broken)
        ∙ sum_by-cons (unit e) b (take n (first_line rest)) in
        ap (walked e rest n) (step_unit e b rest p unended broken)
        ∙ more (position p.line (p.character + u)) later
        ∙ ap (position p.line) (sum ∙ ap (λ k. p.character + k) (sym all))

pub end_walked : (e : Encoding) (text : List ℕ) (end : ℕ) (p : Position) → line_end text ≡ Some end
    → walked e text end p ≡ position (suc p.line) 0
end_walked e [] end p is = absurd (cc)
end_walked e (b ∷ rest) end p is = go (λ m q f. end_walked e rest m q f) (ends_line b rest) refl
  where
    go : ((m : ℕ) (q : Position) → line_end rest ≡ Some m → walked e rest m q ≡ position (suc q.line) 0)
        → (t : Bool) → ends_line b rest ≡ t → walked e (b ∷ rest) end p ≡ position (suc p.line) 0
    go next true ends =
        let one : Some 1 ≡ Some end =
        sym (on_true (ends_line b rest) (Some 1) (option_map suc (line_end rest)) ends) ∙ is in
        let end_is : end ≡ 1 = cc in
        ap (λ n. walked e (b ∷ rest) n p) end_is ∙ step_end e b rest p ends
    go next false ends =
        let more = some_suc (line_end rest) end
        (sym (on_false (ends_line b rest) (Some 1) (option_map suc (line_end rest)) ends) ∙ is) in
        ap (λ n. walked e (b ∷ rest) n p) more.2 ∙ next more.0 (stepped e b rest p) more.1
        ∙ ap (λ l. position (suc l) 0) (step_line e b rest p ends)

-- ---- the position of a place is what a walk from the start leads to

-- the units before a place in the first line of what is left of a text of this length
units_left : Encoding → ℕ → List ℕ → ℕ → ℕ
units_left e len left n = units_before e (first_line left) (n - (len - length left))

left_more : (e : Encoding) (len : ℕ) (left : List ℕ) (n : ℕ) → length left ≤ len
    → units_left e (suc len) left (suc n) ≡ units_left e len left n
unfolding units_left
left_more e len left n le = ap (units_before e (first_line left))
    (let same : suc n - (suc len - length left) ≡ n - (len - length left) = omega arith in same)

left_all : (e : Encoding) (text : List ℕ) (n : ℕ)
    → units_left e (length text) text n ≡ units_before e (first_line text) n
unfolding units_left
left_all e text n = ap (units_before e (first_line text))
    (let same : n - (length text - length text) ≡ n = omega arith in same)

lines_walked : (e : Encoding) (text : List ℕ) (n k : ℕ) (p : Position) → lines_before text n ≡ suc k
    → walked e text n p ≡ position (p.line + suc k) (units_left e (length text) (behind_lines (suc k) text) n)
lines_walked e text zero k p some = absurd (omega (arith, some))
lines_walked e [] (suc n) k p some = absurd (omega (arith, some))
lines_walked e (b ∷ rest) (suc n) k p some =
    go (λ m q f. lines_walked e rest n m q f) (ends_line b rest) refl k refl
  where
    more : (left : List ℕ) → length left ≤ length rest
        → units_left e (length rest) left n ≡ units_left e (length (b ∷ rest)) left (suc n)
    more left le = sym (left_more e (length rest) left n le)

    go : ((m : ℕ) (q : Position) → lines_before rest n ≡ suc m → walked e rest n q
        ≡ position (q.line + suc m) (units_left e (length rest) (behind_lines (suc m) rest) n))
        → (t : Bool) → ends_line b rest ≡ t → (m : ℕ) → k ≡ m
        → walked e (b ∷ rest) (suc n) p ≡ position (p.line + suc k)
        (units_left e (length (b ∷ rest)) (behind_lines (suc k) (b ∷ rest)) (suc n))
    go next true ends zero none =
        let later : lines_before rest n ≡ 0 =
        (let all = first_none b rest n ends in omega (arith, all, some, none)) in
        let left : behind_lines (suc k) (b ∷ rest) ≡ rest = on_true (ends_line b rest) (behind_lines k rest)
        (behind_lines (suc k) rest) ends ∙ ap (λ m. behind_lines m rest) none in
        let line : suc p.line ≡ p.line + suc k = omega arith in
        let start : 0 + units_before e (first_line rest) n ≡ units_before e (first_line rest) n =
        omega arith in
        ap (walked e rest n) (step_end e b rest p ends) ∙ line_walked e rest n (position (suc p.line) 0) later
        ∙ ap (position (suc p.line)) (start ∙ sym (left_all e rest n) ∙ more rest (omega arith))
        ∙ (λ i. position (line i) (units_left e (length (b ∷ rest)) (sym left i) (suc n)))
    go next true ends (suc m) is =
        let later : lines_before rest n ≡ suc m =
        (let all = first_none b rest n ends in omega (arith, all, some, is)) in
        let left : behind_lines (suc k) (b ∷ rest) ≡ behind_lines (suc m) rest =
        on_true (ends_line b rest) (behind_lines k rest) (behind_lines (suc k) rest) ends
        ∙ ap (λ m. behind_lines m rest) is in
        let line : suc p.line + suc m ≡ p.line + suc k = omega arith in
        ap (walked e rest n) (step_end e b rest p ends) ∙ next m (position (suc p.line) 0) later
        ∙ ap (position (suc p.line + suc m)) (more (behind_lines (suc m) rest) (behind_le (suc m) rest))
        ∙ (λ i. position (line i) (units_left e (length (b ∷ rest)) (sym left i) (suc n)))
    go next false ends m is =
        let later : lines_before rest n ≡ suc k = sym (first_same b rest n ends) ∙ some in
        let left : behind_lines (suc k) (b ∷ rest) ≡ behind_lines (suc k) rest =
        on_false (ends_line b rest) (behind_lines k rest) (behind_lines (suc k) rest) ends in
        let line : (stepped e b rest p).line + suc k ≡ p.line + suc k =
        ap (λ l. l + suc k) (step_line e b rest p ends) in
        next k (stepped e b rest p) later
        ∙ ap (position ((stepped e b rest p).line + suc k))
        (more (behind_lines (suc k) rest) (behind_le (suc k) rest))
        ∙ (λ i. position (line i) (units_left e (length (b ∷ rest)) (sym left i) (suc n)))

pub position_walked : (e : Encoding) (text : List ℕ) (at : ℕ)
    → position_of e text at ≡ walked e text at (position 0 0)
unfolding units_left
position_walked e text at = go (lines_before text at) refl
  where
    go : (k : ℕ) → lines_before text at ≡ k → position_of e text at ≡ walked e text at (position 0 0)
    go zero none =
        ap (λ k. position k (units_left e (length text) (behind_lines k text) at)) none
        ∙ ap (position 0) (left_all e text at)
        ∙ ap (position 0) (sym (zero-add (units_before e (first_line text) at)))
        ∙ sym (line_walked e text at (position 0 0) none)
    go (suc k) some =
        ap (λ k. position k (units_left e (length text) (behind_lines k text) at)) some
        ∙ ap (λ l. position l (units_left e (length text) (behind_lines (suc k) text) at))
        (sym (zero-add (suc k))) ∙ sym (lines_walked e text at k (position 0 0) some)

-- the position so many bytes behind a place
pub position_on : (e : Encoding) (text : List ℕ) (at n : ℕ)
    → position_of e text (at + n) ≡ walked e (drop at text) n (position_of e text at)
position_on e text at n =
    position_walked e text (at + n) ∙ walked_add e text at n (position 0 0)
    ∙ ap (walked e (drop at text) n) (sym (position_walked e text at))

-- a place of a text, by an earlier one and a walk
pub is_on : (e : Encoding) (text : List ℕ) (at n : ℕ) (p : Position) → IsAt e text at p → at + n ≤ length text
    → IsAt e text (at + n) (walked e (drop at text) n p)
is_on e text at n p is within =
    record {
      within = within;
      position_is = position_on e text at n ∙ ap (walked e (drop at text) n) is.position_is;
    }

-- behind a line end
pub is_behind_end : (e : Encoding) (text : List ℕ) (at end : ℕ) (p : Position) → IsAt e text at p
    → at + end ≤ length text → line_end (drop at text) ≡ Some end
    → IsAt e text (at + end) (position (p.line + 1) 0)
is_behind_end e text at end p is within ends =
    let next : suc p.line ≡ p.line + 1 = omega arith in
    record {
      within = within;
      position_is = (is_on e text at end p is within).position_is ∙ end_walked e (drop at text) end p ends
          ∙ ap (λ l. position l 0) next;
    }

-- in the same line
pub is_in_line : (e : Encoding) (text : List ℕ) (at n : ℕ) (p : Position) → IsAt e text at p
    → lines_before (drop at text) n ≡ 0
    → position p.line (p.character + units_before e (first_line (drop at text)) n)
    ≡ position_of e text (at + n)
is_in_line e text at n p is none =
    sym (position_on e text at n ∙ ap (walked e (drop at text) n) is.position_is
    ∙ line_walked e (drop at text) n p none)

-- ---- what a walk does not look at

same_feed : (n : ℕ) (rest rest' : List ℕ) → take (suc n) rest ≡ take (suc n) rest'
    → starts_feed rest ≡ starts_feed rest'
same_feed n [] [] is = refl
same_feed n [] (b ∷ rest) is = absurd (cc)
same_feed n (b ∷ rest) [] is = absurd (cc)
same_feed n (b ∷ rest) (c ∷ rest') is = let same : b ≡ c = cc in ap (λ x. x == 10) same

-- it looks at one byte behind those it passes
pub same_walk : (e : Encoding) (text text' : List ℕ) (n i : ℕ) (p : Position) → n < i
    → take i text ≡ take i text' → walked e text n p ≡ walked e text' n p
same_walk e text text' zero i p lt is = refl
same_walk e text text' (suc n) zero p lt is = absurd (omega arith)
same_walk e [] [] (suc n) (suc i) p lt is = refl
same_walk e [] (b ∷ rest) (suc n) (suc i) p lt is = absurd (cc)
same_walk e (b ∷ rest) [] (suc n) (suc i) p lt is = absurd (cc)
same_walk e (b ∷ rest) (c ∷ rest') (suc n) (suc zero) p lt is = absurd (omega arith)
same_walk e (b ∷ rest) (c ∷ rest') (suc n) (suc (suc i)) p lt is =
    let first : b ≡ c = cc in
    let later : take (suc i) rest ≡ take (suc i) rest' = cc in
    let feed = same_feed i rest rest' later in
    let step : stepped e b rest p ≡ stepped e c rest' p =
    λ j. cond (first j == 10 || (first j == 13 && not (feed j))) (position (suc p.line) 0)
    (cond (is_break (first j)) p (position p.line (p.character + unit e (first j)))) in
    ap (walked e rest n) step ∙ same_walk e rest rest' n (suc i) (stepped e c rest' p) (omega arith) later

-- so texts with the same front give places of it the same positions
pub same_position : (e : Encoding) (text text' : List ℕ) (at i : ℕ) → at < i → take i text ≡ take i text'
    → position_of e text at ≡ position_of e text' at
same_position e text text' at i lt is =
    position_walked e text at ∙ same_walk e text text' at i (position 0 0) lt is
    ∙ sym (position_walked e text' at)

-- ---- the same walk from two positions

-- from p and p' the same bytes lead to q and q'
pub record IsShift (p p' q q' : Position) : Type 0 where
  pub lines : q.line + p'.line ≡ q'.line + p.line
  pub onward : p.line ≤ q.line
  pub same : q.line ≡ p.line → (p.character ≤ q.character)
      × (q.character + p'.character ≡ q'.character + p.character)
  pub later : p.line < q.line → q'.character ≡ q.character

pub shifted : (e : Encoding) (text : List ℕ) (n : ℕ) (p p' : Position)
    → IsShift p p' (walked e text n p) (walked e text n p')
shifted e text zero p p' =
    record {
      lines = omega arith;
      onward = omega arith;
      same = λ is. (omega arith, omega arith);
      later = λ lt. absurd (omega arith);
    }
shifted e [] (suc n) p p' =
    record {
      lines = omega arith;
      onward = omega arith;
      same = λ is. (omega arith, omega arith);
      later = λ lt. absurd (omega arith);
    }
shifted e (b ∷ rest) (suc n) p p' =
    go (λ s s'. shifted e rest n s s') (ends_line b rest) refl (is_break b) refl
  where
    ended : (q q' : Position) → IsShift (position (suc p.line) 0) (position (suc p'.line) 0) q q'
        → IsShift p p' q q'
    ended q q' h =
        let lines = h.lines in
        let onward = h.onward in
        record {
          lines = omega (arith, lines);
          onward = omega (arith, onward);
          same = λ is. absurd (omega (arith, onward, is));
          later = λ lt. elim_line (le_cases (suc p.line) q.line onward);
        }
      where
        le_cases : (a c : ℕ) → a ≤ c → (a ≡ c) ⊎ (a < c)
        le_cases a c le = grind arith

        elim_line : (suc p.line ≡ q.line) ⊎ (suc p.line < q.line) → q'.character ≡ q.character
        elim_line (inl is) = let equal = (h.same (sym is)).1 in omega (arith, equal)
        elim_line (inr lt) = h.later lt

    in_line : (u : ℕ) (q q' : Position)
        → IsShift (position p.line (p.character + u)) (position p'.line (p'.character + u)) q q'
        → IsShift p p' q q'
    in_line u q q' h = record {
      lines = h.lines;
      onward = h.onward;
      same = λ is. (
        let le = (h.same is).0 in omega (arith, le),
        let equal = (h.same is).1 in omega (arith, equal),
      );
      later = h.later;
    }

    go : ((s s' : Position) → IsShift s s' (walked e rest n s) (walked e rest n s')) → (t : Bool)
        → ends_line b rest ≡ t → (f : Bool) → is_break b ≡ f
        → IsShift p p' (walked e (b ∷ rest) (suc n) p) (walked e (b ∷ rest) (suc n) p')
    go more true ends f broken =
        let s = step_end e b rest p ends in
        let s' = step_end e b rest p' ends in
        ended (walked e (b ∷ rest) (suc n) p) (walked e (b ∷ rest) (suc n) p')
        (subst (λ (v : Position). IsShift v (position (suc p'.line) 0) (walked e (b ∷ rest) (suc n) p)
        (walked e (b ∷ rest) (suc n) p')) s
        (subst (λ (v : Position). IsShift (stepped e b rest p) v (walked e (b ∷ rest) (suc n) p)
        (walked e (b ∷ rest) (suc n) p')) s' (more (stepped e b rest p) (stepped e b rest p'))))
    go more false ends true broken =
        let s = step_pair e b rest p ends broken in
        let s' = step_pair e b rest p' ends broken in
        subst (λ (v : Position). IsShift v p' (walked e (b ∷ rest) (suc n) p)
        (walked e (b ∷ rest) (suc n) p')) s
        (subst (λ (v : Position). IsShift (stepped e b rest p) v (walked e (b ∷ rest) (suc n) p)
        (walked e (b ∷ rest) (suc n) p')) s' (more (stepped e b rest p) (stepped e b rest p')))
    go more false ends false broken =
        let s = step_unit e b rest p ends broken in
        let s' = step_unit e b rest p' ends broken in
        in_line (unit e b) (walked e (b ∷ rest) (suc n) p) (walked e (b ∷ rest) (suc n) p')
        (subst (λ (v : Position). IsShift v (position p'.line (p'.character + unit e b))
        (walked e (b ∷ rest) (suc n) p) (walked e (b ∷ rest) (suc n) p')) s
        (subst (λ (v : Position). IsShift (stepped e b rest p) v (walked e (b ∷ rest) (suc n) p)
        (walked e (b ∷ rest) (suc n) p')) s' (more (stepped e b rest p) (stepped e b rest p'))))

-- places of two texts behind two that the same bytes follow
pub is_shifted : (e : Encoding) (text text' : List ℕ) (at at' n : ℕ) (p p' q : Position) → IsAt e text at p
    → IsAt e text' at' p' → drop at text ≡ drop at' text' → IsAt e text (at + n) q
    → IsShift p p' q (position_of e text' (at' + n))
is_shifted e text text' at at' n p p' q is is' same there =
    let q_is : walked e (drop at text) n p ≡ q = ap (walked e (drop at text) n) (sym is.position_is)
    ∙ sym (position_on e text at n) ∙ there.position_is in
    let q'_is : walked e (drop at text) n p' ≡ position_of e text' (at' + n) =
    ap (λ l. walked e l n p') same ∙ ap (walked e (drop at' text') n) (sym is'.position_is)
    ∙ sym (position_on e text' at' n) in
    subst (λ (v : Position). IsShift p p' v (position_of e text' (at' + n))) q_is
    (subst (λ (v : Position). IsShift p p' (walked e (drop at text) n p) v) q'_is
    (shifted e (drop at text) n p p'))

-- ---- positions are no larger than places

few_lines : (text : List ℕ) (n : ℕ) → lines_before text n ≤ n
few_lines text zero = omega arith
few_lines [] (suc n) = omega arith
few_lines (b ∷ rest) (suc n) = go (few_lines rest n) (ends_line b rest) refl
  where
    go : lines_before rest n ≤ n → (t : Bool) → ends_line b rest ≡ t → lines_before (b ∷ rest) (suc n) ≤ suc n
    go more true ends = let one = first_none b rest n ends in omega (arith, one, more)
    go more false ends = let none = first_same b rest n ends in omega (arith, none, more)

small_unit : (e : Encoding) (b : ℕ) → unit e b ≤ 4
small_unit e b = grind (arith, nat_tests)

few_units : (e : Encoding) (line : List ℕ) (n : ℕ) → units_before e line n ≤ 4 * n
few_units e line zero = omega arith
few_units e [] (suc n) = omega arith
few_units e (b ∷ rest) (suc n) =
    let one = small_unit e b in
    let more = few_units e rest n in
    let sum : units_before e (b ∷ rest) (suc n) ≡ unit e b + units_before e rest n =
    sum_by-cons (unit e) b (take n rest) in
    omega (arith, one, more, sum)

pub few_at : (e : Encoding) (text : List ℕ) (at : ℕ) (p : Position) → IsAt e text at p
    → (p.line ≤ at) × (p.character ≤ 4 * at)
few_at e text at p is =
    let line = lines_before text at in
    let line_is : line ≡ p.line = ap (λ q. q.line) is.position_is in
    let character_is : units_before e (line_at text line) (at - line_start text line) ≡ p.character =
    ap (λ q. q.character) is.position_is in
    let lines = few_lines text at in
    let units = few_units e (line_at text line) (at - line_start text line) in
    (omega (arith, line_is, lines), omega (arith, character_is, units))

-- ---- between a carriage return and its line feed

first_byte : (text : List ℕ) (at b : ℕ) → at < length text → slice_index text at ≡ b
    → drop at text ≡ b ∷ drop (suc at) text
first_byte text at b lt is = drop-cons text at 0 lt ∙ ap (λ c. c ∷ drop (suc at) text) is

-- the place has the position of the one before
pub is_in_pair : (e : Encoding) (text : List ℕ) (at : ℕ) (p : Position) → 0 < at → at < length text
    → slice_index text (at - 1) ≡ 13 → slice_index text at ≡ 10 → IsAt e text at p → IsAt e text (at - 1) p
is_in_pair e text at p some lt return feed is =
    let before = at - 1 in
    let next : suc before ≡ at = omega arith in
    let on : before + 1 ≡ at = omega arith in
    let rest : drop before text ≡ 13 ∷ 10 ∷ drop (suc at) text =
    first_byte text before 13 (omega arith) return ∙ ap (λ k. 13 ∷ drop k text) next
    ∙ ap (λ l. 13 ∷ l) (first_byte text at 10 lt feed) in
    record {
      within = omega arith;
      position_is = sym (ap (position_of e text) (sym on) ∙ position_on e text before 1
          ∙ ap (λ l. walked e l 1 (position_of e text before)) rest) ∙ is.position_is;
    }
