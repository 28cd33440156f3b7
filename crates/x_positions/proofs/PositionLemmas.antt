-- Characters of a line, and the law of positions.
use Rattle.std.proofs.Common.{◌≡◌, ℕ, zero, suc, ◌+◌, ◌-◌, ◌<◌, ◌≤◌, Bool, true, false, List, [], ◌∷◌, length}
use Rattle.std.proofs.Common.{take, drop, arith, refl, sym, ap, subst, ◌∙◌}
use Rattle.std.specs.Prelude.{slice_index, ◌==◌, ◌||◌, ◌&&◌, not, nat_le}
use Rattle.std.proofs.lemmas.Bool.Decides.{nat_tests}
use Rattle.std.proofs.lemmas.List.Sums.{sum_by-cons}
use Rattle.x_positions.specs.declared.encoding.Encoding.{Encoding}
use Rattle.x_positions.specs.declared.encoding.Encoding.TheVariants.{Utf8, Utf16}
use Rattle.x_positions.specs.Encodings.{is_inner, unit, length_by}
use Rattle.x_positions.specs.Positions.{starts_feed, ends_line, behind_lines, is_break, first_line}
use Rattle.x_positions.specs.Positions.{lines_before, offset_of, place_within, position_of, units_before}
use Rattle.x_positions.specs.Positions.{IsBetween}
use Rattle.x_positions.specs.Waymarks.{IsOutsidePair}
use Rattle.x_positions.proofs.Choices.{on_true, on_false, not_true}
use Rattle.x_positions.proofs.LineLemmas.{position}

-- ---- characters of a line

some_unit : (e : Encoding) (b : ℕ) → is_inner b ≡ false → 0 < unit e b
some_unit e b outer = subst (λ n. 0 < n) (sym (on_false (is_inner b) 0 (length_by e b) outer)) (some e)
  where
    some : (e : Encoding) → 0 < length_by e b
    some Utf8 = grind (arith, nat_tests)
    some Utf16 = grind (arith, nat_tests)

-- no unit is left before the first byte of a character
none_left : (e : Encoding) (line : List ℕ) → is_inner (slice_index line 0) ≡ false → place_within e line 0 ≡ 0
none_left e [] outer = refl
none_left e (b ∷ rest) outer =
    let some = some_unit e b outer in
    on_false (nat_le (unit e b) 0) (suc (place_within e rest (0 - unit e b))) 0 (full (unit e b) some)
  where
    full : (n : ℕ) → 0 < n → nat_le n 0 ≡ false
    full n some = grind (arith, nat_tests)

-- ---- the law

inner_pair : (b : ℕ) (rest : List ℕ) (at : ℕ) → IsOutsidePair (b ∷ rest) (suc at) → IsOutsidePair rest at
inner_pair b rest zero pair lt = absurd (omega arith)
inner_pair b rest (suc at) pair lt =
    let one : suc at - 1 ≡ at = omega arith in
    let two : suc (suc at) - 1 ≡ suc at = omega arith in
    ap (λ k. slice_index rest k == 13 && slice_index rest (suc at) == 10) one
    ∙ sym (ap (λ k. slice_index (b ∷ rest) k == 13 && slice_index (b ∷ rest) (suc (suc at)) == 10) two)
    ∙ pair (omega arith)

head_outer : (text : List ℕ) → is_inner (slice_index text 0) ≡ false
    → is_inner (slice_index (first_line text) 0) ≡ false
head_outer [] outer = refl
head_outer (b ∷ rest) outer = go (is_break b) refl
  where
    go : (t : Bool) → is_break b ≡ t → is_inner (slice_index (first_line (b ∷ rest)) 0) ≡ false
    go true is = ap (λ l. is_inner (slice_index l 0)) (on_true (is_break b) [] (b ∷ first_line rest) is)
    go false is = ap (λ l. is_inner (slice_index l 0)) (on_false (is_break b) [] (b ∷ first_line rest) is)
        ∙ outer

-- b: a line feed; c: a carriage return; f: a line feed behind it
pub plain : (b c f : Bool) → (b || (c && not f)) ≡ false → (c && f ≡ true → ⊥) → (b || c) ≡ false
plain true c f e g = absurd (cc)
plain false true true e g = absurd (g refl)
plain false true false e g = absurd (cc)
plain false false f e g = refl

pub feed_then : (rest : List ℕ) (at : ℕ) → starts_feed rest ≡ true → 1 ≤ lines_before rest (suc at)
feed_then [] at e = absurd (cc)
feed_then (c ∷ rest) at e =
    let first = on_true {A = ℕ} (ends_line c rest) 1 0
    (ap (λ x. x || (c == 13 && not (starts_feed rest))) e) in omega (arith, first)

starts_ten : (rest : List ℕ) → starts_feed rest ≡ true → (slice_index rest 0 == 10) ≡ true
starts_ten [] e = absurd (cc)
starts_ten (c ∷ rest) e = e

both : (x y : Bool) → x ≡ true → y ≡ true → x && y ≡ true
both true true e f = refl
both true false e f = absurd (cc)
both false y e f = absurd (cc)

and_left : (x y : Bool) → x && y ≡ true → x ≡ true
and_left true y e = refl
and_left false y e = absurd (cc)

and_right : (x y : Bool) → x && y ≡ true → y ≡ true
and_right true y e = e
and_right false y e = absurd (cc)

-- a carriage return that stands at the end of a line's place is followed by no line feed
no_feed : (b : ℕ) (rest : List ℕ) (k : ℕ) → lines_before rest k ≡ 0 → IsOutsidePair (b ∷ rest) (suc k)
    → (b == 13) && starts_feed rest ≡ true → ⊥
no_feed b rest zero later pair is =
    let wrong : true ≡ false =
    sym (both (b == 13) (slice_index rest 0 == 10) (and_left (b == 13) (starts_feed rest) is)
    (starts_ten rest (and_right (b == 13) (starts_feed rest) is))) ∙ pair (omega arith) in cc
no_feed b rest (suc k) later pair is =
    let some = feed_then rest k (and_right (b == 13) (starts_feed rest) is) in omega (arith, some, later)

-- in a line, units behind those before a place are found from the place on
units_on : (e : Encoding) (text : List ℕ) (at n : ℕ) → at ≤ length text → lines_before text at ≡ 0
    → IsOutsidePair text at
    → place_within e (first_line text) (units_before e (first_line text) at + n)
    ≡ at + place_within e (first_line (drop at text)) n
units_on e text zero n le none pair =
    let same : 0 + n ≡ n = omega arith in
    let place = ap (place_within e (first_line text)) same in omega (arith, place)
units_on e [] (suc at) n le none pair = absurd (omega arith)
units_on e (b ∷ rest) (suc at) n le none pair =
    let u = unit e b in
    let v = units_before e (first_line rest) at in
    let no_end : ends_line b rest ≡ false =
    not_true (ends_line b rest) (λ is. let first = on_true {A = ℕ} (ends_line b rest) 1 0 is in
    omega (arith, first, none)) in
    let later : lines_before rest at ≡ 0 =
    (let first = on_false {A = ℕ} (ends_line b rest) 1 0 no_end in omega (arith, first, none)) in
    let broken : is_break b ≡ false =
    plain (b == 10) (b == 13) (starts_feed rest) no_end (no_feed b rest at later pair) in
    let line_is : first_line (b ∷ rest) ≡ b ∷ first_line rest =
    on_false (is_break b) [] (b ∷ first_line rest) broken in
    let left : u + v + n - u ≡ v + n = omega arith in
    let more = units_on e rest at n (omega arith) later (inner_pair b rest at pair) in
    let all : place_within e (first_line (b ∷ rest)) (units_before e (first_line (b ∷ rest)) (suc at) + n)
    ≡ suc (place_within e (first_line rest) (v + n)) =
    ap (λ l. place_within e l (units_before e l (suc at) + n)) line_is
    ∙ ap (λ k. place_within e (b ∷ first_line rest) (k + n))
    (sum_by-cons (unit e) b (take at (first_line rest)))
    ∙ on_true (nat_le u (u + v + n)) (suc (place_within e (first_line rest) (u + v + n - u))) 0 (fits u v n)
    ∙ ap (λ k. suc (place_within e (first_line rest) k)) left in
    omega (arith, all, more)
  where
    fits : (u v n : ℕ) → nat_le u (u + v + n) ≡ true
    fits u v n = grind (arith, nat_tests)

pub behind_le : (n : ℕ) (text : List ℕ) → length (behind_lines n text) ≤ length text
behind_le zero text = omega arith
behind_le (suc n) [] = omega arith
behind_le (suc n) (b ∷ rest) = go (λ m. behind_le m rest) (ends_line b rest) refl
  where
    go : ((m : ℕ) → length (behind_lines m rest) ≤ length rest) → (t : Bool) → ends_line b rest ≡ t
        → length (behind_lines (suc n) (b ∷ rest)) ≤ length (b ∷ rest)
    go next true is =
        let e = ap length (on_true (ends_line b rest) (behind_lines n rest) (behind_lines (suc n) rest) is) in
        let le = next n in omega (arith, e, le)
    go next false is =
        let e = ap length (on_false (ends_line b rest) (behind_lines n rest)
        (behind_lines (suc n) rest) is) in
        let le = next (suc n) in omega (arith, e, le)

-- the place of the units before a place, and of some more,
-- in the first line of what is left of a text of this length
led : Encoding → ℕ → List ℕ → ℕ → ℕ → ℕ
led e len left at n = (len - length left)
    + place_within e (first_line left) (units_before e (first_line left) (at - (len - length left)) + n)

led_more : (e : Encoding) (len : ℕ) (left : List ℕ) (at n : ℕ) → length left ≤ len
    → led e (suc len) left (suc at) n ≡ suc (led e len left at n)
unfolding led
led_more e len left at n le =
    let start : suc len - length left ≡ suc (len - length left) = omega arith in
    let since : suc at - (suc len - length left) ≡ at - (len - length left) = omega arith in
    let place = λ (k : ℕ). place_within e (first_line left) (units_before e (first_line left) k + n) in
    let same = ap place since in
    omega (arith, start, same)

in_line : (e : Encoding) (text : List ℕ) (at n : ℕ) → at ≤ length text → IsOutsidePair text at
    → lines_before text at ≡ 0
    → led e (length text) (behind_lines (lines_before text at) text) at n
    ≡ at + place_within e (first_line (drop at text)) n
unfolding led
in_line e text at n le pair none =
    let start : length text - length text ≡ 0 = omega arith in
    let since : at - (length text - length text) ≡ at = omega arith in
    let place = λ (k : ℕ). place_within e (first_line text) (units_before e (first_line text) k + n) in
    let same = ap place since ∙ units_on e text at n le none pair in
    let here : led e (length text) text at n ≡ at + place_within e (first_line (drop at text)) n =
    omega (arith, start, same) in
    ap (λ k. led e (length text) (behind_lines k text) at n) none ∙ here

led_on : (e : Encoding) (text : List ℕ) (at n : ℕ) → at ≤ length text → IsOutsidePair text at
    → led e (length text) (behind_lines (lines_before text at) text) at n
    ≡ at + place_within e (first_line (drop at text)) n
led_on e text zero n le pair = in_line e text 0 n le pair refl
led_on e [] (suc at) n le pair = absurd (omega arith)
led_on e (b ∷ rest) (suc at) n le pair =
    go (led_on e rest at n (omega arith) (inner_pair b rest at pair)) (ends_line b rest) refl
    (lines_before rest at) refl
  where
    found : ℕ
    found = place_within e (first_line (drop at rest)) n

    next : led e (length rest) (behind_lines (lines_before rest at) rest) at n ≡ at + found
        → behind_lines (lines_before (b ∷ rest) (suc at)) (b ∷ rest)
        ≡ behind_lines (lines_before rest at) rest
        → led e (length (b ∷ rest)) (behind_lines (lines_before (b ∷ rest) (suc at)) (b ∷ rest)) (suc at) n
        ≡ suc at + found
    next back same =
        let one : suc (at + found) ≡ suc at + found = omega arith in
        ap (λ l. led e (length (b ∷ rest)) l (suc at) n) same
        ∙ led_more e (length rest) (behind_lines (lines_before rest at) rest) at n
        (behind_le (lines_before rest at) rest)
        ∙ ap suc back ∙ one

    go : led e (length rest) (behind_lines (lines_before rest at) rest) at n ≡ at + found → (t : Bool)
        → ends_line b rest ≡ t → (k : ℕ) → lines_before rest at ≡ k
        → led e (length (b ∷ rest)) (behind_lines (lines_before (b ∷ rest) (suc at)) (b ∷ rest)) (suc at) n
        ≡ suc at + found
    go back true is k k_is =
        let first = on_true {A = ℕ} (ends_line b rest) 1 0 is in
        let count : lines_before (b ∷ rest) (suc at) ≡ suc (lines_before rest at) = omega (arith, first) in
        next back (ap (λ k. behind_lines k (b ∷ rest)) count
        ∙ on_true (ends_line b rest) (behind_lines (lines_before rest at) rest)
        (behind_lines (suc (lines_before rest at)) rest) is)
    go back false is zero k_is =
        let first = on_false {A = ℕ} (ends_line b rest) 1 0 is in
        let count : lines_before (b ∷ rest) (suc at) ≡ 0 = omega (arith, first, k_is) in
        in_line e (b ∷ rest) (suc at) n le pair count
    go back false is (suc m) k_is =
        let first = on_false {A = ℕ} (ends_line b rest) 1 0 is in
        let count : lines_before (b ∷ rest) (suc at) ≡ suc m = omega (arith, first, k_is) in
        next back (ap (λ k. behind_lines k (b ∷ rest)) count
        ∙ on_false (ends_line b rest) (behind_lines m rest) (behind_lines (suc m) rest) is
        ∙ ap (λ k. behind_lines k rest) (sym k_is))

-- a position in the line of a place is found from the place on
pub offset_on : (e : Encoding) (text : List ℕ) (at n : ℕ) → at ≤ length text → IsOutsidePair text at
    → offset_of e text (position (position_of e text at).line ((position_of e text at).character + n))
    ≡ at + place_within e (first_line (drop at text)) n
unfolding led
offset_on e text at n le pair = led_on e text at n le pair

-- what stands behind a later line end is found from a place on
pub behind_on : (text : List ℕ) (at n : ℕ)
    → behind_lines (lines_before text at + suc n) text ≡ behind_lines (suc n) (drop at text)
behind_on text zero n = let same : 0 + suc n ≡ suc n = omega arith in ap (λ k. behind_lines k text) same
behind_on [] (suc at) n = let same : 0 + suc n ≡ suc n = omega arith in ap (λ k. behind_lines k []) same
behind_on (b ∷ rest) (suc at) n = go (behind_on rest at n) (ends_line b rest) refl
  where
    go : behind_lines (lines_before rest at + suc n) rest ≡ behind_lines (suc n) (drop at rest) → (t : Bool)
        → ends_line b rest ≡ t
        → behind_lines (lines_before (b ∷ rest) (suc at) + suc n) (b ∷ rest)
        ≡ behind_lines (suc n) (drop at rest)
    go more true is =
        let k = lines_before rest at + suc n in
        let first = on_true {A = ℕ} (ends_line b rest) 1 0 is in
        let count : lines_before (b ∷ rest) (suc at) + suc n ≡ suc k = omega (arith, first) in
        ap (λ m. behind_lines m (b ∷ rest)) count
        ∙ on_true (ends_line b rest) (behind_lines k rest) (behind_lines (suc k) rest) is ∙ more
    go more false is =
        let k = lines_before rest at + n in
        let first = on_false {A = ℕ} (ends_line b rest) 1 0 is in
        let count : lines_before (b ∷ rest) (suc at) + suc n ≡ suc k = omega (arith, first) in
        let same : suc k ≡ lines_before rest at + suc n = omega arith in
        ap (λ m. behind_lines m (b ∷ rest)) count
        ∙ on_false (ends_line b rest) (behind_lines k rest) (behind_lines (suc k) rest) is
        ∙ ap (λ m. behind_lines m rest) same ∙ more

-- no unit is left at a place that is not within a character
none_more : (e : Encoding) (text : List ℕ) (at : ℕ) → is_inner (slice_index text at) ≡ false
    → place_within e (first_line (drop at text)) 0 ≡ 0
none_more e text at outer = none_left e (first_line (drop at text))
    (head_outer (drop at text) (ap is_inner (first_at text at) ∙ outer))
  where
    first_at : (text : List ℕ) (at : ℕ) → slice_index (drop at text) 0 ≡ slice_index text at
    first_at text zero = refl
    first_at [] (suc at) = refl
    first_at (b ∷ rest) (suc at) = first_at rest at

-- the position of a place leads back to it
pub positions_lead_back : (e : Encoding) (text : List ℕ) (at : ℕ) → IsBetween text at
    → offset_of e text (position_of e text at) ≡ at
positions_lead_back e text at h =
    let p = position_of e text at in
    let same : p.character ≡ p.character + 0 = omega arith in
    let none = none_more e text at h.not_inner in
    let found = offset_on e text at 0 h.within h.not_in_end in
    let all : offset_of e text p ≡ at + place_within e (first_line (drop at text)) 0 =
    ap (λ k. offset_of e text (position p.line k)) same ∙ found in
    omega (arith, none, all)
