-- Lines and columns by searches for line feeds.
use Rattle.std.proofs.Common.{◌≡◌, ℕ, ◌+◌, ◌-◌, ◌≤◌, Bool, true, false, cond, List, ◌++◌, length, get_or}
use Rattle.std.proofs.Common.{take, drop, Option, None, Some, arith, refl, sym, ap, ◌∙◌, length-take-le}
use Rattle.std.specs.Prelude.{reverse, count_by}
use Rattle.std.specs.List.{prefix_len}
use Rattle.std.proofs.lemmas.Bool.Decides.{nat_tests}
use Rattle.std.proofs.lemmas.List.Sums.{prefix_len_is, prefix_len-le-length, sum_by-append}
use Rattle.std.proofs.lemmas.List.Folds.{prefix_len-append}
use Rattle.std.proofs.Math.Seq.{take-add}
use Rattle.std.proofs.lemmas.List.{get_or-reverse, length-reverse, reverse-append}
use Rattle.memchr.specs.Find.{IsLastByte, is_byte, places}
use Rattle.memchr.proofs.lemmas.CallerLemmas.{length-places}
use Rattle.std.specs.Prelude.{◌==◌}
use Rattle.x_text.specs.Text.{is_line_feed, is_in_line, AreCounts}

-- the bytes behind the place of the last line feed
abbrev pub since : Option ℕ → ℕ → ℕ
since None n = n
since (Some i) n = n - i - 1

is_feed : (b : ℕ) → is_byte 10 b ≡ true → is_in_line b ≡ false
is_feed b h = grind (arith, nat_tests)

is_none : (b : ℕ) → (is_byte 10 b ≡ true → ⊥) → is_in_line b ≡ true
is_none b h = grind (arith, nat_tests)

pub last_feed : (front : List ℕ) (r : Option ℕ) → IsLastByte (is_byte 10) front r
    → since r (length front) ≡ prefix_len is_in_line (reverse front)
last_feed front None h =
    sym (prefix_len_is is_in_line (reverse front) (length front) 0 (let e = length-reverse front in
    omega (arith, e))
    (λ k lt. ap is_in_line (get_or-reverse front k 0 lt)
    ∙ is_none (get_or front (length front - 1 - k) 0) (h (length front - 1 - k) (omega arith) (omega arith)))
    (λ lt. absurd (let e = length-reverse front in omega (arith, e))))
last_feed front (Some i) h =
    sym (prefix_len_is is_in_line (reverse front) (length front - i - 1) 0 (let e = length-reverse front in
    omega (arith, e))
    (λ k lt. let b = h.0.high in ap is_in_line (get_or-reverse front k 0 (omega (arith, b)))
    ∙ is_none (get_or front (length front - 1 - k) 0)
    (h.0.after (length front - 1 - k) (omega (arith, b)) (omega (arith, b))))
    (λ lt. let b = h.0.high in
    let e : length front - 1 - (length front - i - 1) ≡ i = omega (arith, b) in
    ap is_in_line (get_or-reverse front (length front - i - 1) 0 (omega (arith, b))
    ∙ ap (λ k. get_or front k 0) e) ∙ is_feed (get_or front i 0) h.1))

count_more : (p : ℕ → Bool) (xs ys : List ℕ) → count_by p (xs ++ ys) ≡ count_by p xs + count_by p ys
count_more p xs ys = sum_by-append (λ x. cond (p x) 1 0) xs ys

-- the front up to a later place
front : (text : List ℕ) (at to : ℕ) → at ≤ to → take to text ≡ take at text ++ take (to - at) (drop at text)
front text at to le =
    let e : at + (to - at) ≡ to = omega arith in ap (λ n. take n text) (sym e) ∙ take-add at (to - at) text

pub counts_first : (text : List ℕ) → length text ≤ 16777216 → AreCounts text 0 0 0
counts_first text small = record { small = small; within = omega arith; feeds_are = refl; since_is = refl }

pub since_le : (text : List ℕ) (at feeds since : ℕ) → AreCounts text at feeds since → since ≤ at
since_le text at feeds since h =
    let s = h.since_is in
    let le = prefix_len-le-length is_in_line (reverse (take at text)) in
    let r = length-reverse (take at text) in
    let t = length-take-le at text h.within in
    omega (arith, s, le, r, t)

pub counts_more : (text : List ℕ) (at feeds since to line more : ℕ) → AreCounts text at feeds since → at ≤ to
    → to ≤ length text
    → line ≡ prefix_len is_in_line (reverse (take (to - at) (drop at text)))
    → more ≡ count_by is_line_feed (take (to - at) (drop at text))
    → AreCounts text to (feeds + more) (cond (line == length (take (to - at) (drop at text)))
    (length (take (to - at) (drop at text)) + since) line)
counts_more text at feeds since to line more h le within line_is more_is = record {
  small = h.small;
  within = within;
  feeds_are = (λ i. h.feeds_are i + more_is i)
      ∙ sym (count_more is_line_feed (take at text) (take (to - at) (drop at text)))
      ∙ ap (count_by is_line_feed) (sym (front text at to le));
  since_is =
      let passed = take (to - at) (drop at text) in
      let joined = reverse-append (take at text) passed in
      let parts = prefix_len-append is_in_line (reverse passed) (reverse (take at text)) in
      let same : reverse (take to text) ≡ reverse passed ++ reverse (take at text) =
      ap reverse (front text at to le) ∙ joined in
      (λ i. cond (line_is i == sym (length-reverse passed) i) (sym (length-reverse passed) i + h.since_is i)
      (line_is i)) ∙ sym parts ∙ ap (prefix_len is_in_line) (sym same);
}

pub line_feeds_are : (bytes : List ℕ) (n : ℕ) → n ≡ length (places (is_byte 10) bytes)
    → n ≡ count_by is_line_feed bytes
line_feeds_are bytes n h = h ∙ length-places (is_byte 10) bytes
