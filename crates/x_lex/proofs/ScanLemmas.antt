-- The token at a place, by a function of the class of the
-- place: what `IsToken` says has one answer, and it is this.
use Rattle.std.proofs.Common.{◌≡◌, ℕ, zero, suc, ◌+◌, ◌-◌, ◌<◌, ◌≤◌, inl, inr, ⊎_elim, Bool, true, false}
use Rattle.std.proofs.Common.{cond, List, length, get_or, take, drop, Option, None, Some, arith, refl, sym}
use Rattle.std.proofs.Common.{ap, subst, ◌∙◌, lit<, length-drop, get_or-drop}
use Rattle.std.specs.Prelude.{◌==◌}
use Rattle.std.specs.List.{prefix_len}
use Rattle.std.proofs.lemmas.Bool.{cases_lt, false≢true, and_parts, eqb-true, cond-true, cond-false}
use Rattle.std.proofs.lemmas.Bool.{cond_both}
use Rattle.std.proofs.lemmas.Bool.Decides.{nat_tests}
use Rattle.std.proofs.lemmas.List.Sums.{prefix_len_stops, prefix_len_passes, prefix_len-le-length}
use Rattle.std.proofs.lemmas.List.Sums.{prefix_len_is}
use Rattle.x_lex.specs.declared.kind.Kind.{Kind}
use Rattle.x_lex.specs.declared.kind.Kind.TheVariants.{Space, Comment, OpenComment, Percent, Marker}
use Rattle.x_lex.specs.declared.kind.Kind.TheVariants.{Directive, Keyword, Name, Number, BadNumber, Punct}
use Rattle.x_lex.specs.declared.kind.Kind.TheVariants.{BadByte}
use Rattle.x_lex.specs.Bytes.{is_space, is_digit, is_letter, is_word_byte, is_in_line, is_number, is_marker}
use Rattle.x_lex.specs.Bytes.{is_keyword}
use Rattle.x_lex.specs.Word.{Each, IsLine, IsIdentifier, IsDigits, IsSigned, Opens, IsComment, IsOpenComment}
use Rattle.x_lex.specs.Word.{HasForm, IsGood, IsWord, IsToken}
use Rattle.x_lex.specs.Scan.{Class, blank, letters, digits, signed, mark, remark, percent, hash, other}
use Rattle.x_lex.specs.Scan.{class_of, first_close, comment_of, signed_len, scan_as, scan}
use Rattle.x_lex.proofs.ClassLemmas.{told, Told, class_blank, class_letters, class_digits, class_signed}
use Rattle.x_lex.proofs.ClassLemmas.{class_mark, class_remark, class_percent, class_hash}
use Rattle.x_lex.proofs.CloseLemmas.{first_close_is, same_first_close, IsFirstClose, stands}

-- a run is within the longest front that passes
each_within : (p : ℕ → Bool) (rest : List ℕ) (n : ℕ) → n ≤ length rest
    → ((k : ℕ) → k < n → p (get_or rest k 0) ≡ true) → n ≤ prefix_len p rest
each_within p rest n fit each =
    ⊎_elim
    (λ less. absurd
    (false≢true (sym (prefix_len_stops p rest 0 (omega arith)) ∙ each (prefix_len p rest) less)))
    (λ le. le)
    (cases_lt (prefix_len p rest) n)

-- a run whose first byte is told apart
run_within : (p : ℕ → Bool) (rest : List ℕ) (n : ℕ) → n ≤ length rest → p (get_or rest 0 0) ≡ true
    → Each p rest 1 n → n ≤ prefix_len p rest
run_within p rest n fit first others = each_within p rest n fit each
  where
    each : (k : ℕ) → k < n → p (get_or rest k 0) ≡ true
    each zero lt = first
    each (suc k) lt = others (suc k) (omega arith) lt

letter_in_word : (b : ℕ) → is_letter b ≡ true → is_word_byte b ≡ true
letter_in_word b h = grind (arith, nat_tests)

digit_in_word : (b : ℕ) → is_digit b ≡ true → is_word_byte b ≡ true
digit_in_word b h = grind (arith, nat_tests)

signed_within : (rest : List ℕ) (n : ℕ) → n ≤ length rest → IsSigned rest n → n ≤ signed_len rest
signed_within rest n fit h =
    let r = each_within is_word_byte (drop 1 rest) (n - 1) (rw length-drop (omega arith)) each in
    omega (arith, r)
  where
    each : (k : ℕ) → k < n - 1 → is_word_byte (get_or (drop 1 rest) k 0) ≡ true
    each zero lt = rw get_or-drop (digit_in_word (get_or rest 1 0) h.first)
    each (suc k) lt = rw get_or-drop (h.others (1 + suc k) (omega arith) (omega arith))

line_within : (rest : List ℕ) (n : ℕ) → n ≤ length rest → IsLine rest n → n ≡ prefix_len is_in_line rest
line_within rest n fit h =
    sym (prefix_len_is is_in_line rest n 0 fit (λ k lt. h.within k (omega arith) lt)
    (λ lt. rw (h.ends lt) refl))

-- a word of kind k and length n is no longer than the token t, and of its kind if as long
pub record Within (k : Kind) (n : ℕ) (t : Kind × ℕ) : Type 0 where
  pub short : n ≤ t.1
  pub same : n ≡ t.1 → k ≡ t.0

-- a form of class c is within the token of the place, where it is within the token of the class
at_class : (k : Kind) (start : Bool) (rest : List ℕ) (n : ℕ) (c : Class)
    → class_of start (get_or rest 0 0) (get_or rest 1 0) ≡ c → Within k n (scan_as c rest)
    → Within k n (scan start rest)
unfolding scan
at_class k start rest n c e h = subst (λ x. Within k n (scan_as x rest)) (sym e) h

-- of two words of one length the first bytes agree, so a test of the word decides
by_test : (f : List ℕ → Bool) (x y : Kind) (rest : List ℕ) (n m : ℕ) → n ≤ m → f (take n rest) ≡ true
    → Within x n (cond (f (take m rest)) x y, m)
by_test f x y rest n m le h =
    record {
      short = le;
      same = λ e. sym (cond-true (f (take m rest)) x y (ap (λ i. f (take i rest)) (sym e) ∙ h));
    }

by_no_test : (f : List ℕ → Bool) (x y : Kind) (rest : List ℕ) (n m : ℕ) → n ≤ m → f (take n rest) ≡ false
    → Within y n (cond (f (take m rest)) x y, m)
by_no_test f x y rest n m le h =
    record {
      short = le;
      same = λ e. sym (cond-false (f (take m rest)) x y (ap (λ i. f (take i rest)) (sym e) ∙ h));
    }

eq_le : (n m : ℕ) → n ≡ m → n ≤ m
eq_le n m e = omega arith

identifier_within : (rest : List ℕ) (n : ℕ) → n ≤ length rest → IsIdentifier rest n
    → n ≤ prefix_len is_word_byte rest
identifier_within rest n fit h =
    run_within is_word_byte rest n fit (letter_in_word (get_or rest 0 0) h.first) h.others

digits_within : (rest : List ℕ) (n : ℕ) → n ≤ length rest → IsDigits rest n → n ≤ prefix_len is_word_byte rest
digits_within rest n fit h =
    run_within is_word_byte rest n fit (digit_in_word (get_or rest 0 0) h.first) h.others

comment_within : (start : Bool) (rest : List ℕ) (n : ℕ) → IsComment rest n
    → Within Comment n (scan start rest)
comment_within start rest n h =
    at_class Comment start rest n remark
    (class_remark start (get_or rest 0 0) (get_or rest 1 0) h.opens.slash h.opens.star)
    (subst (λ r. Within Comment n (comment_of r rest))
    (same_first_close (drop 2 rest) (Some h.place) (first_close (drop 2 rest)) (h.closes, h.first)
    (first_close_is (drop 2 rest)))
    (record { short = eq_le n (h.place + 4) h.length_is; same = λ e. refl }))

open_comment_within : (start : Bool) (rest : List ℕ) (n : ℕ) → IsOpenComment rest n
    → Within OpenComment n (scan start rest)
open_comment_within start rest n h =
    at_class OpenComment start rest n remark
    (class_remark start (get_or rest 0 0) (get_or rest 1 0) h.opens.slash h.opens.star)
    (subst (λ r. Within OpenComment n (comment_of r rest))
    (same_first_close (drop 2 rest) None (first_close (drop 2 rest)) h.never (first_close_is (drop 2 rest)))
    (record { short = eq_le n (length rest) h.to_end; same = λ e. refl }))

-- the form of each kind is within the token
form_within : (k : Kind) (start : Bool) (rest : List ℕ) (n : ℕ) → 0 < n → n ≤ length rest
    → HasForm k start rest n → Within k n (scan start rest)
form_within Space start rest n some fit h =
    at_class Space start rest n blank
    (class_blank start (get_or rest 0 0) (get_or rest 1 0) (h 0 (omega arith) some))
    (record { short = each_within is_space rest n fit (λ k lt. h k (omega arith) lt); same = λ e. refl })
form_within Comment start rest n some fit h = comment_within start rest n h
form_within OpenComment start rest n some fit h = open_comment_within start rest n h
form_within Percent start rest n some fit h =
    at_class Percent start rest n percent (class_percent start (get_or rest 0 0) (get_or rest 1 0) h.0 h.1)
    (record { short = eq_le n (prefix_len is_in_line rest) (line_within rest n fit h.2); same = λ e. refl })
form_within Marker start rest n some fit h =
    at_class Marker start rest n hash (class_hash start (get_or rest 0 0) (get_or rest 1 0) h.0 h.1)
    (by_test is_marker Marker Directive rest n (prefix_len is_in_line rest)
    (eq_le n (prefix_len is_in_line rest) (line_within rest n fit h.2)) h.3)
form_within Directive start rest n some fit h =
    at_class Directive start rest n hash (class_hash start (get_or rest 0 0) (get_or rest 1 0) h.0 h.1)
    (by_no_test is_marker Marker Directive rest n (prefix_len is_in_line rest)
    (eq_le n (prefix_len is_in_line rest) (line_within rest n fit h.2)) h.3)
form_within Keyword start rest n some fit h =
    at_class Keyword start rest n letters (class_letters start (get_or rest 0 0) (get_or rest 1 0) h.0.first)
    (by_test is_keyword Keyword Name rest n (prefix_len is_word_byte rest)
    (identifier_within rest n fit h.0) h.1)
form_within Name start rest n some fit h =
    at_class Name start rest n letters (class_letters start (get_or rest 0 0) (get_or rest 1 0) h.0.first)
    (by_no_test is_keyword Keyword Name rest n (prefix_len is_word_byte rest)
    (identifier_within rest n fit h.0) h.1)
form_within Number start rest n some fit (inl d, t) =
    at_class Number start rest n digits (class_digits start (get_or rest 0 0) (get_or rest 1 0) d.first)
    (by_test is_number Number BadNumber rest n (prefix_len is_word_byte rest) (digits_within rest n fit d) t)
form_within Number start rest n some fit (inr s, t) =
    at_class Number start rest n signed
    (class_signed start (get_or rest 0 0) (get_or rest 1 0) s.minus s.first)
    (by_test is_number Number BadNumber rest n (signed_len rest) (signed_within rest n fit s) t)
form_within BadNumber start rest n some fit (inl d, t) =
    at_class BadNumber start rest n digits (class_digits start (get_or rest 0 0) (get_or rest 1 0) d.first)
    (by_no_test is_number Number BadNumber rest n (prefix_len is_word_byte rest)
    (digits_within rest n fit d) t)
form_within BadNumber start rest n some fit (inr s, t) =
    at_class BadNumber start rest n signed
    (class_signed start (get_or rest 0 0) (get_or rest 1 0) s.minus s.first)
    (by_no_test is_number Number BadNumber rest n (signed_len rest) (signed_within rest n fit s) t)
form_within Punct start rest n some fit h =
    at_class Punct start rest n mark (class_mark start (get_or rest 0 0) (get_or rest 1 0) h.1)
    (record { short = eq_le n 1 h.0; same = λ e. refl })
form_within BadByte start rest n some fit h = absurd h

pub good_within : (k : Kind) (start : Bool) (rest : List ℕ) (n : ℕ) → IsGood k start rest n
    → Within k n (scan start rest)
good_within k start rest n h = form_within k start rest n h.some h.within h.form

-- the first byte passes, so the run isn't empty
run_some : (p : ℕ → Bool) (rest : List ℕ) → 0 < length rest → p (get_or rest 0 0) ≡ true
    → 0 < prefix_len p rest
run_some p rest some first = let r = each_within p rest 1 (omega arith) each in omega (arith, r)
  where
    each : (k : ℕ) → k < 1 → p (get_or rest k 0) ≡ true
    each zero lt = first
    each (suc k) lt = absurd (omega arith)

hash_in_line : (b : ℕ) → b ≡ 35 → is_in_line b ≡ true
hash_in_line b h = grind (arith, nat_tests)

percent_in_line : (b : ℕ) → b ≡ 37 → is_in_line b ≡ true
percent_in_line b h = grind (arith, nat_tests)

line_stops : (b : ℕ) → is_in_line b ≡ false → b ≡ 10
line_stops b h = grind (arith, nat_tests)

line_is : (rest : List ℕ) → IsLine rest (prefix_len is_in_line rest)
line_is rest = record {
  within = λ k le lt. prefix_len_passes is_in_line rest k 0 lt;
  ends = λ lt. line_stops (get_or rest (prefix_len is_in_line rest) 0)
      (prefix_len_stops is_in_line rest 0 lt);
}

word_is : (rest : List ℕ) → Each is_word_byte rest 1 (prefix_len is_word_byte rest)
word_is rest k le lt = prefix_len_passes is_word_byte rest k 0 lt

signed_is : (rest : List ℕ) → 0 < length rest → get_or rest 0 0 ≡ 45 → is_digit (get_or rest 1 0) ≡ true
    → IsSigned rest (signed_len rest)
signed_is rest some minus first = record {
  minus = minus;
  long = let r = run_some is_word_byte (drop 1 rest) two here in omega (arith, r);
  first = first;
  others = others;
}
  where
    here : is_word_byte (get_or (drop 1 rest) 0 0) ≡ true
    here = rw get_or-drop (digit_in_word (get_or rest 1 0) first)

    zero_no_digit : (b : ℕ) → is_digit b ≡ true → 0 < b
    zero_no_digit b h = grind (arith, nat_tests)

    two : 0 < length (drop 1 rest)
    two = let r = stands rest 1 (get_or rest 1 0) refl (zero_no_digit (get_or rest 1 0) first) in
        rw length-drop (omega (arith, r))

    others : Each is_word_byte rest 2 (signed_len rest)
    others k le lt =
        let e : 1 + (k - 1) ≡ k = omega arith in
        let r : is_word_byte (get_or (drop 1 rest) (k - 1) 0) ≡ true =
        prefix_len_passes is_word_byte (drop 1 rest) (k - 1) 0 (omega arith) in
        subst (λ i. is_word_byte (get_or rest i 0) ≡ true) e (rw get_or-drop at r)

signed_fit : (rest : List ℕ) → 0 < length rest → signed_len rest ≤ length rest
signed_fit rest some =
    let r = prefix_len-le-length is_word_byte (drop 1 rest) in let e = length-drop 1 rest in
    omega (arith, r, e)

module _ (start : Bool) (rest : List ℕ) (some : 0 < length rest) where
  good : (k : Kind) (n : ℕ) → 0 < n → n ≤ length rest → HasForm k start rest n → IsGood k start rest n
  good k n pos fit h = record { some = pos; within = fit; form = h }

  comment_good : (r : Option ℕ) → Opens rest → IsFirstClose (drop 2 rest) r
      → IsGood (comment_of r rest).0 start rest (comment_of r rest).1
  comment_good None opens h =
      good OpenComment (length rest) some (omega arith) (record { opens = opens; to_end = refl; never = h })
  comment_good (Some i) opens h =
      let fits : i + 2 ≤ length (drop 2 rest) = h.0.fits in
      let e = length-drop 2 rest in
      good Comment (i + 4) (omega arith) (omega (arith, fits, e))
      (record { opens = opens; place = i; length_is = refl; closes = h.0; first = h.1 })

  class_good : (c : Class) → (c ≡ other → ⊥) → Told c start (get_or rest 0 0) (get_or rest 1 0)
      → IsGood (scan_as c rest).0 start rest (scan_as c rest).1
  class_good blank ne h = good Space (prefix_len is_space rest) (run_some is_space rest some h)
      (prefix_len-le-length is_space rest) (λ k le lt. prefix_len_passes is_space rest k 0 lt)
  class_good letters ne h =
      let n = prefix_len is_word_byte rest in
      let pos = run_some is_word_byte rest some (letter_in_word (get_or rest 0 0) h) in
      let fit = prefix_len-le-length is_word_byte rest in
      let id : IsIdentifier rest (prefix_len is_word_byte rest) =
      record { first = h; others = word_is rest } in
      cond_both (is_keyword (take n rest)) Keyword Name
      (λ k. IsGood k start rest (prefix_len is_word_byte rest)) (λ e. good Keyword n pos fit (id, e))
      (λ e. good Name n pos fit (id, e))
  class_good digits ne h =
      let n = prefix_len is_word_byte rest in
      let pos = run_some is_word_byte rest some (digit_in_word (get_or rest 0 0) h) in
      let fit = prefix_len-le-length is_word_byte rest in
      let run : IsDigits rest (prefix_len is_word_byte rest) = record { first = h; others = word_is rest } in
      cond_both (is_number (take n rest)) Number BadNumber
      (λ k. IsGood k start rest (prefix_len is_word_byte rest)) (λ e. good Number n pos fit (inl run, e))
      (λ e. good BadNumber n pos fit (inl run, e))
  class_good signed ne h =
      let both = and_parts (get_or rest 0 0 == 45) (is_digit (get_or rest 1 0)) h in
      let n = signed_len rest in
      let fit = signed_fit rest some in
      let run : IsSigned rest (signed_len rest) =
      signed_is rest some (eqb-true (get_or rest 0 0) 45 both.0) both.1 in
      let pos : 0 < signed_len rest = omega arith in
      cond_both (is_number (take n rest)) Number BadNumber (λ k. IsGood k start rest (signed_len rest))
      (λ e. good Number n pos fit (inr run, e)) (λ e. good BadNumber n pos fit (inr run, e))
  class_good mark ne h = good Punct 1 (lit< tt) (omega arith) (refl, h)
  class_good remark ne h =
      let both = and_parts (get_or rest 0 0 == 47) (get_or rest 1 0 == 42) h in
      comment_good (first_close (drop 2 rest))
      (record { slash = eqb-true (get_or rest 0 0) 47 both.0; star = eqb-true (get_or rest 1 0) 42 both.1 })
      (first_close_is (drop 2 rest))
  class_good percent ne h =
      let both = and_parts start (get_or rest 0 0 == 37) h in
      let byte = eqb-true (get_or rest 0 0) 37 both.1 in
      good Percent (prefix_len is_in_line rest)
      (run_some is_in_line rest some (percent_in_line (get_or rest 0 0) byte))
      (prefix_len-le-length is_in_line rest) (both.0, byte, line_is rest)
  class_good hash ne h =
      let both = and_parts start (get_or rest 0 0 == 35) h in
      let byte = eqb-true (get_or rest 0 0) 35 both.1 in
      let n = prefix_len is_in_line rest in
      let pos = run_some is_in_line rest some (hash_in_line (get_or rest 0 0) byte) in
      let fit = prefix_len-le-length is_in_line rest in
      cond_both (is_marker (take n rest)) Marker Directive
      (λ k. IsGood k start rest (prefix_len is_in_line rest))
      (λ e. good Marker n pos fit (both.0, byte, line_is rest, e))
      (λ e. good Directive n pos fit (both.0, byte, line_is rest, e))
  class_good other ne h = absurd (ne refl)

  -- a good word rules out that no class fits
  no_good : (k : Kind) (m : ℕ) → scan start rest ≡ (BadByte, 1) → IsGood k start rest m → ⊥
  no_good k m e h =
      let w = good_within k start rest m h in
      let short : m ≤ 1 = subst (λ t. m ≤ t.1) e w.short in
      let one : m ≡ 1 = omega (arith, h.some) in
      let is_bad : k ≡ BadByte = w.same (one ∙ sym (ap (λ t. t.1) e)) ∙ ap (λ t. t.0) e in
      subst (λ j. HasForm j start rest m) is_bad h.form

  scan_word_at : (c : Class) → class_of start (get_or rest 0 0) (get_or rest 1 0) ≡ c
      → IsWord (scan_as c rest).0 start rest (scan_as c rest).1
  unfolding scan
  scan_word_at other e =
      inr (
        refl,
        record {
          one = refl;
          within = omega arith;
          none = λ k m h. no_good k m (ap (λ x. scan_as x rest) e) h;
        },
      )
  scan_word_at blank e =
      inl (class_good blank (λ x. (cc)) (subst (λ x. Told x start (get_or rest 0 0) (get_or rest 1 0)) e
      (told start (get_or rest 0 0) (get_or rest 1 0))))
  scan_word_at letters e =
      inl (class_good letters (λ x. (cc)) (subst (λ x. Told x start (get_or rest 0 0) (get_or rest 1 0)) e
      (told start (get_or rest 0 0) (get_or rest 1 0))))
  scan_word_at digits e =
      inl (class_good digits (λ x. (cc)) (subst (λ x. Told x start (get_or rest 0 0) (get_or rest 1 0)) e
      (told start (get_or rest 0 0) (get_or rest 1 0))))
  scan_word_at signed e =
      inl (class_good signed (λ x. (cc)) (subst (λ x. Told x start (get_or rest 0 0) (get_or rest 1 0)) e
      (told start (get_or rest 0 0) (get_or rest 1 0))))
  scan_word_at mark e =
      inl (class_good mark (λ x. (cc)) (subst (λ x. Told x start (get_or rest 0 0) (get_or rest 1 0)) e
      (told start (get_or rest 0 0) (get_or rest 1 0))))
  scan_word_at remark e =
      inl (class_good remark (λ x. (cc)) (subst (λ x. Told x start (get_or rest 0 0) (get_or rest 1 0)) e
      (told start (get_or rest 0 0) (get_or rest 1 0))))
  scan_word_at percent e =
      inl (class_good percent (λ x. (cc)) (subst (λ x. Told x start (get_or rest 0 0) (get_or rest 1 0)) e
      (told start (get_or rest 0 0) (get_or rest 1 0))))
  scan_word_at hash e =
      inl (class_good hash (λ x. (cc)) (subst (λ x. Told x start (get_or rest 0 0) (get_or rest 1 0)) e
      (told start (get_or rest 0 0) (get_or rest 1 0))))

  pub scan_word : IsWord (scan start rest).0 start rest (scan start rest).1
  unfolding scan
  scan_word = scan_word_at (class_of start (get_or rest 0 0) (get_or rest 1 0)) refl

  -- each word is within the token
  word_within : (k : Kind) (n : ℕ) → IsWord k start rest n → Within k n (scan start rest)
  word_within k n (inl g) = good_within k start rest n g
  word_within k n (inr (e, bad)) = bad_within scan_word
    where
      bad_within : IsWord (scan start rest).0 start rest (scan start rest).1 → Within k n (scan start rest)
      bad_within (inl g) = absurd (bad.none (scan start rest).0 (scan start rest).1 g)
      bad_within (inr (s, b)) =
          record { short = let o = bad.one in let p = b.one in omega (arith, o, p); same = λ l. e ∙ sym s }

  pub scan_token : IsToken (scan start rest).0 start rest (scan start rest).1
  scan_token = record { word = scan_word; longest = λ j m w. (word_within j m w).short }

  pub token_scan : (k : Kind) (n : ℕ) → IsToken k start rest n → (k, n) ≡ scan start rest
  token_scan k n t =
      let w = word_within k n t.word in
      let back = t.longest (scan start rest).0 (scan start rest).1 scan_word in
      let e : n ≡ (scan start rest).1 = let s = w.short in omega (arith, s, back) in
      let f : k ≡ (scan start rest).0 = w.same e in
      λ i. (f i, e i)
