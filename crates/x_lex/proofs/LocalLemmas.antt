-- The one byte after a token decides its end: where another text has
-- the same bytes up to and with that byte, the token is the same.
use Rattle.std.proofs.Common.{◌≡◌, ℕ, ◌+◌, ◌<◌, ◌≤◌, Bool, cond, List, length, get_or, take, drop, Option}
use Rattle.std.proofs.Common.{None, Some, arith, refl, sym, ap, subst, ◌∙◌, length-drop, get_or-drop}
use Rattle.std.proofs.Common.{get_or-take, length-take-le}
use Rattle.std.specs.List.{prefix_len}
use Rattle.std.proofs.lemmas.List.{ext_get_or}
use Rattle.std.proofs.lemmas.List.Sums.{prefix_len_stops, prefix_len_passes, prefix_len_is}
use Rattle.memchr.specs.Find.{OccursAt}
use Rattle.x_lex.specs.declared.kind.Kind.{Kind}
use Rattle.x_lex.specs.declared.kind.Kind.TheVariants.{Keyword, Name, Number, BadNumber, Marker, Directive}
use Rattle.x_lex.specs.Bytes.{is_space, is_word_byte, is_in_line, is_keyword, is_number, is_marker, close}
use Rattle.x_lex.specs.Word.{IsToken}
use Rattle.x_lex.specs.Scan.{Class, blank, letters, digits, signed, mark, remark, percent, hash, other}
use Rattle.x_lex.specs.Scan.{class_of, first_close, comment_of, signed_len, scan_as, scan}
use Rattle.x_lex.proofs.CloseLemmas.{first_close_is, same_first_close, IsFirstClose, occurs_bytes}
use Rattle.x_lex.proofs.CloseLemmas.{bytes_occur}
use Rattle.x_lex.proofs.ScanLemmas.{scan_token, token_scan}
use Rattle.x_lex.proofs.TilingLemmas.{token_spans}

-- both lists go on past n, and are the same up to and with place n
pub record Agree (xs ys : List ℕ) (n : ℕ) : Type 0 where
  pub left : n < length xs
  pub right : n < length ys
  pub same : (i : ℕ) → i ≤ n → get_or xs i 0 ≡ get_or ys i 0

agree_drop : (xs ys : List ℕ) (m n : ℕ) → Agree xs ys (m + n) → Agree (drop m xs) (drop m ys) n
agree_drop xs ys m n h = record {
  left = let l = h.left in rw length-drop (omega (arith, l));
  right = let l = h.right in rw length-drop (omega (arith, l));
  same = λ i le. get_or-drop m xs i 0 ∙ h.same (m + i) (omega arith) ∙ sym (get_or-drop m ys i 0);
}

prefix_same : (p : ℕ → Bool) (xs ys : List ℕ) → Agree xs ys (prefix_len p xs)
    → prefix_len p ys ≡ prefix_len p xs
prefix_same p xs ys h =
    prefix_len_is p ys (prefix_len p xs) 0 (let r = h.right in omega (arith, r))
    (λ k lt. ap p (sym (h.same k (omega arith))) ∙ prefix_len_passes p xs k 0 lt)
    (λ lt. ap p (sym (h.same (prefix_len p xs) (omega arith))) ∙ prefix_len_stops p xs 0 h.left)

take_same : (xs ys : List ℕ) (n : ℕ) → Agree xs ys n → take n ys ≡ take n xs
take_same xs ys n h =
    let lx : length (take n xs) ≡ n = let l = h.left in length-take-le n xs (omega (arith, l)) in
    let ly : length (take n ys) ≡ n = let r = h.right in length-take-le n ys (omega (arith, r)) in
    ext_get_or 0 (take n ys) (take n xs) (ly ∙ sym lx)
    (λ i lt. get_or-take n ys i 0 (omega arith) ∙ sym (h.same i (omega arith))
    ∙ sym (get_or-take n xs i 0 (omega arith)))

-- a kind that a test of the word decides
kind_same : (f : List ℕ → Bool) (x y : Kind) (xs ys : List ℕ) (n m : ℕ) → m ≡ n → Agree xs ys n
    → ◌≡◌ {A = Kind × ℕ} (cond (f (take m ys)) x y, m) (cond (f (take n xs)) x y, n)
kind_same f x y xs ys n m e h = λ i. (cond (f ((ap (λ j. take j ys) e ∙ take_same xs ys n h) i)) x y, e i)

close_same : (xs ys : List ℕ) (r : Option ℕ) → first_close (drop 2 xs) ≡ r → Agree xs ys (comment_of r xs).1
    → comment_of (first_close (drop 2 ys)) ys ≡ comment_of r xs
close_same xs ys None e h = absurd (let l = h.left in omega (arith, l))
close_same xs ys (Some i) e h =
    ap (λ r. comment_of r ys) (same_first_close (drop 2 ys) (first_close (drop 2 ys)) (Some i)
    (first_close_is (drop 2 ys)) (there, before))
  where
    found : IsFirstClose (drop 2 xs) (Some i)
    found = subst (λ r. IsFirstClose (drop 2 xs) r) e (first_close_is (drop 2 xs))

    both : Agree (drop 2 xs) (drop 2 ys) (i + 2)
    both = agree_drop xs ys 2 (i + 2) (subst (λ n. Agree xs ys n) (omega arith) h)

    there : OccursAt (drop 2 ys) close i
    there = let o = occurs_bytes (drop 2 xs) i found.0 in
        bytes_occur (drop 2 ys) i (sym (both.same i (omega arith)) ∙ o.0)
        (sym (both.same (i + 1) (omega arith)) ∙ o.1)

    before : (k : ℕ) → k < i → OccursAt (drop 2 ys) close k → ⊥
    before k lt o =
        let b = occurs_bytes (drop 2 ys) k o in
        found.1 k lt (bytes_occur (drop 2 xs) k (both.same k (omega arith) ∙ b.0)
        (both.same (k + 1) (omega arith) ∙ b.1))

signed_same : (xs ys : List ℕ) → Agree xs ys (signed_len xs) → signed_len ys ≡ signed_len xs
signed_same xs ys h = ap (λ n. 1 + n)
    (prefix_same is_word_byte (drop 1 xs) (drop 1 ys)
    (agree_drop xs ys 1 (prefix_len is_word_byte (drop 1 xs)) h))

class_same : (c : Class) (xs ys : List ℕ) → Agree xs ys (scan_as c xs).1 → scan_as c ys ≡ scan_as c xs
class_same blank xs ys h = λ i. ((scan_as blank xs).0, prefix_same is_space xs ys h i)
class_same letters xs ys h = kind_same is_keyword Keyword Name xs ys (prefix_len is_word_byte xs)
    (prefix_len is_word_byte ys) (prefix_same is_word_byte xs ys h) h
class_same digits xs ys h = kind_same is_number Number BadNumber xs ys (prefix_len is_word_byte xs)
    (prefix_len is_word_byte ys) (prefix_same is_word_byte xs ys h) h
class_same signed xs ys h = kind_same is_number Number BadNumber xs ys (signed_len xs) (signed_len ys)
    (signed_same xs ys h) h
class_same mark xs ys h = refl
class_same remark xs ys h = close_same xs ys (first_close (drop 2 xs)) refl h
class_same percent xs ys h = λ i. ((scan_as percent xs).0, prefix_same is_in_line xs ys h i)
class_same hash xs ys h = kind_same is_marker Marker Directive xs ys (prefix_len is_in_line xs)
    (prefix_len is_in_line ys) (prefix_same is_in_line xs ys h) h
class_same other xs ys h = refl

scan_same : (start : Bool) (xs ys : List ℕ) → 0 < (scan start xs).1 → Agree xs ys (scan start xs).1
    → scan start ys ≡ scan start xs
unfolding scan
scan_same start xs ys some h =
    let first : get_or ys 0 0 ≡ get_or xs 0 0 = sym (h.same 0 (omega arith)) in
    let second : get_or ys 1 0 ≡ get_or xs 1 0 = sym (h.same 1 (omega arith)) in
    let e : class_of start (get_or ys 0 0) (get_or ys 1 0) ≡ class_of start (get_or xs 0 0) (get_or xs 1 0) =
    λ i. class_of start (first i) (second i) in
    ap (λ c. scan_as c ys) e ∙ class_same (class_of start (get_or xs 0 0) (get_or xs 1 0)) xs ys h

-- a token that isn't at the end of the text is decided by its bytes and the next
pub local_token : (k : Kind) (start : Bool) (xs ys : List ℕ) (n : ℕ) → IsToken k start xs n → Agree xs ys n
    → IsToken k start ys n
local_token k start xs ys n t h =
    let s = token_spans k start xs n t in
    let e = token_scan start xs (let l = h.left in omega (arith, l)) k n t in
    let len : n ≡ (scan start xs).1 = ap (λ u. u.1) e in
    let same = scan_same start xs ys (let p = s.some in omega (arith, p, len))
    (subst (λ m. Agree xs ys m) len h) in
    subst (λ u. IsToken u.0 start ys u.1) (same ∙ sym e)
    (scan_token start ys (let r = h.right in omega (arith, r)))
