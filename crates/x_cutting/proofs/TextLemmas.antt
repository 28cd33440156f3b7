-- The roles of tokens where two texts are the same, and what stands before an item.
use Rattle.std.proofs.Common.{◌≡◌, ℕ, suc, ◌+◌, ◌-◌, ◌≤◌, ◌<◌, Bool, true, false, List, [], ◌∷◌, ◌++◌, length}
use Rattle.std.proofs.Common.{get_or, take, drop, Option, None, Some, refl, ap, sym, ◌∙◌, arith, length-drop}
use Rattle.std.proofs.Common.{length-take-le, get_or-drop, get_or-take, true≢false}
use Rattle.std.specs.Prelude.{slice_get, slice_range, ◌==◌, ◌||◌}
use Rattle.std.proofs.lemmas.List.{drop-drop, ext_get_or}
use Rattle.std.proofs.lemmas.Option.{slice_get_past}
use Rattle.std.proofs.lemmas.Slice.Eq.{bytes_eq-Decides}
use Rattle.x_lists.proofs.ListLemmas.{get_drop}
use Rattle.x_lex.specs.declared.kind.Kind.{Kind}
use Rattle.x_lex.specs.declared.kind.Kind.TheVariants as kinds
use Rattle.x_lex.specs.Tiling.{AreTokens, span, end_of}
use Rattle.x_lex.specs.Places.{lexemes_from, is_line_start}
use Rattle.x_lex.proofs.SpanLemmas.{span_tiles}
use Rattle.x_lex.proofs.EndLemmas.{Same, end_le_span}
use Rattle.x_cutting.specs.Items.{is_punct}
use Rattle.x_cutting.specs.ItemList.{tokens_before}
use Rattle.x_cutting.specs.Cutting.{semicolon, chosen, role_by, roles_of, roles}
use Rattle.x_cutting.proofs.RoleLemmas.{role_is}
use Rattle.x_cutting.proofs.FirstLemmas.{cut_of, behind}
use Rattle.x_cutting.proofs.PatchedLemmas.{roles_at, length-roles, none_past, end_get}

pub roles-append : (text : List ℕ) (at : ℕ) (xs ys : List (Kind × ℕ))
    → roles_of (lexemes_from text at (xs ++ ys)) ≡ roles_of (lexemes_from text at xs)
    ++ roles_of (lexemes_from text (at + span xs) ys)
roles-append text at [] ys =
    let e : at ≡ at + 0 = omega arith in ap (λ n. roles_of (lexemes_from text n ys)) e
roles-append text at (x ∷ xs) ys =
    let e : at + x.1 + span xs ≡ at + (x.1 + span xs) = omega arith in
    ap (λ l. role_by x.0 (slice_range text at (at + x.1)) ∷ l) (roles-append text (at + x.1) xs ys
    ∙ ap (λ n. roles_of (lexemes_from text (at + x.1) xs) ++ roles_of (lexemes_from text n ys)) e)

-- the bytes of a range below m
range_same : (xs ys : List ℕ) (m from to : ℕ) → Same xs ys m → to ≤ m
    → slice_range xs from to ≡ slice_range ys from to
range_same xs ys m from to h le =
    let left = h.left in
    let right = h.right in
    let lx : length (take (to - from) (drop from xs)) ≡ to - from =
    length-take-le (to - from) (drop from xs) (let d = length-drop from xs in omega (arith, left, d)) in
    let ly : length (take (to - from) (drop from ys)) ≡ to - from =
    length-take-le (to - from) (drop from ys) (let d = length-drop from ys in omega (arith, right, d)) in
    ext_get_or 0 (take (to - from) (drop from xs)) (take (to - from) (drop from ys)) (lx ∙ sym ly)
    (λ i lt.
    let here : i < to - from = omega (arith, lt, lx) in
    get_or-take (to - from) (drop from xs) i 0 here ∙ get_or-drop from xs i 0
    ∙ h.bytes (from + i) (omega arith) ∙ sym (get_or-drop from ys i 0)
    ∙ sym (get_or-take (to - from) (drop from ys) i 0 here))

-- tokens below m
pub roles_front : (xs ys : List ℕ) (m at : ℕ) (ts : List (Kind × ℕ)) → Same xs ys m → at + span ts ≤ m
    → roles_of (lexemes_from xs at ts) ≡ roles_of (lexemes_from ys at ts)
roles_front xs ys m at [] h le = refl
roles_front xs ys m at (t ∷ ts) h le =
    ap (λ l. role_by t.0 l ∷ roles_of (lexemes_from xs (at + t.1) ts))
    (range_same xs ys m at (at + t.1) h (omega arith))
    ∙ ap (λ l. role_by t.0 (slice_range ys at (at + t.1)) ∷ l)
    (roles_front xs ys m (at + t.1) ts h (omega arith))

-- tokens from places on behind which two texts are the same
pub roles_rear : (xs ys : List ℕ) (p q : ℕ) (ts : List (Kind × ℕ)) → drop p xs ≡ drop q ys
    → roles_of (lexemes_from xs p ts) ≡ roles_of (lexemes_from ys q ts)
roles_rear xs ys p q [] e = refl
roles_rear xs ys p q (t ∷ ts) e =
    let n : p + t.1 - p ≡ q + t.1 - q = omega arith in
    let next : drop (p + t.1) xs ≡ drop (q + t.1) ys = sym (drop_from p xs t.1) ∙ ap (drop t.1) e
    ∙ drop_from q ys t.1 in
    ap (λ l. role_by t.0 (take (p + t.1 - p) l) ∷ roles_of (lexemes_from xs (p + t.1) ts)) e
    ∙ ap (λ i. role_by t.0 (take i (drop q ys)) ∷ roles_of (lexemes_from xs (p + t.1) ts)) n
    ∙ ap (λ l. role_by t.0 (slice_range ys q (q + t.1)) ∷ l) (roles_rear xs ys (p + t.1) (q + t.1) ts next)
  where
    drop_from : (i : ℕ) (l : List ℕ) (j : ℕ) → drop j (drop i l) ≡ drop (i + j) l
    drop_from i l j = drop-drop j i l

-- `;`
role_semicolon : (k : Kind) (t : List ℕ) → role_by k t ≡ semicolon → t ≡ 59 ∷ []
role_semicolon k t h = by (is_punct 123 k t) (is_punct 125 k t) (is_punct 59 k t) refl (sym (role_is k t) ∙ h)
  where
    spelled : (k : Kind) → is_punct 59 k t ≡ true → t ≡ 59 ∷ []
    spelled kinds.Punct e = (bytes_eq-Decides t (59 ∷ [])).0 e
    spelled k e = absurd (true≢false (sym e))

    by : (p q r : Bool) → is_punct 59 k t ≡ r → chosen p q r ≡ semicolon → t ≡ 59 ∷ []
    by true q r e h = (cc)
    by false true r e h = (cc)
    by false false true e h = spelled k e
    by false false false e h = (cc)

-- the place behind a `;` is no line start
behind_semicolon : (text : List ℕ) (at n : ℕ) → at + n ≤ length text → slice_range text at (at + n) ≡ 59 ∷ []
    → is_line_start text (at + n) ≡ false
behind_semicolon text at n fit e =
    let m : at + n - at ≡ n = omega arith in
    let d = length-drop at text in
    let l : length (take (at + n - at) (drop at text)) ≡ at + n - at =
    length-take-le (at + n - at) (drop at text) (omega (arith, d)) in
    let one : n ≡ 1 = let k = ap length e in omega (arith, k, l, m) in
    let byte : get_or text (at + 0) 0 ≡ 59 = sym (get_or-drop at text 0 0)
    ∙ sym (get_or-take (at + n - at) (drop at text) 0 0 (omega (arith, one))) ∙ ap (λ l. get_or l 0 0) e in
    let before : at + n - 1 ≡ at + 0 = omega (arith, one) in
    let some : (at + n == 0) ≡ false = not_zero (at + n) (omega (arith, one)) in
    ap (λ b. b || get_or text (at + n - 1) 0 == 10) some ∙ ap (λ i. get_or text i 0 == 10) before
    ∙ ap (λ b. b == 10) byte
  where
    not_zero : (n : ℕ) → 0 < n → (n == 0) ≡ false
    not_zero n lt = grind arith

-- where an item other than the first starts is no line start
pub item_start : (text : List ℕ) (ts : List (Kind × ℕ)) (k : ℕ) → AreTokens text ts
    → suc k < length (cut_of (roles text ts))
    → is_line_start text (end_of ts (tokens_before (cut_of (roles text ts)) (suc k))) ≡ false
item_start text ts k tiles lt = by (slice_get ts t) refl
  where
    t : ℕ
    t = (behind k (roles text ts) lt).token

    by : (o : Option (Kind × ℕ)) → slice_get ts t ≡ o
        → is_line_start text (end_of ts (tokens_before (cut_of (roles text ts)) (suc k))) ≡ false
    by None e =
        let p = none_past ts t e in
        let n : slice_get (roles text ts) t ≡ None =
        slice_get_past (roles text ts) t (let l = length-roles text ts in omega (arith, p, l)) in
        let b = (behind k (roles text ts) lt).ends in
        (cc)
    by (Some u) e =
        let b = behind k (roles text ts) lt in
        let r = roles_at text ts t u.0 u.1 e in
        let got : slice_get (roles text ts) t
        ≡ Some (role_by u.0 (slice_range text (end_of ts t) (end_of ts t + u.1))) =
        ap (slice_get (roles text ts)) (let z : t ≡ t + 0 = omega arith in z)
        ∙ sym (get_drop t (roles text ts) 0) ∙ ap (λ l. slice_get l 0) r in
        let ends = b.ends in
        let role : role_by u.0 (slice_range text (end_of ts t) (end_of ts t + u.1)) ≡ semicolon = (cc) in
        let next = end_get ts t u.0 u.1 e in
        let fit : end_of ts t + u.1 ≤ length text = let s = span_tiles true text ts tiles in
        let l = end_le_span ts (t + 1) in omega (arith, s, l, next) in
        let at : end_of ts (tokens_before (cut_of (roles text ts)) (suc k)) ≡ end_of ts t + u.1 =
        ap (end_of ts) (sym b.before ∙ (let z : suc t ≡ t + 1 = omega arith in z)) ∙ next in
        ap (is_line_start text) at ∙ behind_semicolon text (end_of ts t) u.1 fit
        (role_semicolon u.0 (slice_range text (end_of ts t) (end_of ts t + u.1)) role)
