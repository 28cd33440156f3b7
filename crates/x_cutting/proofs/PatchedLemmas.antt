-- The tokens that a patch leaves, one by one, and their roles.
use Rattle.std.proofs.Common.{◌≡◌, ℕ, zero, suc, ◌+◌, ◌-◌, ◌≤◌, ◌<◌, true, false, List, [], ◌∷◌, ◌++◌, length}
use Rattle.std.proofs.Common.{take, drop, None, Some, refl, ap, sym, ◌∙◌, arith, add-one, length-append}
use Rattle.std.proofs.Common.{length-drop, length-take-le}
use Rattle.std.specs.Prelude.{slice_get, slice_range}
use Rattle.std.proofs.lemmas.Bool.{cond-true, cond-false}
use Rattle.std.proofs.lemmas.List.{drop_all}
use Rattle.std.proofs.lemmas.Option.{slice_get_within}
use Rattle.x_lists.proofs.ListLemmas.{get_drop}
use Rattle.x_lex.specs.declared.kind.Kind.{Kind}
use Rattle.x_lex.specs.Tiling.{AreTokens, end_of}
use Rattle.x_lex.specs.TokenList.{TokenPatch, patched, LiesAmong}
use Rattle.x_lex.specs.Places.{lexemes_from}
use Rattle.x_lex.proofs.SpanLemmas.{span_tiles}
use Rattle.x_lex.proofs.EndLemmas.{end_le_span}
use Rattle.x_cutting.specs.Cutting.{DepthRole, opening, closing, semicolon, plain, role_by, roles_of, roles}
use Rattle.x_cutting.specs.Cutting.{depth_after, ends_at, counts_from}

module _ {A : Type 0} where
  get_left : (xs ys : List A) (i : ℕ) → i < length xs → slice_get (xs ++ ys) i ≡ slice_get xs i
  get_left [] ys i lt = absurd (omega arith)
  get_left (x ∷ xs) ys zero lt = refl
  get_left (x ∷ xs) ys (suc i) lt = get_left xs ys i (omega arith)

  get_right : (xs ys : List A) (i : ℕ) → slice_get (xs ++ ys) (length xs + i) ≡ slice_get ys i
  get_right [] ys i = let e : 0 + i ≡ i = omega arith in ap (λ n. slice_get ys n) e
  get_right (x ∷ xs) ys i =
      let e : suc (length xs) + i ≡ suc (length xs + i) = omega arith in
      ap (λ n. slice_get (x ∷ (xs ++ ys)) n) e ∙ get_right xs ys i

  get_take : (n : ℕ) (xs : List A) (i : ℕ) → i < n → slice_get (take n xs) i ≡ slice_get xs i
  get_take zero xs i lt = absurd (omega arith)
  get_take (suc n) [] i lt = refl
  get_take (suc n) (x ∷ xs) zero lt = refl
  get_take (suc n) (x ∷ xs) (suc i) lt = get_take n xs i (omega arith)

-- the tokens that a patch leaves
module _ (ts : List (Kind × ℕ)) (patch : TokenPatch) (among : LiesAmong ts patch) where
  front_length : length (take patch.at ts) ≡ patch.at
  front_length =
      let a : patch.at + patch.removed ≤ length ts = among in length-take-le patch.at ts (omega arith)

  pub patched_length : length (patched ts patch) + patch.removed ≡ length ts + length patch.fresh
  patched_length =
      let a : patch.at + patch.removed ≤ length ts = among in
      let f = front_length in
      let l = length-append (take patch.at ts) (patch.fresh ++ drop (patch.at + patch.removed) ts) in
      let m = length-append patch.fresh (drop (patch.at + patch.removed) ts) in
      let d = length-drop (patch.at + patch.removed) ts in
      omega (arith, a, f, l, m, d)

  pub get_kept : (i : ℕ) → i < patch.at → slice_get (patched ts patch) i ≡ slice_get ts i
  get_kept i lt =
      let f = front_length in
      get_left (take patch.at ts) (patch.fresh ++ drop (patch.at + patch.removed) ts) i (omega (arith, f))
      ∙ get_take patch.at ts i lt

  behind_front : (i : ℕ) → patch.at ≤ i → slice_get (patched ts patch) i
      ≡ slice_get (patch.fresh ++ drop (patch.at + patch.removed) ts) (i - patch.at)
  behind_front i le =
      let f = front_length in
      let e : i ≡ length (take patch.at ts) + (i - patch.at) = omega (arith, f) in
      ap (λ n. slice_get (patched ts patch) n) e
      ∙ get_right (take patch.at ts) (patch.fresh ++ drop (patch.at + patch.removed) ts) (i - patch.at)

  pub get_fresh : (i : ℕ) → patch.at ≤ i → i < patch.at + length patch.fresh
      → slice_get (patched ts patch) i ≡ slice_get patch.fresh (i - patch.at)
  get_fresh i le lt = behind_front i le
      ∙ get_left patch.fresh (drop (patch.at + patch.removed) ts) (i - patch.at) (omega arith)

  pub get_behind : (i : ℕ) → patch.at + length patch.fresh ≤ i → slice_get (patched ts patch) i
      ≡ slice_get ts (patch.at + patch.removed + (i - (patch.at + length patch.fresh)))
  get_behind i le =
      let e : i - patch.at ≡ length patch.fresh + (i - (patch.at + length patch.fresh)) = omega arith in
      behind_front i (omega arith)
      ∙ ap (λ n. slice_get (patch.fresh ++ drop (patch.at + patch.removed) ts) n) e
      ∙ get_right patch.fresh (drop (patch.at + patch.removed) ts) (i - (patch.at + length patch.fresh))
      ∙ get_drop (patch.at + patch.removed) ts (i - (patch.at + length patch.fresh))

-- the roles from a token on
roles_from_at : (text : List ℕ) (at : ℕ) (ts : List (Kind × ℕ)) (i : ℕ) (k : Kind) (n : ℕ)
    → slice_get ts i ≡ Some (k, n) → drop i (roles_of (lexemes_from text at ts))
    ≡ role_by k (slice_range text (at + end_of ts i) (at + end_of ts i + n)) ∷ drop (suc i)
    (roles_of (lexemes_from text at ts))
roles_from_at text at [] i k n e = (cc)
roles_from_at text at (t ∷ ts) zero k n e =
    let is : t ≡ (k, n) = (cc) in
    let z : at ≡ at + 0 = omega arith in
    ap (λ (u : Kind × ℕ). role_by u.0 (slice_range text at (at + u.1))
    ∷ roles_of (lexemes_from text (at + t.1) ts)) is
    ∙ ap (λ a. role_by k (slice_range text a (a + n)) ∷ roles_of (lexemes_from text (at + t.1) ts)) z
roles_from_at text at (t ∷ ts) (suc i) k n e =
    let z : at + t.1 + end_of ts i ≡ at + (t.1 + end_of ts i) = omega arith in
    roles_from_at text (at + t.1) ts i k n e
    ∙ ap (λ a. role_by k (slice_range text a (a + n))
    ∷ drop (suc i) (roles_of (lexemes_from text (at + t.1) ts))) z

pub roles_at : (text : List ℕ) (ts : List (Kind × ℕ)) (i : ℕ) (k : Kind) (n : ℕ)
    → slice_get ts i ≡ Some (k, n) → drop i (roles text ts)
    ≡ role_by k (slice_range text (end_of ts i) (end_of ts i + n)) ∷ drop (i + 1) (roles text ts)
roles_at text ts i k n e =
    let z : 0 + end_of ts i ≡ end_of ts i = omega arith in
    let s : suc i ≡ i + 1 = omega arith in
    roles_from_at text 0 ts i k n e
    ∙ ap (λ a. role_by k (slice_range text a (a + n)) ∷ drop (suc i) (roles text ts)) z
    ∙ ap (λ j. role_by k (slice_range text (end_of ts i) (end_of ts i + n)) ∷ drop j (roles text ts)) s

pub length-roles_from : (text : List ℕ) (at : ℕ) (ts : List (Kind × ℕ))
    → length (roles_of (lexemes_from text at ts)) ≡ length ts
length-roles_from text at [] = refl
length-roles_from text at (t ∷ ts) = ap suc (length-roles_from text (at + t.1) ts)

pub length-roles : (text : List ℕ) (ts : List (Kind × ℕ)) → length (roles text ts) ≡ length ts
length-roles text ts = length-roles_from text 0 ts

-- how long the token at an index is
pub end_get : (ts : List (Kind × ℕ)) (i : ℕ) (k : Kind) (n : ℕ) → slice_get ts i ≡ Some (k, n)
    → end_of ts (i + 1) ≡ end_of ts i + n
end_get ts i k n e = rw add-one (found ts i e)
  where
    found : (ts : List (Kind × ℕ)) (i : ℕ) → slice_get ts i ≡ Some (k, n)
        → end_of ts (suc i) ≡ end_of ts i + n
    found [] i e = (cc)
    found (t ∷ ts) zero e =
        let is : t ≡ (k, n) = (cc) in let f : t.1 ≡ n = ap (λ u. u.1) is in omega (arith, f)
    found (t ∷ ts) (suc i) e = let r = found ts i e in omega (arith, r)

pub none_past : (ts : List (Kind × ℕ)) (i : ℕ) → slice_get ts i ≡ None → length ts ≤ i
none_past [] i e = omega arith
none_past (t ∷ ts) zero e = (cc)
none_past (t ∷ ts) (suc i) e = let r = none_past ts i e in omega (arith, r)

-- what is found at a token
pub record Found (text : List ℕ) (us : List (Kind × ℕ)) (i place : ℕ) (k : Kind) (n : ℕ) : Type 0 where
  pub within : i + 1 ≤ length us
  pub ends : place + n ≡ end_of us (i + 1)
  pub fits : place + n ≤ length text
  pub role : drop i (roles text us) ≡ role_by k (slice_range text place (place + n)) ∷ drop (i + 1)
      (roles text us)

pub found_at : (text : List ℕ) (us : List (Kind × ℕ)) (i place : ℕ) (k : Kind) (n : ℕ) → AreTokens text us
    → place ≡ end_of us i → slice_get us i ≡ Some (k, n) → Found text us i place k n
found_at text us i place k n tiles at e = record {
  within = let w = slice_get_within us i (k, n) e in omega (arith, w);
  ends = let g = end_get us i k n e in omega (arith, g, at);
  fits = let g = end_get us i k n e in let l = end_le_span us (i + 1) in
      let s = span_tiles true text us tiles in omega (arith, g, at, l, s);
  role = roles_at text us i k n e
      ∙ ap (λ p. role_by k (slice_range text p (p + n)) ∷ drop (i + 1) (roles text us)) (sym at);
}

-- one token more of an item
pub counts_on : (text : List ℕ) (us : List (Kind × ℕ)) (i place : ℕ) (k : Kind) (n depth count : ℕ)
    → Found text us i place k n → ends_at depth (role_by k (slice_range text place (place + n))) ≡ false →
    counts_from depth count (drop i (roles text us))
    ≡ counts_from (depth_after depth (role_by k (slice_range text place (place + n)))) (count + 1)
    (drop (i + 1) (roles text us))
counts_on text us i place k n depth count f e =
    let r = role_by k (slice_range text place (place + n)) in
    let rest = drop (i + 1) (roles text us) in
    ap (counts_from depth count) f.role ∙ cond-false (ends_at depth r) ((count + 1) ∷ counts_from 0 0 rest)
    (counts_from (depth_after depth r) (count + 1) rest) e

-- the last token of an item
pub counts_end : (text : List ℕ) (us : List (Kind × ℕ)) (i place : ℕ) (k : Kind) (n depth count : ℕ)
    → Found text us i place k n → ends_at depth (role_by k (slice_range text place (place + n))) ≡ true →
    counts_from depth count (drop i (roles text us))
    ≡ (count + 1) ∷ counts_from 0 0 (drop (i + 1) (roles text us))
counts_end text us i place k n depth count f e =
    let r = role_by k (slice_range text place (place + n)) in
    let rest = drop (i + 1) (roles text us) in
    ap (counts_from depth count) f.role ∙ cond-true (ends_at depth r) ((count + 1) ∷ counts_from 0 0 rest)
    (counts_from (depth_after depth r) (count + 1) rest) e

-- no token more
pub counts_none : (text : List ℕ) (us : List (Kind × ℕ)) (i depth count : ℕ) → slice_get us i ≡ None
    → counts_from depth count (drop i (roles text us)) ≡ count ∷ []
counts_none text us i depth count e =
    ap (counts_from depth count) (drop_all i (roles text us) (let p = none_past us i e in
    let l = length-roles text us in omega (arith, p, l)))

pub depth_after_le : (d : ℕ) (r : DepthRole) → depth_after d r ≤ d + 1
depth_after_le d opening = omega arith
depth_after_le d closing = omega arith
depth_after_le d semicolon = omega arith
depth_after_le d plain = omega arith

pub deep_after : (d n next : ℕ) (r : DepthRole) → next ≡ depth_after d r → d ≤ n → next ≤ n + 1
deep_after d n next r e le = let a = depth_after_le d r in omega (arith, a, e)
