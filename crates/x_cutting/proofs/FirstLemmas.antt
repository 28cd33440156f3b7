-- Where items end, the rest is cut as if it stood alone,
-- and the items before are the same whatever follows them.
use Rattle.std.proofs.Common.{◌≡◌, ℕ, zero, suc, ◌+◌, ◌≤◌, ◌<◌, ◌⊎◌, inl, inr, Bool, true, false, List, []}
use Rattle.std.proofs.Common.{◌∷◌, ◌++◌, length, take, drop, Some, refl, ap, sym, ◌∙◌, append_assoc, arith}
use Rattle.std.proofs.Common.{length-drop, length-take-le}
use Rattle.std.specs.Prelude.{slice_get}
use Rattle.std.proofs.lemmas.Bool.{cond-true, cond-false}
use Rattle.std.proofs.lemmas.List.{take-append-drop, drop_at}
use Rattle.x_cutting.specs.ItemList.{total, tokens_before}
use Rattle.x_cutting.specs.Cutting.{DepthRole, opening, closing, semicolon, plain, depth_after, ends_at}
use Rattle.x_cutting.specs.Cutting.{counts_from}

-- the tokens of all items are all tokens
pub total_counts : (d n : ℕ) (rs : List DepthRole) → total (counts_from d n rs) ≡ n + length rs
total_counts d n [] = refl
total_counts d n (r ∷ rs) = by (ends_at d r) refl
    (let t = total_counts 0 0 rs in omega (arith, t))
    (let t = total_counts (depth_after d r) (n + 1) rs in omega (arith, t))
  where
    by : (b : Bool) → ends_at d r ≡ b → total ((n + 1) ∷ counts_from 0 0 rs) ≡ n + suc (length rs)
        → total (counts_from (depth_after d r) (n + 1) rs) ≡ n + suc (length rs)
        → total (counts_from d n (r ∷ rs)) ≡ n + suc (length rs)
    by true e one other = ap total (cond-true (ends_at d r) ((n + 1) ∷ counts_from 0 0 rs)
        (counts_from (depth_after d r) (n + 1) rs) e) ∙ one
    by false e one other =
        ap total (cond-false (ends_at d r) ((n + 1) ∷ counts_from 0 0 rs)
        (counts_from (depth_after d r) (n + 1) rs) e) ∙ other

-- the first item ends with the token at `place`, whatever follows it
pub record First (d n : ℕ) (rs : List DepthRole) : Type 0 where
  pub place : ℕ
  pub within : place < length rs
  pub ends : slice_get rs place ≡ Some semicolon
  pub splits : (tail : List DepthRole)
      → counts_from d n (take (suc place) rs ++ tail) ≡ (n + suc place) ∷ counts_from 0 0 tail

ends_with : (d : ℕ) (r : DepthRole) → ends_at d r ≡ true → r ≡ semicolon
ends_with d opening e = (cc)
ends_with d closing e = (cc)
ends_with d semicolon e = refl
ends_with d plain e = (cc)

-- the first item is whole, or it is the last
pub first : (d n : ℕ) (rs : List DepthRole) → First d n rs ⊎ (counts_from d n rs ≡ (n + length rs) ∷ [])
first d n [] = let e : n ≡ n + 0 = omega arith in inr (ap (λ k. k ∷ []) e)
first d n (r ∷ rs) = by (ends_at d r) refl (first (depth_after d r) (n + 1) rs)
  where
    on : ends_at d r ≡ false → (tail : List DepthRole)
        → counts_from d n (r ∷ tail) ≡ counts_from (depth_after d r) (n + 1) tail
    on e tail = cond-false (ends_at d r) ((n + 1) ∷ counts_from 0 0 tail)
        (counts_from (depth_after d r) (n + 1) tail) e

    later : ends_at d r ≡ false → First (depth_after d r) (n + 1) rs
        ⊎ (counts_from (depth_after d r) (n + 1) rs ≡ (n + 1 + length rs) ∷ [])
        → First d n (r ∷ rs) ⊎ (counts_from d n (r ∷ rs) ≡ (n + suc (length rs)) ∷ [])
    later e (inl f) = inl (record {
      place = suc f.place;
      within = let w = f.within in omega (arith, w);
      ends = f.ends;
      splits = λ tail. let s : n + 1 + suc f.place ≡ n + suc (suc f.place) = omega arith in
          on e (take (suc f.place) rs ++ tail) ∙ f.splits tail ∙ ap (λ k. k ∷ counts_from 0 0 tail) s;
    })
    later e (inr f) = let s : n + 1 + length rs ≡ n + suc (length rs) = omega arith in
        inr (on e rs ∙ f ∙ ap (λ k. k ∷ []) s)

    by : (b : Bool) → ends_at d r ≡ b → First (depth_after d r) (n + 1) rs
        ⊎ (counts_from (depth_after d r) (n + 1) rs ≡ (n + 1 + length rs) ∷ [])
        → First d n (r ∷ rs) ⊎ (counts_from d n (r ∷ rs) ≡ (n + suc (length rs)) ∷ [])
    by true e rest = inl (record {
      place = 0;
      within = omega arith;
      ends = ap Some (ends_with d r e);
      splits = λ tail. cond-true (ends_at d r) ((n + 1) ∷ counts_from 0 0 tail)
          (counts_from (depth_after d r) (n + 1) tail) e;
    })
    by false e rest = later e rest

-- the items of the roles
abbrev pub cut_of : List DepthRole → List ℕ
cut_of rs = counts_from 0 0 rs

-- the first item and the others
first_others : (rs : List DepthRole) (f : First 0 0 rs)
    → cut_of rs ≡ suc f.place ∷ cut_of (drop (suc f.place) rs)
first_others rs f =
    let s : 0 + suc f.place ≡ suc f.place = omega arith in ap cut_of (sym (take-append-drop (suc f.place) rs))
    ∙ f.splits (drop (suc f.place) rs) ∙ ap (λ k. k ∷ cut_of (drop (suc f.place) rs)) s

pub cut_some : (rs : List DepthRole) → 0 < length (cut_of rs)
cut_some rs = by (first 0 0 rs)
  where
    by : First 0 0 rs ⊎ (counts_from 0 0 rs ≡ (0 + length rs) ∷ []) → 0 < length (cut_of rs)
    by (inl f) = let e = ap length (first_others rs f) in omega (arith, e)
    by (inr e) = let l = ap length e in omega (arith, l)

-- the first k items, which leave another, are the same whatever follows them
pub record Split (k : ℕ) (rs : List DepthRole) : Type 0 where
  pub within : tokens_before (cut_of rs) k ≤ length rs
  pub splits : (tail : List DepthRole)
      → cut_of (take (tokens_before (cut_of rs) k) rs ++ tail) ≡ take k (cut_of rs) ++ cut_of tail

pub take_more : (i j : ℕ) (rs : List DepthRole) → take (i + j) rs ≡ take i rs ++ take j (drop i rs)
take_more zero j rs = let e : 0 + j ≡ j = omega arith in ap (λ n. take n rs) e
take_more (suc i) zero [] = let e : suc i + 0 ≡ suc (i + 0) = omega arith in ap (λ n. take n []) e
take_more (suc i) (suc j) [] = let e : suc i + suc j ≡ suc (i + suc j) = omega arith in ap (λ n. take n []) e
take_more (suc i) j (r ∷ rs) =
    let e : suc i + j ≡ suc (i + j) = omega arith in ap (λ n. take n (r ∷ rs)) e
    ∙ ap (λ l. r ∷ l) (take_more i j rs)

pub split : (k : ℕ) (rs : List DepthRole) → k < length (cut_of rs) → Split k rs
split zero rs lt = record { within = omega arith; splits = λ tail. refl }
split (suc k) rs lt = by (first 0 0 rs) (λ f. split k (drop (suc f.place) rs))
  where
    by : First 0 0 rs ⊎ (counts_from 0 0 rs ≡ (0 + length rs) ∷ [])
        → ((f : First 0 0 rs) → k < length (cut_of (drop (suc f.place) rs)) → Split k (drop (suc f.place) rs))
        → Split (suc k) rs
    by (inr e) rest = let l = ap length e in absurd (omega (arith, l))
    by (inl f) rest =
        let others = drop (suc f.place) rs in
        let is = first_others rs f in
        let n = ap length is in
        let s = rest f (omega (arith, n)) in
        let b = tokens_before (cut_of others) k in
        let at : tokens_before (cut_of rs) (suc k) ≡ suc f.place + b = ap (λ l. tokens_before l (suc k)) is in
        record {
          within = let w = s.within in let l = length-drop (suc f.place) rs in let v = f.within in
              omega (arith, w, l, v, at);
          splits = λ tail.
              let z : 0 + suc f.place ≡ suc f.place = omega arith in
              ap (λ i. cut_of (take i rs ++ tail)) at
              ∙ ap (λ l. cut_of (l ++ tail)) (take_more (suc f.place) b rs)
              ∙ ap cut_of (append_assoc (take (suc f.place) rs) (take b others) tail)
              ∙ f.splits (take b others ++ tail)
              ∙ ap (λ i. i ∷ cut_of (take b others ++ tail)) z
              ∙ ap (λ l. suc f.place ∷ l) (s.splits tail)
              ∙ ap (λ l. take (suc k) l ++ cut_of tail) (sym is);
        }

-- what is left behind the first k items is cut as if it stood alone
pub cut_drop : (k : ℕ) (rs : List DepthRole) → k < length (cut_of rs)
    → drop k (cut_of rs) ≡ cut_of (drop (tokens_before (cut_of rs) k) rs)
cut_drop k rs lt =
    let b = tokens_before (cut_of rs) k in
    let s = split k rs lt in
    let is : cut_of rs ≡ take k (cut_of rs) ++ cut_of (drop b rs) = ap cut_of (sym (take-append-drop b rs))
    ∙ s.splits (drop b rs) in
    ap (drop k) is ∙ drop_at (take k (cut_of rs)) (cut_of (drop b rs)) k
    (length-take-le k (cut_of rs) (omega arith))

-- the token before an item is a `;`, so all items but the last have tokens
pub record Behind (k : ℕ) (rs : List DepthRole) : Type 0 where
  pub grows : tokens_before (cut_of rs) k < tokens_before (cut_of rs) (suc k)
  pub token : ℕ
  pub before : suc token ≡ tokens_before (cut_of rs) (suc k)
  pub ends : slice_get rs token ≡ Some semicolon

get_behind : (n : ℕ) (rs : List DepthRole) (i : ℕ) → slice_get (drop n rs) i ≡ slice_get rs (n + i)
get_behind zero rs i = let e : i ≡ 0 + i = omega arith in ap (λ n. slice_get rs n) e
get_behind (suc n) [] i = refl
get_behind (suc n) (x ∷ rs) i =
    let e : suc (n + i) ≡ suc n + i = omega arith in get_behind n rs i ∙ ap (λ k. slice_get (x ∷ rs) k) e

pub behind : (k : ℕ) (rs : List DepthRole) → suc k < length (cut_of rs) → Behind k rs
behind zero rs lt = by (first 0 0 rs)
  where
    by : First 0 0 rs ⊎ (counts_from 0 0 rs ≡ (0 + length rs) ∷ []) → Behind 0 rs
    by (inr e) = let l = ap length e in absurd (omega (arith, l))
    by (inl f) =
        let one : tokens_before (cut_of rs) 1 ≡ suc f.place + 0 =
        ap (λ l. tokens_before l 1) (first_others rs f) in
        record { grows = omega (arith, one); token = f.place; before = omega (arith, one); ends = f.ends }
behind (suc k) rs lt = by (first 0 0 rs) (λ f l. behind k (drop (suc f.place) rs) l)
  where
    by : First 0 0 rs ⊎ (counts_from 0 0 rs ≡ (0 + length rs) ∷ [])
        → ((f : First 0 0 rs) → suc k < length (cut_of (drop (suc f.place) rs))
        → Behind k (drop (suc f.place) rs)) → Behind (suc k) rs
    by (inr e) rest = let l = ap length e in absurd (omega (arith, l))
    by (inl f) rest =
        let is = first_others rs f in
        let n = ap length is in
        let b = rest f (omega (arith, n)) in
        let others = drop (suc f.place) rs in
        let here : tokens_before (cut_of rs) (suc k) ≡ suc f.place + tokens_before (cut_of others) k =
        ap (λ l. tokens_before l (suc k)) is in
        let next : tokens_before (cut_of rs) (suc (suc k)) ≡ suc f.place + tokens_before (cut_of others)
        (suc k) = ap (λ l. tokens_before l (suc (suc k))) is in
        record {
          grows = let g = b.grows in omega (arith, g, here, next);
          token = suc f.place + b.token;
          before = let e = b.before in omega (arith, e, next);
          ends = sym (get_behind (suc f.place) rs b.token) ∙ b.ends;
        }
