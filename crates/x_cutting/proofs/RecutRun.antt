-- The loop of `recut`: what it keeps, one item more, and both ends.
-- R are the roles of the old tokens, S those of the new ones: the
-- first x are the same, and so are those behind f of the new ones and m of the old ones.
use Rattle.std.proofs.Common.{◌≡◌, ℕ, zero, suc, ◌+◌, ◌-◌, ◌≤◌, ◌<◌, ⊎_elim, true, false, true≢false, List}
use Rattle.std.proofs.Common.{[], ◌∷◌, ◌++◌, length, take, drop, refl, ap, sym, ◌∙◌, subst, arith}
use Rattle.std.proofs.Common.{append_assoc, length-append, length-take-le}
use Rattle.std.specs.Prelude.{◌↔◌, ◌==◌}
use Rattle.std.specs.Bool.{beq}
use Rattle.std.proofs.lemmas.Bool.{cases_lt}
use Rattle.std.proofs.lemmas.List.{take-append-drop, take_at, drop-drop, take-take, length_push}
use Rattle.x_cutting.specs.ItemList.{total, tokens_before}
use Rattle.x_cutting.specs.Cutting.{DepthRole}
use Rattle.x_cutting.proofs.CountLemmas.{total-append, before_mono}
use Rattle.x_cutting.proofs.FirstLemmas.{cut_of, cut_some, split, cut_drop, behind}

-- what the two lists of roles have in common
pub record Meet (R S : List DepthRole) (x f m : ℕ) : Type 0 where
  pub front : take x S ≡ take x R
  pub rear : drop (x + f) S ≡ drop (x + m) R
  pub in_old : x + m ≤ length R
  pub in_new : x + f ≤ length S

-- the first k items leave another, have `start` tokens, all among the first x, and are as many as can be
pub record Keeps (cs : List ℕ) (x k start : ℕ) : Type 0 where
  pub within : k < length cs
  pub start_is : start ≡ tokens_before cs k
  pub before : start ≤ x
  pub next : k + 1 < length cs → x < tokens_before cs (k + 1)

-- behind i new tokens, `late` or more, stands an item of the old
-- ones too; those before are none in both lists or in neither
pub record Joins (cs : List ℕ) (late old_late i : ℕ) : Type 0 where
  pub far : late ≤ i
  pub index : ℕ
  pub within : index < length cs
  pub ends : tokens_before cs index ≡ old_late + (i - late)
  pub both : (i ≡ 0) ↔ (old_late + (i - late) ≡ 0)

-- behind the first k items `news` have been cut, up to the token `index`
pub record Recutting (cs : List ℕ) (S : List DepthRole) (x f m k start : ℕ) (news : List ℕ)
    (index back back_index : ℕ) : Type 0 where
  pub index_is : index ≡ start + total news
  pub within : index ≤ length S
  pub goes_on : cut_of S ≡ take k cs ++ (news ++ cut_of (drop index S))
  pub back_from : k ≤ back
  pub back_within : back < length cs
  pub back_is : back_index ≡ tokens_before cs back
  pub below : (j : ℕ) → j < back → tokens_before cs j < x + m + (index - (x + f))
  pub none : (j : ℕ) → j < k + length news → Joins cs (x + f) (x + m) (tokens_before (cut_of S) j) → ⊥

-- the old items have been gone over up to the first that has `target` tokens before it, or more
pub record Advanced (cs : List ℕ) (x f m index back back_index : ℕ) : Type 0 where
  pub below : (j : ℕ) → j < back → tokens_before cs j < x + m + (index - (x + f))
  pub found : Joins cs (x + f) (x + m) index → back_index ≡ x + m + (index - (x + f))

-- the items that are put in place of those from k to before `end`
-- make the items of the new tokens, and no item before joins
pub record Recut (cs : List ℕ) (S : List DepthRole) (x f m k : ℕ) (news : List ℕ) (end : ℕ) : Type 0 where
  pub order : k ≤ end
  pub within : end ≤ length cs
  pub are : cut_of S ≡ take k cs ++ (news ++ drop end cs)
  pub none : (j : ℕ) → j < k + length news → Joins cs (x + f) (x + m) (tokens_before (cut_of S) j) → ⊥

-- the old items from `end` on stay
pub record Stays (cs : List ℕ) (S : List DepthRole) (x f m k : ℕ) (news : List ℕ) (end : ℕ) : Type 0 where
  pub recut : Recut cs S x f m k news end
  pub there : end < length cs
  pub far : x + f ≤ tokens_before (cut_of S) (k + length news)
  pub ends : tokens_before cs end ≡ x + m + (tokens_before (cut_of S) (k + length news) - (x + f))
  pub both : (tokens_before (cut_of S) (k + length news) ≡ 0) ↔ (tokens_before cs end ≡ 0)

-- none of them does
pub record Goes (cs : List ℕ) (S : List DepthRole) (x f m k : ℕ) (news : List ℕ) (end : ℕ) : Type 0 where
  pub recut : Recut cs S x f m k news end
  pub there : end ≡ length cs
  pub last : length (cut_of S) ≡ k + length news

-- all items but the last have tokens
pub before_strict : (rs : List DepthRole) (i j : ℕ) → i < j → j < length (cut_of rs)
    → tokens_before (cut_of rs) i < tokens_before (cut_of rs) j
before_strict rs i j lt le =
    let g = (behind i rs (omega arith)).grows in
    let m = before_mono (cut_of rs) (suc i) j (omega arith) in
    omega (arith, g, m)

take_fewer : (n x : ℕ) (S R : List DepthRole) → n ≤ x → take x S ≡ take x R → take n S ≡ take n R
take_fewer n x S R le e = sym (take-take n x S le) ∙ ap (take n) e ∙ take-take n x R le

module _ (R S : List DepthRole) (x f m : ℕ) (meet : Meet R S x f m) (k start : ℕ)
    (keeps : Keeps (cut_of R) x k start) where
  front_length : length (take k (cut_of R)) ≡ k
  front_length = let w = keeps.within in length-take-le k (cut_of R) (omega (arith, w))

  start_le : start ≤ length S
  start_le = let i = meet.in_new in let b = keeps.before in omega (arith, i, b)

  -- the items in front are those of the new tokens too
  pub front_goes_on : cut_of S ≡ take k (cut_of R) ++ cut_of (drop start S)
  front_goes_on =
      let s = split k R keeps.within in
      let same : take start S ≡ take start R = take_fewer start x S R keeps.before meet.front in
      ap cut_of (sym (take-append-drop start S) ∙ ap (λ l. l ++ drop start S) same
      ∙ ap (λ n. take n R ++ drop start S) keeps.start_is) ∙ s.splits (drop start S)

  -- the tokens before the items that come behind `news`
  pub boundary : (news rest : List ℕ) → cut_of S ≡ take k (cut_of R) ++ (news ++ rest)
      → tokens_before (cut_of S) (k + length news) ≡ start + total news
  boundary news rest e =
      let l : length (take k (cut_of R) ++ news) ≡ k + length news = length-append (take k (cut_of R)) news
      ∙ ap (λ n. n + length news) front_length in
      ap (λ l. tokens_before l (k + length news)) (e ∙ sym (append_assoc (take k (cut_of R)) news rest))
      ∙ ap total (take_at (take k (cut_of R) ++ news) rest (k + length news) l)
      ∙ total-append (take k (cut_of R)) news
      ∙ ap (λ n. n + total news) (sym keeps.start_is)

  front_some : k < length (cut_of S)
  front_some =
      let e = ap length front_goes_on in
      let l = length-append (take k (cut_of R)) (cut_of (drop start S)) in
      let s = cut_some (drop start S) in
      let g = front_length in
      omega (arith, e, l, s, g)

  front_before : tokens_before (cut_of S) k ≡ start
  front_before =
      let b = boundary [] (cut_of (drop start S)) front_goes_on in
      let e : k + length {A = ℕ} [] ≡ k = omega arith in
      ap (tokens_before (cut_of S)) (sym e) ∙ b ∙ (let z : start + 0 ≡ start = omega arith in z)

  pub keeps_new : Keeps (cut_of S) x k start
  keeps_new = record {
    within = front_some;
    start_is = sym front_before;
    before = keeps.before;
    next = λ more. ⊎_elim (λ lt. lt) (λ le. absurd (not_among more le))
        (cases_lt x (tokens_before (cut_of S) (k + 1)));
  }
    where
      -- or the item were one of the old tokens too
      not_among : k + 1 < length (cut_of S) → tokens_before (cut_of S) (k + 1) ≤ x → ⊥
      not_among more le =
          let b = tokens_before (cut_of S) (k + 1) in
          let s = split (k + 1) S more in
          let same : take b S ≡ take b R = take_fewer b x S R le meet.front in
          let is : cut_of R ≡ take (k + 1) (cut_of S) ++ cut_of (drop b R) =
          ap cut_of (sym (take-append-drop b R) ∙ ap (λ l. l ++ drop b R) (sym same)) ∙ s.splits (drop b R) in
          let l = length-take-le (k + 1) (cut_of S) (omega arith) in
          let n = ap length is in
          let a = length-append (take (k + 1) (cut_of S)) (cut_of (drop b R)) in
          let c = cut_some (drop b R) in
          let next = keeps.next (omega (arith, l, n, a, c)) in
          let same_before : tokens_before (cut_of R) (k + 1) ≡ b = ap (λ l. tokens_before l (k + 1)) is
          ∙ ap total (take_at (take (k + 1) (cut_of S)) (cut_of (drop b R)) (k + 1) l) in
          omega (arith, next, same_before)

  pub recutting_none : (news : List ℕ) → news ≡ [] → Recutting (cut_of R) S x f m k start news start k start
  recutting_none news e = subst (λ l. Recutting (cut_of R) S x f m k start l start k start) (sym e) (record {
    index_is = omega arith;
    within = start_le;
    goes_on = front_goes_on;
    back_from = omega arith;
    back_within = keeps.within;
    back_is = keeps.start_is;
    below = λ j lt. let s = before_strict R j k lt keeps.within in let i = keeps.start_is in
        let b = keeps.before in omega (arith, s, i, b);
    none = λ j lt h.
        let s = before_strict S j k (omega arith) front_some in
        let e = front_before in
        let b = keeps.before in
        let far = h.far in
        omega (arith, s, e, b, far);
  })

  pub advanced : (news : List ℕ) (index back back_index to to_index target : ℕ)
      → Recutting (cut_of R) S x f m k start news index back back_index → target ≡ x + m + (index - (x + f))
      → to < length (cut_of R) → to_index ≡ tokens_before (cut_of R) to
      → ((j : ℕ) → back ≤ j → j < to → tokens_before (cut_of R) j < target)
      → (to + 1 < length (cut_of R) → target ≤ to_index) → Advanced (cut_of R) x f m index to to_index
  advanced news index back back_index to to_index target h is within at below reached =
      record { below = all; found = found }
    where
      all : (j : ℕ) → j < to → tokens_before (cut_of R) j < x + m + (index - (x + f))
      all j lt = ⊎_elim (λ less. h.below j less) (λ more. let b = below j more lt in omega (arith, b, is))
          (cases_lt j back)

      found : Joins (cut_of R) (x + f) (x + m) index → to_index ≡ x + m + (index - (x + f))
      found j =
          let e = j.ends in
          let w = j.within in
          let same : j.index ≡ to =
          ⊎_elim
          (λ less. let b = all j.index less in absurd (omega (arith, b, e)))
          (λ le. ⊎_elim
          (λ more. let r = reached (omega (arith, w)) in let s = before_strict R to j.index more w in
          absurd (omega (arith, r, s, e, at, is)))
          (λ ge. let z : j.index ≡ to = omega arith in z)
          (cases_lt to j.index))
          (cases_lt j.index to) in
          at ∙ ap (tokens_before (cut_of R)) (sym same) ∙ e

  -- one item more
  pub recutting_more : (news more : List ℕ) (index count back back_index to to_index : ℕ)
      → Recutting (cut_of R) S x f m k start news index back back_index
      → back ≤ to → to < length (cut_of R) → to_index ≡ tokens_before (cut_of R) to
      → ((j : ℕ) → j < to → tokens_before (cut_of R) j < x + m + (index - (x + f)))
      → (Joins (cut_of R) (x + f) (x + m) index → ⊥) → index + count ≤ length S
      → cut_of (drop index S) ≡ count ∷ cut_of (drop (index + count) S) → more ≡ news ++ count ∷ []
      → Recutting (cut_of R) S x f m k start more (index + count) to to_index
  recutting_more news more index count back back_index to to_index h forth within at below apart fit item
      pushed = record {
        index_is = let i = h.index_is in let t = ap total pushed ∙ total-append news (count ∷ []) in
            omega (arith, i, t);
        within = fit;
        goes_on =
            h.goes_on
            ∙ ap (λ l. take k (cut_of R) ++ (news ++ l)) item
            ∙ ap (λ l. take k (cut_of R) ++ l)
            (sym (append_assoc news (count ∷ []) (cut_of (drop (index + count) S)))
            ∙ ap (λ l. l ++ cut_of (drop (index + count) S)) (sym pushed));
        back_from = let b = h.back_from in omega (arith, b);
        back_within = within;
        back_is = at;
        below = λ j lt. let b = below j lt in omega (arith, b);
        none = λ j lt joins.
            ⊎_elim
            (λ less. h.none j less joins)
            (λ ge.
            let l = ap length pushed ∙ length_push news count in
            let same : j ≡ k + length news = omega (arith, l) in
            let here : tokens_before (cut_of S) j ≡ index = ap (tokens_before (cut_of S)) same
            ∙ boundary news (cut_of (drop index S)) h.goes_on ∙ sym h.index_is in
            apart (subst (λ i. Joins (cut_of R) (x + f) (x + m) i) here joins))
            (cases_lt j (k + length news));
      }

  -- an item behind which another comes has tokens
  pub item_some : (index count : ℕ) → cut_of (drop index S) ≡ count ∷ cut_of (drop (index + count) S)
      → 0 < count
  item_some index count item =
      let l = ap length item in
      let s = cut_some (drop (index + count) S) in
      let b = behind 0 (drop index S) (omega (arith, l, s)) in
      let g : tokens_before (cut_of (drop index S)) 0 < tokens_before (cut_of (drop index S)) 1 = b.grows in
      let e : tokens_before (cut_of (drop index S)) 1 ≡ count + 0 = ap (λ l. tokens_before l 1) item in
      omega (arith, g, e)

  pub recut_joined : (news : List ℕ) (index back back_index to to_index : ℕ)
      → Recutting (cut_of R) S x f m k start news index back back_index → back ≤ to → to < length (cut_of R)
      → to_index ≡ tokens_before (cut_of R) to
      → x + f ≤ index → to_index ≡ x + m + (index - (x + f)) → ((index ≡ 0) ↔ (to_index ≡ 0))
      → Stays (cut_of R) S x f m k news to
  recut_joined news index back back_index to to_index h forth within at far is both =
      let here : tokens_before (cut_of S) (k + length news) ≡ index =
      boundary news (cut_of (drop index S)) h.goes_on ∙ sym h.index_is in
      let split_index : index ≡ x + f + (index - (x + f)) = omega arith in
      let rest : drop index S ≡ drop (tokens_before (cut_of R) to) R =
      ap (λ i. drop i S) split_index
      ∙ sym (drop-drop (index - (x + f)) (x + f) S)
      ∙ ap (drop (index - (x + f))) meet.rear
      ∙ drop-drop (index - (x + f)) (x + m) R
      ∙ ap (λ i. drop i R) (sym is ∙ at) in
      record {
        recut = record {
          order = let b = h.back_from in omega (arith, b);
          within = omega arith;
          are = h.goes_on ∙ ap (λ l. take k (cut_of R) ++ (news ++ l)) (ap cut_of rest
              ∙ sym (cut_drop to R within));
          none = h.none;
        };
        there = within;
        far = let e = here in omega (arith, e);
        ends = let e = here in omega (arith, e, at, is);
        both = subst (λ i. (i ≡ 0) ↔ (tokens_before (cut_of R) to ≡ 0)) (sym here)
            (subst (λ i. (index ≡ 0) ↔ (i ≡ 0)) at both);
      }

  pub recut_ended : (news more : List ℕ) (index count back back_index end : ℕ)
      → Recutting (cut_of R) S x f m k start news index back back_index
      → (Joins (cut_of R) (x + f) (x + m) index → ⊥) → cut_of (drop index S) ≡ count ∷ []
      → more ≡ news ++ count ∷ [] → end ≡ length (cut_of R) → Goes (cut_of R) S x f m k more end
  recut_ended news more index count back back_index end h apart item pushed all =
      let g = front_length in
      let l = ap length pushed ∙ length_push news count in
      let are : cut_of S ≡ take k (cut_of R) ++ more = h.goes_on
      ∙ ap (λ l. take k (cut_of R) ++ (news ++ l)) item ∙ ap (λ l. take k (cut_of R) ++ l) (sym pushed) in
      let nil : drop end (cut_of R) ≡ [] = drop_none (cut_of R) end (omega (arith, all)) in
      record {
        recut = record {
          order = let w = keeps.within in omega (arith, w, all);
          within = omega (arith, all);
          are = are ∙ ap (λ l. take k (cut_of R) ++ l) (sym (append_none more)
              ∙ ap (λ l. more ++ l) (sym nil));
          none = λ j lt joins.
              ⊎_elim
              (λ less. h.none j less joins)
              (λ ge.
              let same : j ≡ k + length news = omega (arith, l) in
              let here : tokens_before (cut_of S) j ≡ index = ap (tokens_before (cut_of S)) same
              ∙ boundary news (cut_of (drop index S)) h.goes_on ∙ sym h.index_is in
              apart (subst (λ i. Joins (cut_of R) (x + f) (x + m) i) here joins))
              (cases_lt j (k + length news));
        };
        there = all;
        last = ap length are ∙ length-append (take k (cut_of R)) more ∙ ap (λ n. n + length more) g;
      }
    where
      drop_none : (cs : List ℕ) (i : ℕ) → length cs ≤ i → drop i cs ≡ []
      drop_none [] zero le = refl
      drop_none [] (suc i) le = refl
      drop_none (c ∷ cs) zero le = absurd (omega arith)
      drop_none (c ∷ cs) (suc i) le = drop_none cs i (omega arith)

      append_none : (cs : List ℕ) → cs ++ [] ≡ cs
      append_none [] = refl
      append_none (c ∷ cs) = ap (λ l. c ∷ l) (append_none cs)

-- the old items have been gone over as far as an item behind `index` tokens asks, and none of them joins
pub record Moved (cs : List ℕ) (x f m index back to to_index : ℕ) : Type 0 where
  pub forth : back ≤ to
  pub within : to < length cs
  pub at : to_index ≡ tokens_before cs to
  pub below : (j : ℕ) → j < to → tokens_before cs j < x + m + (index - (x + f))
  pub apart : Joins cs (x + f) (x + m) index → ⊥

-- the tokens are not behind the fresh ones yet
pub moved_not : (cs : List ℕ) (S : List DepthRole) (x f m k start : ℕ) (news : List ℕ)
    (index back back_index to to_index : ℕ) → Recutting cs S x f m k start news index back back_index
    → index < x + f → to ≡ back → to_index ≡ back_index → Moved cs x f m index back to to_index
moved_not cs S x f m k start news index back back_index to to_index h near same same_index = record {
  forth = omega (arith, same);
  within = let w = h.back_within in omega (arith, w, same);
  at = same_index ∙ h.back_is ∙ ap (tokens_before cs) (sym same);
  below = λ j lt. h.below j (omega (arith, lt, same));
  apart = λ j. let f = j.far in omega (arith, f, near);
}

-- they are
pub moved_on : (cs : List ℕ) (x f m index back to to_index there there_index : ℕ)
    → Advanced cs x f m index there there_index → back ≤ there → there < length cs
    → there_index ≡ tokens_before cs there → to ≡ there → to_index ≡ there_index
    → (Joins cs (x + f) (x + m) index → ⊥) → Moved cs x f m index back to to_index
moved_on cs x f m index back to to_index there there_index h forth within at same same_index apart = record {
  forth = omega (arith, forth, same);
  within = omega (arith, within, same);
  at = same_index ∙ at ∙ ap (tokens_before cs) (sym same);
  below = λ j lt. h.below j (omega (arith, lt, same));
  apart = apart;
}

-- a test whether two numbers are 0
pub both_zero : (i j : ℕ) → beq (i == 0) (j == 0) ≡ true → (i ≡ 0) ↔ (j ≡ 0)
both_zero zero zero e = (λ h. h, λ h. h)
both_zero zero (suc j) e =
    let t : beq true (suc j == 0) ≡ true = e in let z : (suc j == 0) ≡ false = grind arith in
    let d = ap (beq true) z in (cc)
both_zero (suc i) zero e =
    let t : beq (suc i == 0) true ≡ true = e in let z : (suc i == 0) ≡ false = grind arith in
    let d = ap (λ b. beq b true) z in (cc)
both_zero (suc i) (suc j) e = (λ h. absurd (omega (arith, h)), λ h. absurd (omega (arith, h)))

pub not_both_zero : (i j : ℕ) → beq (i == 0) (j == 0) ≡ false → ((i ≡ 0) ↔ (j ≡ 0)) → ⊥
not_both_zero zero zero e h = true≢false e
not_both_zero zero (suc j) e h = let z = h.0 refl in omega (arith, z)
not_both_zero (suc i) zero e h = let z = h.1 refl in omega (arith, z)
not_both_zero (suc i) (suc j) e h =
    let z : (suc i == 0) ≡ false = grind arith in let w : (suc j == 0) ≡ false = grind arith in
    true≢false (ap (λ b. beq b false) (sym z) ∙ ap (beq (suc i == 0)) (sym w) ∙ e)
