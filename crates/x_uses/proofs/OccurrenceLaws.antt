-- What stands at the items of a text, in their order, and after an edit of the text.
use Rattle.std.proofs.Common.{◌≡◌, ℕ, suc, ◌+◌, ◌-◌, ◌^◌, ◌<◌, ◌≤◌, nat_lt, true, false, cond, List, [], ◌∷◌}
use Rattle.std.proofs.Common.{◌++◌, length, take, drop, map, Option, None, Some, refl, sym, ap, ◌∙◌, arith}
use Rattle.std.proofs.Common.{length-drop, append-nil}
use Rattle.std.specs.Prelude.{option_map}
use Rattle.std.specs.List.{splice}
use Rattle.std.specs.Option.{option_or}
use Rattle.std.proofs.lemmas.Bool.{lt-ltb, le-ltb}
use Rattle.std.proofs.lemmas.List.{map-append, take-append-drop, length-take-le}
use Rattle.x_uses.specs.Occurrences.{put_before}
use Rattle.x_uses.specs.Slots.{front_of, rear_of, sum_of, number_after, stays, renumbered, filled, first_of}
use Rattle.x_uses.specs.declared.uses.ItemSplice.{ItemSplice}
use Rattle.x_uses.proofs.PlaceLists.{drop_drop}

-- what is found at the items, of which the first has this number
abbrev pub found : {D Y : Type 0} → (ℕ → D → Option Y) → ℕ → List D → List Y
found pick i [] = []
found pick i (d ∷ ds) = put_before (pick i d) (found pick (suc i) ds)

-- What is found at an item has its number, and elsewhere
-- only another number. Numbers are those of the program.
pub record Picks {D Y : Type 0} (item_of : Y → ℕ) (put : ℕ → Y → Y) (pick : ℕ → D → Option Y) : Type 0 where
  pub at : (i : ℕ) (d : D) (y : Y) → pick i d ≡ Some y → item_of y ≡ i
  pub moves : (i j : ℕ) (d : D) → j < 2 ^ 32 → pick j d ≡ option_map (put j) (pick i d)

before_joined : {Y : Type 0} (o : Option Y) (xs ys zs : List Y) → xs ≡ ys ++ zs
    → put_before o xs ≡ put_before o ys ++ zs
before_joined None xs ys zs e = e
before_joined (Some y) xs ys zs e = ap (λ l. y ∷ l) e

pub found_joined : {D Y : Type 0} (pick : ℕ → D → Option Y) (i : ℕ) (ds es : List D)
    → found pick i (ds ++ es) ≡ found pick i ds ++ found pick (i + length ds) es
found_joined pick i [] es = let e : i ≡ i + 0 = omega arith in ap (λ k. found pick k es) e
found_joined pick i (d ∷ ds) es =
    let e : suc i + length ds ≡ i + suc (length ds) = omega arith in
    before_joined (pick i d) (found pick (suc i) (ds ++ es)) (found pick (suc i) ds)
    (found pick (i + suc (length ds)) es) (found_joined pick (suc i) ds es
    ∙ ap (λ k. found pick (suc i) ds ++ found pick k es) e)

module _ {D Y : Type 0} (item_of : Y → ℕ) (put : ℕ → Y → Y) (pick : ℕ → D → Option Y)
    (is : Picks item_of put pick) where
  -- the same at other numbers
  found_moved : (f : ℕ → ℕ) (i j : ℕ) (ds : List D) → j + length ds ≤ 2 ^ 32
      → ((k : ℕ) → k < length ds → f (i + k) ≡ j + k)
      → found pick j ds ≡ map (λ y. put (f (item_of y)) y) (found pick i ds)
  found_moved f i j [] few h = refl
  found_moved f i j (d ∷ ds) few h =
      ap (λ o. put_before o (found pick (suc j) ds)) (is.moves i j d (omega arith))
      ∙ by (pick i d) refl
      (found_moved f (suc i) (suc j) ds (omega arith) (λ k lt. let a : suc i + k ≡ i + suc k = omega arith in
      let b : j + suc k ≡ suc j + k = omega arith in ap f a ∙ h (suc k) (omega arith) ∙ b))
    where
      here : f i ≡ j
      here = let a : i ≡ i + 0 = omega arith in let b : j + 0 ≡ j = omega arith in
          ap f a ∙ h 0 (omega arith) ∙ b

      by : (o : Option Y) → pick i d ≡ o
          → found pick (suc j) ds ≡ map (λ y. put (f (item_of y)) y) (found pick (suc i) ds)
          → put_before (option_map (put j) o) (found pick (suc j) ds)
          ≡ map (λ y. put (f (item_of y)) y) (put_before o (found pick (suc i) ds))
      by None e more = more
      by (Some y) e more = ap (λ k. put k y ∷ found pick (suc j) ds) (sym (ap f (is.at i d y e) ∙ here))
          ∙ ap (λ l. put (f (item_of y)) y ∷ l) more

  -- none of those from a bound on is below it
  none_below : (bound i : ℕ) (ds : List D) → bound ≤ i → (front_of item_of bound (found pick i ds) ≡ [])
      × (rear_of item_of bound (found pick i ds) ≡ found pick i ds)
  none_below bound i [] le = (refl, refl)
  none_below bound i (d ∷ ds) le = by (pick i d) refl (none_below bound (suc i) ds (omega (arith, le)))
    where
      by : (o : Option Y) → pick i d ≡ o → (front_of item_of bound (found pick (suc i) ds) ≡ [])
          × (rear_of item_of bound (found pick (suc i) ds) ≡ found pick (suc i) ds)
          → (front_of item_of bound (put_before o (found pick (suc i) ds)) ≡ [])
          × (rear_of item_of bound (put_before o (found pick (suc i) ds))
          ≡ put_before o (found pick (suc i) ds))
      by None e more = more
      by (Some y) e more =
          let number = is.at i d y e in
          let not : nat_lt (item_of y) bound ≡ false =
          le-ltb (item_of y) bound (omega (arith, le, number)) in (
            ap (λ b. cond b (y ∷ front_of item_of bound (found pick (suc i) ds)) []) not,
            ap (λ b. cond b (rear_of item_of bound (found pick (suc i) ds)) (y ∷ found pick (suc i) ds)) not,
          )

  -- all of those that end at a bound are below it
  all_below : (bound i : ℕ) (ds : List D) (ys : List Y) → i + length ds ≤ bound
      → (front_of item_of bound (found pick i ds ++ ys) ≡ found pick i ds ++ front_of item_of bound ys)
      × (rear_of item_of bound (found pick i ds ++ ys) ≡ rear_of item_of bound ys)
  all_below bound i [] ys le = (refl, refl)
  all_below bound i (d ∷ ds) ys le = by (pick i d) refl (all_below bound (suc i) ds ys (omega (arith, le)))
    where
      rest : List Y
      rest = found pick (suc i) ds

      by : (o : Option Y) → pick i d ≡ o
          → (front_of item_of bound (rest ++ ys) ≡ rest ++ front_of item_of bound ys)
          × (rear_of item_of bound (rest ++ ys) ≡ rear_of item_of bound ys)
          → (front_of item_of bound (put_before o rest ++ ys)
          ≡ put_before o rest ++ front_of item_of bound ys)
          × (rear_of item_of bound (put_before o rest ++ ys) ≡ rear_of item_of bound ys)
      by None e more = more
      by (Some y) e more =
          let number = is.at i d y e in
          let yes : nat_lt (item_of y) bound ≡ true =
          lt-ltb (item_of y) bound (omega (arith, le, number)) in (
            ap (λ b. cond b (y ∷ front_of item_of bound (rest ++ ys)) []) yes ∙ ap (λ l. y ∷ l) more.0,
            ap (λ b. cond b (rear_of item_of bound (rest ++ ys)) (y ∷ (rest ++ ys))) yes ∙ more.1,
          )

-- ---- an edit

number_before : (p : ItemSplice) (k : ℕ) → k < p.at → number_after p k ≡ k
number_before p k lt = ap (λ b. cond b k (sum_of (k - p.removed) p.added)) (lt-ltb k p.at lt)

number_behind : (p : ItemSplice) (k : ℕ) → p.at ≤ k → k - p.removed + p.added < 2 ^ 64
    → number_after p k ≡ k - p.removed + p.added
number_behind p k le few = ap (λ b. cond b k (sum_of (k - p.removed) p.added)) (le-ltb k p.at le)
    ∙ omega arith

-- the definitions of a text and of what an edit puts in, and the place
pub record IsEdit {D : Type 0} (p : ItemSplice) (old fresh : List D) : Type 0 where
  pub within : p.at + p.removed ≤ length old
  pub added_is : p.added ≡ length fresh
  pub few : length old + p.added < 2 ^ 32

module _ {D Y : Type 0} (item_of : Y → ℕ) (put : ℕ → Y → Y) (pick : ℕ → D → Option Y)
    (is : Picks item_of put pick) (p : ItemSplice) (old fresh : List D) (edit : IsEdit p old fresh) where
  abbrev pub end : ℕ
  end = p.at + p.removed

  -- what is found before the place, in it, behind it, and behind it with the numbers after the edit
  abbrev pub front : List Y
  front = found pick 0 (take p.at old)

  abbrev pub inside : List Y
  inside = found pick p.at (take p.removed (drop p.at old))

  abbrev pub rear : List Y
  rear = found pick end (drop end old)

  abbrev pub rear_after : List Y
  rear_after = found pick (p.at + p.added) (drop end old)

  front_length : length (take p.at old) ≡ p.at
  front_length = let w = edit.within in length-take-le p.at old (omega (arith, w))

  inside_length : length (take p.removed (drop p.at old)) ≡ p.removed
  inside_length = let w = edit.within in let n = length-drop p.at old in
      length-take-le p.removed (drop p.at old) (omega (arith, w, n))

  -- a text in three parts
  pub parted : found pick 0 old ≡ front ++ (inside ++ rear)
  parted =
      let a = front_length in
      let b = inside_length in
      let z : 0 + length (take p.at old) ≡ p.at = omega (arith, a) in
      let y : p.at + length (take p.removed (drop p.at old)) ≡ end = omega (arith, b) in
      ap (found pick 0) (sym (take-append-drop p.at old))
      ∙ found_joined pick 0 (take p.at old) (drop p.at old)
      ∙ ap (λ k. front ++ found pick k (drop p.at old)) z
      ∙ ap (λ l. front ++ found pick p.at l) (sym (take-append-drop p.removed (drop p.at old)))
      ∙ ap (λ l. front ++ l)
      (found_joined pick p.at (take p.removed (drop p.at old)) (drop p.removed (drop p.at old)))
      ∙ ap (λ k. front ++ (inside ++ found pick k (drop p.removed (drop p.at old)))) y
      ∙ ap (λ l. front ++ (inside ++ found pick end l)) (drop_drop p.removed p.at old)

  -- the text after the edit
  pub after_edit : found pick 0 (splice old p.at end fresh) ≡ front ++ (found pick p.at fresh ++ rear_after)
  after_edit =
      let a = front_length in
      let z : 0 + length (take p.at old) ≡ p.at = omega (arith, a) in
      let y : p.at + length fresh ≡ p.at + p.added = ap (λ n. p.at + n) (sym edit.added_is) in
      found_joined pick 0 (take p.at old) (fresh ++ drop end old)
      ∙ ap (λ k. front ++ found pick k (fresh ++ drop end old)) z
      ∙ ap (λ l. front ++ l) (found_joined pick p.at fresh (drop end old))
      ∙ ap (λ k. front ++ (found pick p.at fresh ++ found pick k (drop end old))) y

  -- what is put in, by its own numbers
  pub fresh_is : found pick p.at fresh ≡ map (λ y. put (sum_of p.at (item_of y)) y) (found pick 0 fresh)
  fresh_is =
      let w = edit.within in
      let a = edit.added_is in
      let f = edit.few in
      found_moved item_of put pick is (sum_of p.at) 0 p.at fresh (omega (arith, w, a, f))
      (λ k lt. omega (arith, lt, w, a, f))

  -- what stays behind the place, by its numbers before
  pub rear_is : rear_after ≡ map (λ y. put (number_after p (item_of y)) y) rear
  rear_is =
      let w = edit.within in
      let f = edit.few in
      let n = length-drop end old in
      found_moved item_of put pick is (number_after p) end (p.at + p.added) (drop end old)
      (omega (arith, w, f, n))
      (λ k lt. number_behind p (end + k) (omega arith) (omega (arith, lt, w, f, n)) ∙ omega arith)

  front_is : front ≡ map (λ y. put (number_after p (item_of y)) y) front
  front_is =
      let w = edit.within in
      let f = edit.few in
      let n = front_length in
      found_moved item_of put pick is (number_after p) 0 0 (take p.at old) (omega (arith, w, f, n))
      (λ k lt. number_before p (0 + k) (omega (arith, lt, n)) ∙ refl)

  end_is : sum_of p.at p.removed ≡ end
  end_is = let w = edit.within in let f = edit.few in omega (arith, w, f)

  front_ends : 0 + length (take p.at old) ≤ p.at
  front_ends = let n = front_length in omega (arith, n)

  -- the front of the text by its bound
  pub front_before : front_of item_of p.at (found pick 0 old) ≡ front
  front_before =
      let behind : found pick p.at (drop p.at old) ≡ inside ++ rear = parted_behind in
      ap (front_of item_of p.at) parted
      ∙ (all_below item_of put pick is p.at 0 (take p.at old) (inside ++ rear) front_ends).0
      ∙ ap (λ l. front ++ l) (ap (front_of item_of p.at) (sym behind)
      ∙ (none_below item_of put pick is p.at p.at (drop p.at old) (omega arith)).0) ∙ append-nil front
    where
      parted_behind : found pick p.at (drop p.at old) ≡ inside ++ rear
      parted_behind =
          let b = inside_length in
          let y : p.at + length (take p.removed (drop p.at old)) ≡ end = omega (arith, b) in
          ap (found pick p.at) (sym (take-append-drop p.removed (drop p.at old)))
          ∙ found_joined pick p.at (take p.removed (drop p.at old)) (drop p.removed (drop p.at old))
          ∙ ap (λ k. inside ++ found pick k (drop p.removed (drop p.at old))) y
          ∙ ap (λ l. inside ++ found pick end l) (drop_drop p.removed p.at old)

  -- and its rear
  pub rear_behind : rear_of item_of (sum_of p.at p.removed) (found pick 0 old) ≡ rear
  rear_behind =
      let n = front_length in
      let b = inside_length in
      ap (λ k. rear_of item_of k (found pick 0 old)) end_is ∙ ap (rear_of item_of end) parted
      ∙ (all_below item_of put pick is end 0 (take p.at old) (inside ++ rear) (omega (arith, n))).1
      ∙ (all_below item_of put pick is end p.at (take p.removed (drop p.at old)) rear (omega (arith, b))).1
      ∙ (none_below item_of put pick is end end (drop end old) (omega arith)).1

  -- what stays of it
  pub stays_are : stays item_of p (found pick 0 old) ≡ front ++ rear
  stays_are = ap (λ l. l ++ rear_of item_of (sum_of p.at p.removed) (found pick 0 old)) front_before
      ∙ ap (λ l. front ++ l) rear_behind

  -- where nothing is found in the place, all of it
  pub all_stay : found pick 0 (take p.removed (drop p.at old)) ≡ [] → found pick 0 old ≡ front ++ rear
  all_stay none =
      let w = edit.within in
      let f = edit.few in
      let n = inside_length in
      let moved : inside ≡ map (λ y. put (p.at + item_of y) y)
      (found pick 0 (take p.removed (drop p.at old))) =
      found_moved item_of put pick is (λ k. p.at + k) 0 p.at (take p.removed (drop p.at old))
      (omega (arith, w, f, n)) (λ k lt. let e : p.at + (0 + k) ≡ p.at + k = omega arith in e)
      in
      parted ∙ ap (λ l. front ++ (l ++ rear)) (moved ∙ ap (map (λ y. put (p.at + item_of y) y)) none)

  -- with the numbers after the edit
  pub numbers_after : renumbered item_of put p (front ++ rear) ≡ front ++ rear_after
  numbers_after = map-append (λ y. put (number_after p (item_of y)) y) front rear
      ∙ ap (λ l. l ++ map (λ y. put (number_after p (item_of y)) y) rear) (sym front_is)
      ∙ ap (λ l. front ++ l) (sym rear_is)

  -- which are the same where as many are put in as taken out
  pub numbers_stay : p.removed ≡ p.added → front ++ rear ≡ front ++ rear_after
  numbers_stay same = ap (λ n. front ++ found pick (p.at + n) (drop end old)) same

  -- with what is put in
  pub filled_is : filled item_of put p.at (found pick 0 fresh) (front ++ rear_after)
      ≡ found pick 0 (splice old p.at end fresh)
  filled_is =
      let ends = all_below item_of put pick is p.at 0 (take p.at old) rear_after front_ends in
      let behind = none_below item_of put pick is p.at (p.at + p.added) (drop end old) (omega arith) in
      ap (λ l. l ++ (map (λ y. put (sum_of p.at (item_of y)) y) (found pick 0 fresh) ++ rear_of item_of p.at
      (front ++ rear_after))) (ends.0 ∙ ap (λ l. front ++ l) behind.0 ∙ append-nil front)
      ∙ ap (λ l. front ++ (map (λ y. put (sum_of p.at (item_of y)) y) (found pick 0 fresh) ++ l))
      (ends.1 ∙ behind.1)
      ∙ ap (λ l. front ++ (l ++ rear_after)) (sym fresh_is) ∙ sym after_edit

  -- where nothing is put in, nothing is found of it
  pub none_filled : found pick 0 fresh ≡ [] → front ++ rear_after ≡ found pick 0 (splice old p.at end fresh)
  none_filled none = ap (λ l. front ++ (l ++ rear_after))
      (sym (fresh_is ∙ ap (map (λ y. put (sum_of p.at (item_of y)) y)) none)) ∙ sym after_edit

  -- ---- the first of them

  first_joined : (xs ys : List Y) → first_of (xs ++ ys) ≡ option_or (first_of xs) (first_of ys)
  first_joined [] ys = refl
  first_joined (x ∷ xs) ys = refl

  first_mapped : (f : Y → Y) (xs : List Y) → first_of (map f xs) ≡ option_map f (first_of xs)
  first_mapped f [] = refl
  first_mapped f (x ∷ xs) = refl

  pub first_is : option_or (first_of (front_of item_of p.at (found pick 0 old)))
      (option_or (option_map (λ y. put (sum_of p.at (item_of y)) y) (first_of (found pick 0 fresh)))
      (option_map (λ y. put (number_after p (item_of y)) y)
      (first_of (rear_of item_of (sum_of p.at p.removed) (found pick 0 old)))))
      ≡ first_of (found pick 0 (splice old p.at end fresh))
  first_is =
      let there : List Y = map (λ y. put (sum_of p.at (item_of y)) y) (found pick 0 fresh) in
      let behind : List Y = map (λ y. put (number_after p (item_of y)) y) rear in
      ap (λ l. option_or (first_of l)
      (option_or (option_map (λ y. put (sum_of p.at (item_of y)) y) (first_of (found pick 0 fresh)))
      (option_map (λ y. put (number_after p (item_of y)) y)
      (first_of (rear_of item_of (sum_of p.at p.removed) (found pick 0 old)))))) front_before
      ∙ ap (λ l. option_or (first_of front)
      (option_or (option_map (λ y. put (sum_of p.at (item_of y)) y) (first_of (found pick 0 fresh)))
      (option_map (λ y. put (number_after p (item_of y)) y) (first_of l)))) rear_behind
      ∙ ap (λ o. option_or (first_of front)
      (option_or o (option_map (λ y. put (number_after p (item_of y)) y) (first_of rear))))
      (sym (first_mapped (λ y. put (sum_of p.at (item_of y)) y) (found pick 0 fresh)))
      ∙ ap (λ o. option_or (first_of front) (option_or (first_of there) o))
      (sym (first_mapped (λ y. put (number_after p (item_of y)) y) rear))
      ∙ ap (option_or (first_of front)) (sym (first_joined there behind))
      ∙ sym (first_joined front (there ++ behind))
      ∙ ap (λ l. first_of (front ++ (l ++ behind))) (sym fresh_is)
      ∙ ap (λ l. first_of (front ++ (found pick p.at fresh ++ l))) (sym rear_is)
      ∙ ap first_of (sym after_edit)
