-- A walk from item to item.
use Rattle.std.proofs.Common.{◌≡◌, ℕ, ◌+◌, ◌<◌, ◌≤◌, Bool, true, false, cond, Option, List}
use Rattle.std.proofs.Common.{[], ◌∷◌, ◌++◌, ◌⊎◌, inl, inr, length, get_or, set, append-nil, append_assoc}
use Rattle.std.proofs.Common.{arith, sym, ap, subst, ◌∙◌}
use Rattle.std.specs.Prelude.{All, Contains, not}
use Rattle.std.specs.List.{count_by}
use Rattle.std.proofs.lemmas.Bool.Decides.{eqb_tells}
use Rattle.std.proofs.Math.ListN.{get_or-append, get_or-eq_default}
use Rattle.std.proofs.lemmas.List.{get_or-set_other, get_or-set_same, get_or_default, length-append}
use Rattle.std.proofs.lemmas.List.{length-set}
use Rattle.std.proofs.lemmas.List.Elements.{All-append, All-contains, All-contains_itself, All-get_or}
use Rattle.std.proofs.lemmas.List.Elements.{All-head}
use Rattle.std.proofs.lemmas.List.Elements.{All-nil, All-push, All-weaker, Contains-append_left}
use Rattle.std.proofs.lemmas.List.Elements.{Contains-append_right, Contains-get_or, Contains-push}
use Rattle.std.proofs.lemmas.List.Elements.{Contains-push_cases}
use Rattle.std.proofs.lemmas.Option.{slice_get_cases}
use Rattle.x_text.proofs.Cases.{false_true}
use Rattle.std.proofs.lemmas.List.Sums.{sum_by-set}
use Rattle.x_trees.specs.Tree.{Definition}
use Rattle.x_prelude.specs.Leading.{AreLed, LeadsTo, used_by}
use Rattle.x_prelude.specs.Leading.LeadsTo.{itself, goes_on}
use Rattle.x_prelude.specs.Reaching.{AreReached, GoesOnTo, is_marked}
use Rattle.x_prelude.specs.declared.leading.Reached.{Reached}

-- ---- one item more

-- what is marked, with one more
marked_now : (marks : List Bool) (item i : ℕ) → item < length marks
    → is_marked (set marks item true) i ≡ true → (i ≡ item) ⊎ (is_marked marks i ≡ true)
marked_now marks item i within is = elim (eqb_tells i item) [
  | inl same ↦ inl same.1
  | inr other ↦ inr (sym (get_or-set_other marks item i true false other.1) ∙ is)
]

still_marked : (marks : List Bool) (item i : ℕ) → item < length marks → is_marked marks i ≡ true
    → is_marked (set marks item true) i ≡ true
still_marked marks item i within is = elim (eqb_tells i item) [
  | inl same ↦ subst (λ k. is_marked (set marks item true) k ≡ true) (sym same.1)
      (get_or-set_same marks item true false within)
  | inr other ↦ get_or-set_other marks item i true false other.1 ∙ is
]

unmarked_fewer : (marks : List Bool) (item : ℕ) → item < length marks → is_marked marks item ≡ false
    → count_by not (set marks item true) + 1 ≡ count_by not marks
unmarked_fewer marks item within free =
    let moved : count_by not (set marks item true) + cond (not (get_or marks item false)) 1 0
    ≡ count_by not marks + 0 =
    sum_by-set (λ b. cond (not b) 1 0) marks item true false within in
    let one : ◌≡◌ {A = ℕ} (cond (not (get_or marks item false)) 1 0) 1 = ap (λ b. cond (not b) 1 0) free in
    omega (arith, moved, one)

pub one_more : (count item : ℕ) (old new : Reached) → item < length old.marks.items
    → is_marked old.marks.items item ≡ false → new.marks.items ≡ set old.marks.items item true
    → new.order.items ≡ old.order.items ++ item ∷ [] → AreReached count old
    → GoesOnTo (item ∷ []) count old new
one_more count item old new within free marks_are order_is h =
    let marks = old.marks.items in
    let order = old.order.items in
    let behind = order ++ item ∷ [] in
    let counted : length (set marks item true) ≡ count = length-set marks item true ∙ h.counted in
    let listed : (i : ℕ) → is_marked (set marks item true) i ≡ true → Contains behind i = λ i is.
    elim (marked_now marks item i within is) [
      | inl same ↦ subst (Contains behind) (sym same) (Contains-push order item)
      | inr before ↦ Contains-append_left order (item ∷ []) i (h.listed i before)
    ] in
    let marked : All (λ i. is_marked (set marks item true) i ≡ true) behind =
    All-push (λ i. is_marked (set marks item true) i ≡ true) order item
    (All-weaker (λ i. is_marked marks i ≡ true) (λ i. is_marked (set marks item true) i ≡ true)
    (λ i is. still_marked marks item i within is) order h.marked)
    (get_or-set_same marks item true false within) in
    let longer : length behind ≡ length order + 1 = length-append order (item ∷ []) in
    let fewer = unmarked_fewer marks item within free in
    let room : length behind + count_by not (set marks item true) ≡ count =
    omega (arith, longer, fewer, h.room) in
    record {
      more = item ∷ [];
      order_is = order_is;
      only = All-contains_itself (item ∷ []);
      all = All-push (Contains new.order.items) [] item (All-nil (Contains new.order.items))
          (subst (λ is. Contains is item) (sym order_is) (Contains-push order item));
      reached = record {
        counted = subst (λ ms. length ms ≡ count) (sym marks_are) counted;
        listed = subst (λ ms. (i : ℕ) → is_marked ms i ≡ true → Contains new.order.items i) (sym marks_are)
            (subst (λ is. (i : ℕ) → is_marked (set marks item true) i ≡ true → Contains is i) (sym order_is)
            listed);
        marked = subst (λ ms. All (λ i. is_marked ms i ≡ true) new.order.items) (sym marks_are)
            (subst (All (λ i. is_marked (set marks item true) i ≡ true)) (sym order_is) marked);
        room = subst (λ ms. length new.order.items + count_by not ms ≡ count) (sym marks_are)
            (subst (λ is. length is + count_by not (set marks item true) ≡ count) (sym order_is) room);
      };
    }

-- an item that was reached before
pub none_more : (count item : ℕ) (r : Reached) → is_marked r.marks.items item ≡ true → AreReached count r
    → GoesOnTo (item ∷ []) count r r
none_more count item r is h = record {
  more = [];
  order_is = sym (append-nil r.order.items);
  only = All-nil (Contains (item ∷ []));
  all = All-push (Contains r.order.items) [] item (All-nil (Contains r.order.items)) (h.listed item is);
  reached = h;
}

-- ---- items one after another

pub nothing_on : (count : ℕ) (r : Reached) → AreReached count r → GoesOnTo [] count r r
nothing_on count r h = record {
  more = [];
  order_is = sym (append-nil r.order.items);
  only = All-nil (Contains []);
  all = All-nil (Contains r.order.items);
  reached = h;
}

pub both_on : (count : ℕ) (xs ys : List ℕ) (a b c : Reached) → GoesOnTo xs count a b → GoesOnTo ys count b c
    → GoesOnTo (xs ++ ys) count a c
both_on count xs ys a b c h k = record {
  more = h.more ++ k.more;
  order_is = k.order_is ∙ ap (λ is. is ++ k.more) h.order_is ∙ append_assoc a.order.items h.more k.more;
  only = All-append (Contains (xs ++ ys)) h.more k.more
      (All-weaker (Contains xs) (Contains (xs ++ ys)) (λ i. Contains-append_left xs ys i) h.more h.only)
      (All-weaker (Contains ys) (Contains (xs ++ ys)) (λ i. Contains-append_right xs ys i) k.more k.only);
  all = All-append (Contains c.order.items) xs ys
      (All-weaker (Contains b.order.items) (Contains c.order.items)
      (λ i at. subst (λ is. Contains is i) (sym k.order_is)
      (Contains-append_left b.order.items k.more i at)) xs h.all) k.all;
  reached = k.reached;
}

-- ---- the walk

-- Each item that was reached is led to, and what the first of them use was reached too.
pub record IsWalk (definitions : List (Option Definition)) (from count at : ℕ) (r : Reached) : Type 0 where
  pub reached : AreReached count r
  pub begins : Contains r.order.items from
  pub led : All (LeadsTo definitions from) r.order.items
  pub done : (k : ℕ) → k < at → k < length r.order.items
      → All (Contains r.order.items) (used_by definitions (get_or r.order.items k 0))

-- one item more is done
pub walk_more : (definitions : List (Option Definition)) (from count at item : ℕ) (old new : Reached)
    → at < length old.order.items → item ≡ get_or old.order.items at 0
    → GoesOnTo (used_by definitions item) count old new → IsWalk definitions from count at old
    → IsWalk definitions from count (at + 1) new
walk_more definitions from count at item old new within item_is on h =
    let order = old.order.items in
    let more = on.more in
    let kept : (i : ℕ) → Contains order i → Contains new.order.items i = λ i is.
    subst (λ is. Contains is i) (sym on.order_is) (Contains-append_left order more i is) in
    let here : LeadsTo definitions from item = All-contains (LeadsTo definitions from) order item h.led
    (subst (Contains order) (sym item_is) (Contains-get_or order at 0 within)) in
    record {
      reached = on.reached;
      begins = kept from h.begins;
      led = subst (All (LeadsTo definitions from)) (sym on.order_is)
          (All-append (LeadsTo definitions from) order more h.led
          (All-weaker (Contains (used_by definitions item)) (LeadsTo definitions from)
          (λ i is. goes_on here is) more on.only));
      done = λ k before inside. elim (eqb_tells k at) [
        | inl last ↦
            let same : get_or new.order.items k 0 ≡ item =
            ap (λ is. get_or is k 0) on.order_is ∙ ap (λ j. get_or (order ++ more) j 0) last.1
            ∙ get_or-append order more 0 at within ∙ sym item_is in
            subst (λ i. All (Contains new.order.items) (used_by definitions i)) (sym same) on.all
        | inr other ↦
            let earlier : k < at = omega (arith, before, other.1) in
            let early : k < length order = omega (arith, earlier, within) in
            let same : get_or new.order.items k 0 ≡ get_or order k 0 =
            ap (λ is. get_or is k 0) on.order_is ∙ get_or-append order more 0 k early in
            subst (λ i. All (Contains new.order.items) (used_by definitions i)) (sym same)
            (All-weaker (Contains order) (Contains new.order.items) kept
            (used_by definitions (get_or order k 0)) (h.done k earlier early))
      ];
    }

-- a walk that has done all that it reached has reached all that its first item leads to
pub walk_led : (definitions : List (Option Definition)) (from count at : ℕ) (r : Reached)
    → length r.order.items ≤ at → IsWalk definitions from count at r
    → AreLed definitions from (is_marked r.marks.items)
walk_led definitions from count at r all h = record {
  leads = λ item is. All-contains (LeadsTo definitions from) r.order.items item h.led
      (h.reached.listed item is);
  all = λ item to. marks item (reaches item to);
}
  where
    marks : (item : ℕ) → Contains r.order.items item → is_marked r.marks.items item ≡ true
    marks item at' = All-contains (λ i. is_marked r.marks.items i ≡ true) r.order.items item
        h.reached.marked at'

    closed : (via : ℕ) → Contains r.order.items via → All (Contains r.order.items) (used_by definitions via)
    closed via (k, within, is) =
        let there : get_or r.order.items k 0 ≡ via = get_or_default r.order.items k 0 via within ∙ is in
        subst (λ i. All (Contains r.order.items) (used_by definitions i)) there
        (h.done k (omega (arith, all, within)) within)

    reaches : (item : ℕ) → LeadsTo definitions from item → Contains r.order.items item
    reaches item itself = h.begins
    reaches item (goes_on {via} to used) =
        All-contains (Contains r.order.items) (used_by definitions via) item
        (closed via (reaches via to)) used

-- ---- where a walk begins and ends

pub walk_begins : (definitions : List (Option Definition)) (from count : ℕ) (old new : Reached)
    → old.order.items ≡ [] → GoesOnTo (from ∷ []) count old new → IsWalk definitions from count 0 new
walk_begins definitions from count old new none on =
    let order : new.order.items ≡ on.more = on.order_is ∙ ap (λ is. is ++ on.more) none in
    record {
      reached = on.reached;
      begins = All-head (Contains new.order.items) from [] on.all;
      led = subst (All (LeadsTo definitions from)) (sym order)
          (All-weaker (Contains (from ∷ [])) (LeadsTo definitions from) one on.more on.only);
      done = λ k before inside. absurd (omega (arith, before));
    }
  where
    one : (i : ℕ) → Contains (from ∷ []) i → LeadsTo definitions from i
    one i at = elim (Contains-push_cases [] from i at) [
      | inl none ↦ absurd (omega (arith, none.1))
      | inr same ↦ subst (LeadsTo definitions from) same itself
    ]

-- what was reached is one of so many items
marked_within : (marks : List Bool) (item : ℕ) → is_marked marks item ≡ true → item < length marks
marked_within marks item is = elim (slice_get_cases marks item).1 [
  | inl within ↦ within.1
  | inr past ↦ absurd (false_true (sym (get_or-eq_default marks false past.0) ∙ is))
]

pub order_within : (count : ℕ) (r : Reached) (index item : ℕ) → AreReached count r
    → index < length r.order.items → item ≡ get_or r.order.items index item → item < count
order_within count r index item h inside at =
    let marked : is_marked r.marks.items item ≡ true = subst (λ i. is_marked r.marks.items i ≡ true) (sym at)
    (All-get_or (λ i. is_marked r.marks.items i ≡ true) r.order.items index item inside h.marked) in
    let within = marked_within r.marks.items item marked in
    omega (arith, within, h.counted)

-- a walk over so many items has done all
pub all_done : (count : ℕ) (r : Reached) → AreReached count r → length r.order.items ≤ count
all_done count r h = omega (arith, h.room)
