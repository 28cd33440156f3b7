-- What is planned is kept with its items, and the others stay.
use Rattle.std.proofs.Common.{◌≡◌, ℕ, zero, suc, ◌+◌, ◌<◌, nat_eq, Bool, true, false, cond, List, [], ◌∷◌}
use Rattle.std.proofs.Common.{◌++◌, length, drop, get_or, Option, None, Some, refl, sym, ap, subst, ◌∙◌}
use Rattle.std.proofs.Common.{append-nil, append_assoc, arith}
use Rattle.std.specs.Global.{Box}
use Rattle.std.specs.Option.{option_or}
use Rattle.std.specs.Prelude.{slice_get, slice_set}
use Rattle.std.proofs.lemmas.Bool.{eq-eqb, eqb-true, ne_eqb, true≢false}
use Rattle.std.proofs.lemmas.Option.{same_Some, slice_get_within}
use Rattle.std.proofs.lemmas.List.{length-map}
use Rattle.x_lists.proofs.ListLemmas.{drop_one}
use Rattle.x_cutting.specs.ItemList as items
use Rattle.x_cutting.specs.declared.cutting.item_entry.ItemEntry.{ItemEntry}
use Rattle.x_rules.specs.declared.fault.WordFault.{WordFault}
use Rattle.x_pieces.specs.Pieces.{Pieces}
use Rattle.x_compile.specs.Checking.{AreRendered, IsKnownAt, IsSound, sound_pieces}
use Rattle.x_compile.specs.Compile.{parsed_definition}
use Rattle.x_compile.specs.Counting.{faults_found, faults_with, own_faults}
use Rattle.x_compile.specs.KeptView.{AreWith, IsWith, IsWithAt, found_pieces, found_result, kept_definition}
use Rattle.x_compile.specs.KeptView.{kept_found, pieces_behind, renewed_pieces}
use Rattle.x_follow.specs.Planned.{ArePlanned, IsPlannedOf, overlaid, planned_at}
use Rattle.x_compile.specs.declared.content.CheckResult.{CheckResult}
use Rattle.x_compile.specs.declared.content.Content.{Content}
use Rattle.x_follow.specs.declared.planned.PlannedResult.{PlannedResult}

-- ---- an item that keeps what it has

stays : (had : Option Pieces) (fs : List WordFault) → pieces_behind had had fs ≡ had
stays (Some p) fs = refl
stays None [] = refl
stays None (f ∷ fs) = refl

pub renewed_own : (r : Option (Box CheckResult)) → renewed_pieces (found_pieces r) r ≡ found_pieces r
renewed_own None = refl
renewed_own (Some found) = stays found.value.pieces found.value.checked.faults

with_own : (e : ItemEntry Content) → IsWith e (kept_found e.kept) e
with_own e = record {
  tokens = refl;
  bytes = refl;
  parse = refl;
  lines = refl;
  result = refl;
  pieces = sym (renewed_own (kept_found e.kept));
  marked = λ m. m;
}

pub with_none : (n : ℕ) (es : List (ItemEntry Content)) → AreWith es (overlaid n (items.kept es) []) es
with_none n [] = tt
with_none n (e ∷ es) = (with_own e, with_none (suc n) es)

-- ---- one item more has what is planned for it

with_twice : (e old item : ItemEntry Content) (r : Option (Box CheckResult))
    → IsWith e (kept_found e.kept) old → IsWith old r item → IsWith e r item
with_twice e old item r a b = record {
  tokens = b.tokens ∙ a.tokens;
  bytes = b.bytes ∙ a.bytes;
  parse = b.parse ∙ a.parse;
  lines = b.lines ∙ a.lines;
  result = b.result;
  pieces = b.pieces ∙ ap (λ h. renewed_pieces h r) (a.pieces ∙ renewed_own (kept_found e.kept));
  marked = λ m. b.marked (a.marked m);
}

with_set : (es : List (ItemEntry Content)) (rs : List (Option (Box CheckResult)))
    (fs : List (ItemEntry Content)) (n : ℕ) (old item : ItemEntry Content) (r : Option (Box CheckResult))
    → AreWith es rs fs → slice_get fs n ≡ Some old → IsWith old r item
    → ((e : ItemEntry Content) → slice_get es n ≡ Some e → slice_get rs n ≡ Some (kept_found e.kept))
    → AreWith es (slice_set rs n r) (slice_set fs n item)
with_set [] [] [] n old item r with is put own = absurd (cc)
with_set (e ∷ es) (q ∷ rs) (f ∷ fs) zero old item r with is put own =
    let was : f ≡ old = same_Some f old is in
    let had : q ≡ kept_found e.kept = same_Some q (kept_found e.kept) (own e refl) in
    (with_twice e old item r (subst (λ h. IsWith e h old) had (subst (IsWith e q) was with.0)) put, with.1)
with_set (e ∷ es) (q ∷ rs) (f ∷ fs) (suc n) old item r with is put own =
    (with.0, with_set es rs fs n old item r with.1 is put own)
with_set [] [] (f ∷ fs) n old item r with is put own = absurd with
with_set [] (q ∷ rs) fs n old item r with is put own = absurd with
with_set (e ∷ es) [] fs n old item r with is put own = absurd with
with_set (e ∷ es) (q ∷ rs) [] n old item r with is put own = absurd with

overlaid_skip : (m : ℕ) (ks : List Content) (p : PlannedResult) (ps : List PlannedResult) → p.item < m
    → overlaid m ks (p ∷ ps) ≡ overlaid m ks ps
overlaid_skip m [] p ps lt = refl
overlaid_skip m (k ∷ ks) p ps lt =
    let other : nat_eq m p.item ≡ false = ne_eqb m p.item (λ same. omega (arith, same, lt)) in
    let rest = overlaid_skip (suc m) ks p ps (omega (arith, lt)) in
    λ i. option_or (cond (other i) (Some p.found) (planned_at m ps)) (kept_found k) ∷ rest i

overlaid_set : (m j : ℕ) (ks : List Content) (p : PlannedResult) (ps : List PlannedResult) → p.item ≡ m + j
    → j < length ks → overlaid m ks (p ∷ ps) ≡ slice_set (overlaid m ks ps) j (Some p.found)
overlaid_set m j [] p ps at lt = absurd (omega (arith, lt))
overlaid_set m zero (k ∷ ks) p ps at lt =
    let here : nat_eq m p.item ≡ true = eq-eqb m p.item (omega (arith, at)) in
    let rest = overlaid_skip (suc m) ks p ps (omega (arith, at)) in
    λ i. option_or (cond (here i) (Some p.found) (planned_at m ps)) (kept_found k) ∷ rest i
overlaid_set m (suc j) (k ∷ ks) p ps at lt =
    let other : nat_eq m p.item ≡ false = ne_eqb m p.item (λ same. omega (arith, same, at)) in
    let rest = overlaid_set (suc m) j ks p ps (omega (arith, at)) (omega (arith, lt)) in
    λ i. option_or (cond (other i) (Some p.found) (planned_at m ps)) (kept_found k) ∷ rest i

-- of the first items
overlaid_first : (n : ℕ) (ks : List Content) (p : PlannedResult) (ps : List PlannedResult) → p.item ≡ n
    → n < length ks → overlaid 0 ks (p ∷ ps) ≡ slice_set (overlaid 0 ks ps) n (Some p.found)
overlaid_first n ks p ps at lt = overlaid_set 0 n ks p ps (omega (arith, at)) lt

pub overlaid_get : (m j : ℕ) (ks : List Content) (ps : List PlannedResult) (k : Content) → slice_get ks j
    ≡ Some k → slice_get (overlaid m ks ps) j ≡ Some (option_or (planned_at (m + j) ps) (kept_found k))
overlaid_get m j [] ps k is = absurd (cc)
overlaid_get m zero (x ∷ ks) ps k is =
    let same : x ≡ k = same_Some x k is in
    let n : m ≡ m + 0 = omega arith in
    λ i. Some (option_or (planned_at (n i) ps) (kept_found (same i)))
overlaid_get m (suc j) (x ∷ ks) ps k is =
    let n : suc m + j ≡ m + suc j = omega arith in
    overlaid_get (suc m) j ks ps k is ∙ ap (λ a. Some (option_or (planned_at a ps) (kept_found k))) n

-- an item for which nothing is planned keeps what it has
own_left : (n : ℕ) (ks : List Content) (ps : List PlannedResult) (k : Content) → slice_get ks n ≡ Some k
    → planned_at n ps ≡ None → slice_get (overlaid 0 ks ps) n ≡ Some (kept_found k)
own_left n ks ps k is none =
    let zero_on : 0 + n ≡ n = omega arith in
    overlaid_get 0 n ks ps k is
    ∙ ap (λ o. Some (option_or o (kept_found k))) (ap (λ a. planned_at a ps) zero_on ∙ none)

kept_at : (es : List (ItemEntry Content)) (n : ℕ) (e : ItemEntry Content) → slice_get es n ≡ Some e
    → slice_get (items.kept es) n ≡ Some e.kept
kept_at [] n e is = absurd (cc)
kept_at (x ∷ es) zero e is =
    let same : x ≡ e = same_Some x e is in ap (λ (y : ItemEntry Content). Some y.kept) same
kept_at (x ∷ es) (suc n) e is = kept_at es n e is

-- ---- from the first to the last

-- the first of what is planned is done, and this is left
pub record ArePut (olds : List (ItemEntry Content)) (all : List PlannedResult)
    (news : List (ItemEntry Content)) (left : List PlannedResult) : Type 0 where
  pub done : List PlannedResult
  pub all_are : all ≡ done ++ left
  pub with : AreWith olds (overlaid 0 (items.kept olds) done) news

pub put_none : (olds : List (ItemEntry Content)) (all left : List PlannedResult) → left ≡ all
    → ArePut olds all olds left
put_none olds all left same = record {
  done = [];
  all_are = sym same;
  with = with_none 0 olds;
}

planned_among : (ks : List Content) (done left : List PlannedResult) (p : PlannedResult)
    → ArePlanned ks (done ++ p ∷ left) → IsPlannedOf ks p
planned_among ks [] left p are = are.0
planned_among ks (d ∷ done) left p are = planned_among ks done left p are.2

-- what has nothing planned among these is another than each of them
other_number : (n : ℕ) (done left : List PlannedResult) (p : PlannedResult)
    → planned_at n (done ++ p ∷ left) ≡ None → nat_eq n p.item ≡ false
other_number n [] left p none = by (nat_eq n p.item) refl none
  where
    by : (b : Bool) → nat_eq n p.item ≡ b → cond b (Some p.found) (planned_at n left) ≡ None
        → nat_eq n p.item ≡ false
    by true e h = absurd (cc)
    by false e h = e
other_number n (d ∷ done) left p none = by (λ h. other_number n done left p h) (nat_eq n d.item) none
  where
    by : (planned_at n (done ++ p ∷ left) ≡ None → nat_eq n p.item ≡ false) → (b : Bool)
        → cond b (Some d.found) (planned_at n (done ++ p ∷ left)) ≡ None → nat_eq n p.item ≡ false
    by rest true h = absurd (cc)
    by rest false h = rest h

-- nothing was planned before for what comes next
none_before : (ks : List Content) (done left : List PlannedResult) (p : PlannedResult)
    → ArePlanned ks (done ++ p ∷ left) → planned_at p.item done ≡ None
none_before ks [] left p are = refl
none_before ks (d ∷ done) left p are =
    let other = other_number d.item done left p are.1 in
    let turned : nat_eq p.item d.item ≡ false =
    ne_eqb p.item d.item (λ same. absurd (true≢false (sym (eq-eqb d.item p.item (sym same)) ∙ other))) in
    ap (λ b. cond b (Some d.found) (planned_at p.item done)) turned ∙ none_before ks done left p are.2

planned_last : (n : ℕ) (ps : List PlannedResult) (p : PlannedResult)
    → planned_at n (ps ++ p ∷ []) ≡ option_or (planned_at n ps) (cond (nat_eq n p.item) (Some p.found) None)
planned_last n [] p = refl
planned_last n (q ∷ ps) p = by (planned_last n ps p) (nat_eq n q.item)
  where
    by : planned_at n (ps ++ p ∷ [])
        ≡ option_or (planned_at n ps) (cond (nat_eq n p.item) (Some p.found) None)
        → (b : Bool) → cond b (Some q.found) (planned_at n (ps ++ p ∷ []))
        ≡ option_or (cond b (Some q.found) (planned_at n ps)) (cond (nat_eq n p.item) (Some p.found) None)
    by rest true = refl
    by rest false = rest

or_none : {X : Type 0} (o : Option X) → option_or o None ≡ o
or_none None = refl
or_none (Some x) = refl

last_skip : (m : ℕ) (ks : List Content) (ps : List PlannedResult) (p : PlannedResult) → p.item < m
    → overlaid m ks (ps ++ p ∷ []) ≡ overlaid m ks ps
last_skip m [] ps p lt = refl
last_skip m (k ∷ ks) ps p lt =
    let other : nat_eq m p.item ≡ false = ne_eqb m p.item (λ same. omega (arith, same, lt)) in
    let here = planned_last m ps p ∙ ap (λ b. option_or (planned_at m ps) (cond b (Some p.found) None)) other
    ∙ or_none (planned_at m ps) in
    let rest = last_skip (suc m) ks ps p (omega (arith, lt)) in
    λ i. option_or (here i) (kept_found k) ∷ rest i

last_set : (m j : ℕ) (ks : List Content) (ps : List PlannedResult) (p : PlannedResult) → p.item ≡ m + j
    → j < length ks → planned_at p.item ps ≡ None
    → overlaid m ks (ps ++ p ∷ []) ≡ slice_set (overlaid m ks ps) j (Some p.found)
last_set m j [] ps p at lt none = absurd (omega (arith, lt))
last_set m zero (k ∷ ks) ps p at lt none =
    let same : p.item ≡ m = omega (arith, at) in
    let here : nat_eq m p.item ≡ true = eq-eqb m p.item (sym same) in
    let alone : planned_at m (ps ++ p ∷ []) ≡ Some p.found =
    planned_last m ps p ∙ ap (λ o. option_or o (cond (nat_eq m p.item) (Some p.found) None))
    (ap (λ n. planned_at n ps) (sym same) ∙ none) ∙ ap (λ b. cond b (Some p.found) None) here in
    let rest = last_skip (suc m) ks ps p (omega (arith, at)) in
    λ i. option_or (alone i) (kept_found k) ∷ rest i
last_set m (suc j) (k ∷ ks) ps p at lt none =
    let other : nat_eq m p.item ≡ false = ne_eqb m p.item (λ same. omega (arith, same, at)) in
    let here = planned_last m ps p ∙ ap (λ b. option_or (planned_at m ps) (cond b (Some p.found) None)) other
    ∙ or_none (planned_at m ps) in
    let rest = last_set (suc m) j ks ps p (omega (arith, at)) (omega (arith, lt)) none in
    λ i. option_or (here i) (kept_found k) ∷ rest i

with_long : (es : List (ItemEntry Content)) (rs : List (Option (Box CheckResult)))
    (fs : List (ItemEntry Content)) → AreWith es rs fs → length fs ≡ length es
with_long [] [] [] with = refl
with_long (e ∷ es) (r ∷ rs) (f ∷ fs) with = ap suc (with_long es rs fs with.1)
with_long [] [] (f ∷ fs) with = absurd with
with_long [] (r ∷ rs) fs with = absurd with
with_long (e ∷ es) [] fs with = absurd with
with_long (e ∷ es) (r ∷ rs) [] with = absurd with

with_definition : (es : List (ItemEntry Content)) (rs : List (Option (Box CheckResult)))
    (fs : List (ItemEntry Content)) (n : ℕ) (k j : Content) → AreWith es rs fs → slice_get (items.kept es) n
    ≡ Some k → slice_get (items.kept fs) n ≡ Some j → kept_definition j ≡ kept_definition k
with_definition [] [] [] n k j with a b = absurd (cc)
with_definition (e ∷ es) (r ∷ rs) (f ∷ fs) zero k j with a b =
    let old : e.kept ≡ k = same_Some e.kept k a in
    let new : f.kept ≡ j = same_Some f.kept j b in
    ap kept_definition (sym new) ∙ ap parsed_definition with.0.parse ∙ ap kept_definition old
with_definition (e ∷ es) (r ∷ rs) (f ∷ fs) (suc n) k j with a b = with_definition es rs fs n k j with.1 a b
with_definition [] [] (f ∷ fs) n k j with a b = absurd with
with_definition [] (r ∷ rs) fs n k j with a b = absurd with
with_definition (e ∷ es) [] fs n k j with a b = absurd with
with_definition (e ∷ es) (r ∷ rs) [] n k j with a b = absurd with

-- what comes next, among all that is planned
next_of : (olds : List (ItemEntry Content)) (all : List PlannedResult) (news : List (ItemEntry Content))
    (left : List PlannedResult) (p : PlannedResult) (h : ArePut olds all news (p ∷ left))
    → ArePlanned (items.kept olds) all
    → IsPlannedOf (items.kept olds) p × (planned_at p.item h.done ≡ None)
next_of olds all news left p h are =
    let there = subst (ArePlanned (items.kept olds)) h.all_are are in
    (planned_among (items.kept olds) h.done left p there, none_before (items.kept olds) h.done left p there)

pub put_within : (olds : List (ItemEntry Content)) (all : List PlannedResult)
    (news : List (ItemEntry Content)) (left : List PlannedResult) (p : PlannedResult)
    → ArePut olds all news (p ∷ left) → ArePlanned (items.kept olds) all → p.item < length news
put_within olds all news left p h are =
    let next = next_of olds all news left p h are in
    let lt = slice_get_within (items.kept olds) p.item next.0.item next.0.at in
    let l = length-map olds (λ e. e.kept) in
    let m = with_long olds (overlaid 0 (items.kept olds) h.done) news h.with in
    omega (arith, lt, l, m)

pub put_known : (olds : List (ItemEntry Content)) (all : List PlannedResult) (news : List (ItemEntry Content))
    (left : List PlannedResult) (p : PlannedResult) → ArePut olds all news (p ∷ left)
    → ArePlanned (items.kept olds) all → IsKnownAt (items.kept news) p.item (Some p.found)
put_known olds all news left p h are k is none =
    let next = next_of olds all news left p h are in
    absurd (next.0.defined
    (sym (with_definition olds (overlaid 0 (items.kept olds) h.done) news p.item next.0.item k h.with
    next.0.at is) ∙ none))

pub put_more : (olds : List (ItemEntry Content)) (all : List PlannedResult)
    (news next : List (ItemEntry Content)) (left : List PlannedResult) (p : PlannedResult)
    → ArePut olds all news (p ∷ left) → ArePlanned (items.kept olds) all
    → IsWithAt news p.item (Some p.found) next
    → ArePut olds all next left
put_more olds all news next left p h are put =
    let ks = items.kept olds in
    let here = next_of olds all news left p h are in
    let lt = slice_get_within ks p.item here.0.item here.0.at in
    let set : overlaid 0 ks (h.done ++ p ∷ []) ≡ slice_set (overlaid 0 ks h.done) p.item (Some p.found) =
    last_set 0 p.item ks h.done p (omega arith) lt here.1 in
    let own = λ (e : ItemEntry Content) (is : slice_get olds p.item ≡ Some e).
    own_left p.item ks h.done e.kept (kept_at olds p.item e is) here.1 in
    record {
      done = h.done ++ p ∷ [];
      all_are = h.all_are ∙ sym (append_assoc h.done (p ∷ []) left);
      with = subst (λ rs. AreWith olds rs next) (sym set)
          (subst (AreWith olds (slice_set (overlaid 0 ks h.done) p.item (Some p.found))) (sym put.put)
          (with_set olds (overlaid 0 ks h.done) news p.item put.old put.item (Some p.found) h.with put.was
          put.with own));
    }

pub put_all : (olds : List (ItemEntry Content)) (all : List PlannedResult) (news : List (ItemEntry Content))
    (left : List PlannedResult) → left ≡ [] → ArePut olds all news left
    → AreWith olds (overlaid 0 (items.kept olds) all) news
put_all olds all news left none h =
    let done : h.done ≡ all = sym (append-nil h.done) ∙ sym (ap (λ l. h.done ++ l) none) ∙ sym h.all_are in
    subst (λ l. AreWith olds (overlaid 0 (items.kept olds) l) news) done h.with

-- ---- what is planned for a number

pub planned_of : (ks : List Content) (ps : List PlannedResult) (n : ℕ) (f : Box CheckResult)
    → ArePlanned ks ps → planned_at n ps ≡ Some f
    → (p : PlannedResult) × IsPlannedOf ks p × (p.item ≡ n) × (p.found ≡ f)
planned_of ks [] n f are is = absurd (cc)
planned_of ks (p ∷ ps) n f are is = by (λ h. planned_of ks ps n f are.2 h) (nat_eq n p.item) refl is
  where
    by : (planned_at n ps ≡ Some f → (q : PlannedResult) × IsPlannedOf ks q × (q.item ≡ n) × (q.found ≡ f))
        → (b : Bool) → nat_eq n p.item ≡ b → cond b (Some p.found) (planned_at n ps) ≡ Some f
        → (q : PlannedResult) × IsPlannedOf ks q × (q.item ≡ n) × (q.found ≡ f)
    by later true e h = (p, are.0, sym (eqb-true n p.item e), same_Some p.found f h)
    by later false e h = later h

-- ---- what is generated of them

-- the item has what it should, with what is planned for it, or else with what it has
abbrev pub IsMadeAt : List PlannedResult → ℕ → Content → Type 0
IsMadeAt ps n k =
    let r = option_or (planned_at n ps) (kept_found k) in
    renewed_pieces (found_pieces (kept_found k)) r ≡ sound_pieces (kept_definition k) (found_result r)

rendered_from : (m : ℕ) (ks : List Content) (ps : List PlannedResult)
    → ((j : ℕ) (k : Content) → slice_get ks j ≡ Some k → IsMadeAt ps (m + j) k)
    → AreRendered ks (overlaid m ks ps)
rendered_from m [] ps each = tt
rendered_from m (k ∷ ks) ps each =
    let here : m + 0 ≡ m = omega arith in
    let next = λ (j : ℕ) (x : Content) (is : slice_get ks j ≡ Some x).
    let n : m + suc j ≡ suc m + j = omega arith in subst (λ a. IsMadeAt ps a x) n (each (suc j) x is) in
    (subst (λ a. IsMadeAt ps a k) here (each 0 k refl), rendered_from (suc m) ks ps next)

made_by : (ks : List Content) (ps : List PlannedResult) (n : ℕ) (k : Content) (o : Option (Box CheckResult))
    → planned_at n ps ≡ o → ArePlanned ks ps → slice_get ks n ≡ Some k → (planned_at n ps ≡ None → IsSound k)
    → renewed_pieces (found_pieces (kept_found k)) (option_or o (kept_found k))
    ≡ sound_pieces (kept_definition k) (found_result (option_or o (kept_found k)))
made_by ks ps n k None is are at sound = renewed_own (kept_found k) ∙ sound is
made_by ks ps n k (Some f) is are at sound =
    let h = planned_of ks ps n f are is in
    let p = h.0 in
    let here : h.1.item ≡ k = same_Some h.1.item k (sym h.1.at ∙ ap (slice_get ks) h.2 ∙ at) in
    subst (λ x. renewed_pieces (found_pieces (kept_found k)) (Some x)
    ≡ sound_pieces (kept_definition k) (found_result (Some x))) h.3
    (subst (λ x. renewed_pieces (found_pieces (kept_found x)) (Some p.found)
    ≡ sound_pieces (kept_definition x) (found_result (Some p.found))) here h.1.rendered)

pub rendered_planned : (ks : List Content) (ps : List PlannedResult) → ArePlanned ks ps
    → ((n : ℕ) (k : Content) → slice_get ks n ≡ Some k → planned_at n ps ≡ None → IsSound k)
    → AreRendered ks (overlaid 0 ks ps)
rendered_planned ks ps are sound =
    rendered_from 0 ks ps (λ j k is.
    let n : 0 + j ≡ j = omega arith in
    subst (λ a. IsMadeAt ps a k) (sym n) (made_by ks ps j k (planned_at j ps) refl are is (sound j k is)))

-- ---- how many faults they have

faults_set : (ks : List Content) (rs : List (Option (Box CheckResult))) (n : ℕ) (k : Content)
    (q r : Option (Box CheckResult)) → slice_get ks n ≡ Some k → slice_get rs n ≡ Some q
    → faults_found ks (slice_set rs n r) + faults_with k q ≡ faults_found ks rs + faults_with k r
faults_set [] rs n k q r is had = absurd (cc)
faults_set (x ∷ ks) [] n k q r is had = absurd (cc)
faults_set (x ∷ ks) (p ∷ rs) zero k q r is had =
    let same : x ≡ k = same_Some x k is in
    let old : p ≡ q = same_Some p q had in
    let a : faults_with x r ≡ faults_with k r = ap (λ y. faults_with y r) same in
    let b : faults_with x p ≡ faults_with k q = λ i. faults_with (same i) (old i) in
    omega (arith, a, b)
faults_set (x ∷ ks) (p ∷ rs) (suc n) k q r is had =
    let rest = faults_set ks rs n k q r is had in omega (arith, rest)

-- nothing planned, each has its own
pub faults_own : (n : ℕ) (ks : List Content) → faults_found ks (overlaid n ks []) ≡ own_faults ks
faults_own n [] = refl
faults_own n (k ∷ ks) = ap (λ m. faults_with k (kept_found k) + m) (faults_own (suc n) ks)

-- one more of what is planned
pub faults_planned : (ks : List Content) (p : PlannedResult) (ps : List PlannedResult) (k : Content)
    → slice_get ks p.item ≡ Some k → planned_at p.item ps ≡ None
    → faults_found ks (overlaid 0 ks (p ∷ ps)) + faults_with k (kept_found k)
    ≡ faults_found ks (overlaid 0 ks ps) + faults_with k (Some p.found)
faults_planned ks p ps k is none =
    let lt = slice_get_within ks p.item k is in
    ap (λ rs. faults_found ks rs + faults_with k (kept_found k)) (overlaid_first p.item ks p ps refl lt)
    ∙ faults_set ks (overlaid 0 ks ps) p.item k (kept_found k) (Some p.found) is
    (own_left p.item ks ps k is none)

-- ---- from one of those that are planned on

planned_drop : (ks : List Content) (ps : List PlannedResult) (n : ℕ) → ArePlanned ks ps
    → ArePlanned ks (drop n ps)
planned_drop ks ps zero are = are
planned_drop ks [] (suc n) are = tt
planned_drop ks (p ∷ ps) (suc n) are = planned_drop ks ps n are.2

-- the one at an index, and those behind it
pub record IsPlannedAt (ks : List Content) (all : List PlannedResult) (n : ℕ) (p : PlannedResult) : Type 0
  where
    pub split : drop n all ≡ p ∷ drop (n + 1) all
    pub are : ArePlanned ks (p ∷ drop (n + 1) all)

pub planned_here : (ks : List Content) (all : List PlannedResult) (n : ℕ) (p : PlannedResult)
    → ArePlanned ks all → n < length all → p ≡ get_or all n p → IsPlannedAt ks all n p
planned_here ks all n p are lt is =
    let split : drop n all ≡ p ∷ drop (n + 1) all = drop_one all n p lt
    ∙ ap (λ x. x ∷ drop (n + 1) all) (sym is) in
    record { split = split; are = subst (ArePlanned ks) split (planned_drop ks all n are) }

pub planned_within : (ks : List Content) (all : List PlannedResult) (n : ℕ) (p : PlannedResult)
    → IsPlannedAt ks all n p → p.item < length ks
planned_within ks all n p h = slice_get_within ks p.item h.are.0.item h.are.0.at

pub not_planned : (ks : List Content) (all : List PlannedResult) (n : ℕ) (p : PlannedResult)
    → IsPlannedAt ks all n p → slice_get ks p.item ≡ None → ⊥
not_planned ks all n p h none = no (sym h.are.0.at ∙ none)
  where
    no : Some h.are.0.item ≡ None → ⊥
    no e = cc

-- the faults with one more of what is planned
pub planned_more : (ks : List Content) (all : List PlannedResult) (n count before : ℕ) (p : PlannedResult)
    (k : Content) → IsPlannedAt ks all n p → slice_get ks p.item ≡ Some k → before ≡ n + 1
    → count ≡ faults_found ks (overlaid 0 ks (drop before all))
    → faults_found ks (overlaid 0 ks (drop n all)) + faults_with k (kept_found k)
    ≡ count + faults_with k (Some p.found)
planned_more ks all n count before p k h is next was =
    let more = faults_planned ks p (drop (n + 1) all) k is h.are.1 in
    let so = was ∙ ap (λ m. faults_found ks (overlaid 0 ks (drop m all))) next in
    let split = ap (λ l. faults_found ks (overlaid 0 ks l)) h.split in
    omega (arith, more, so, split)
