-- Lists of numbers that ascend, and of what was found anew.
use Rattle.std.specs.Prelude.{nat_eq, slice_get}
use Rattle.std.specs.List.{IsAmong}
use Rattle.std.proofs.Common.{◌≡◌, ◌<◌, ◌≤◌, ◌⊎◌, inl, inr, ℕ, zero, suc, ◌+◌, Bool, true, false, cond, List}
use Rattle.std.proofs.Common.{[], ◌∷◌, ◌++◌, map, length, get_or, Result, Ok, Err, Option, Some, None, refl}
use Rattle.std.proofs.Common.{sym, ap, subst, ◌∙◌, arith}
use Rattle.std.proofs.lemmas.Bool.{eqb-true, eq-eqb, cases_lt}
use Rattle.std.proofs.lemmas.Bool.Decides.{nat_tests}
use Rattle.std.proofs.lemmas.Cmp.{nat_cmp_total}
use Rattle.std.proofs.lemmas.List.Sorted.{searchable_from_sorted}
use Rattle.std.proofs.lemmas.Option.{same_Some, slice_get-get_or, get_or_from_slice_get, slice_get_within}
use Rattle.std.specs.List.Sorted.{IsSortedBy, IsBinarySearchResult, IsPartitionPoint, IsSearchInRange}
use Rattle.std.specs.Ordering.{nat_cmp, is_lt}
use Rattle.std.specs.declared.cmp.Ordering.TheVariants.{Less, Equal, Greater}
use Rattle.x_rules.specs.Results.{Outcome}
use Rattle.x_trees.proofs.AmongLemmas.{among_first, among_same, among_more, among_cases, among_none}
use Rattle.x_trees.proofs.AmongLemmas.{among_front, among_rear, among_parts}
use Rattle.x_recheck.specs.Editing.{TextEdit}
use Rattle.x_recheck.specs.Staleness.{Ascending, AreStale, new_result}
use Rattle.x_recheck.specs.declared.rechecking.Rechecked.{Rechecked}

-- ---- numbers that ascend

ascending_above : (low : ℕ) (ks : List ℕ) (j : ℕ) → Ascending low ks → IsAmong ks j → low ≤ j
ascending_above low [] j up h = absurd (among_none j h)
ascending_above low (k ∷ ks) j up h =
    by (among_cases k j ks h) (λ more. ascending_above (suc k) ks j up.1 more)
  where
    by : (j ≡ k) ⊎ IsAmong ks j → (IsAmong ks j → suc k ≤ j) → low ≤ j
    by (inl e) more = let le = up.0 in omega (arith, e, le)
    by (inr h) more = let le = up.0 in let lt = more h in omega (arith, le, lt)

pub ascending_push : (low : ℕ) (ks : List ℕ) (n : ℕ) → Ascending low ks → low ≤ n
    → ((j : ℕ) → IsAmong ks j → j < n) → Ascending low (ks ++ n ∷ [])
ascending_push low [] n up le below = (le, tt)
ascending_push low (k ∷ ks) n up le below =
    let lt = below k (among_first k ks) in
    (up.0, ascending_push (suc k) ks n up.1 (omega (arith, lt)) (λ j h. below j (among_more k j ks h)))

-- the first of two lists with the same elements
same_first : (low : ℕ) (k l : ℕ) (ks ls : List ℕ) → Ascending low (l ∷ ls) → IsAmong (l ∷ ls) k → l ≤ k
same_first low k l ks ls up h = by (among_cases l k ls h)
  where
    by : (k ≡ l) ⊎ IsAmong ls k → l ≤ k
    by (inl e) = omega (arith, e)
    by (inr h) = let lt = ascending_above (suc l) ls k up.1 h in omega (arith, lt)

-- what is among the others of one list is among those of the other
others : (low : ℕ) (k j : ℕ) (ks ls : List ℕ) → Ascending low (k ∷ ks) → IsAmong ks j
    → (IsAmong (k ∷ ks) j → IsAmong (k ∷ ls) j) → IsAmong ls j
others low k j ks ls up h from = by (among_cases k j ls (from (among_more k j ks h)))
  where
    by : (j ≡ k) ⊎ IsAmong ls j → IsAmong ls j
    by (inl e) = let lt = ascending_above (suc k) ks j up.1 h in absurd (omega (arith, e, lt))
    by (inr h) = h

-- there is one list of these elements that ascends
pub one_ascending : (low : ℕ) (ks ls : List ℕ) → Ascending low ks → Ascending low ls
    → ((j : ℕ) → IsAmong ks j → IsAmong ls j) → ((j : ℕ) → IsAmong ls j → IsAmong ks j) → ks ≡ ls
one_ascending low [] [] a b from to = refl
one_ascending low [] (l ∷ ls) a b from to = absurd (among_none l (to l (among_first l ls)))
one_ascending low (k ∷ ks) [] a b from to = absurd (among_none k (from k (among_first k ks)))
one_ascending low (k ∷ ks) (l ∷ ls) a b from to =
    let le = same_first low k l ks ls b (from k (among_first k ks)) in
    let ge = same_first low l k ls ks a (to l (among_first l ls)) in
    let same : l ≡ k = omega (arith, le, ge) in
    let b' : Ascending low (k ∷ ls) = subst (λ n. Ascending low (n ∷ ls)) same b in
    ap (λ n. n ∷ ks) (sym same)
    ∙ ap (λ xs. l ∷ xs)
    (one_ascending (suc k) ks ls a.1 b'.1
    (λ j h. others low k j ks ls a h (λ m. subst (λ n. IsAmong (n ∷ ls) j) same (from j m)))
    (λ j h. others low k j ls ks b' h (λ m. to j (subst (λ n. IsAmong (n ∷ ls) j) (sym same) m))))

pub one_stale_list : (e : TextEdit) (after : List (Option Outcome)) (ks ls : List ℕ) → AreStale e after ks
    → AreStale e after ls → ks ≡ ls
one_stale_list e after ks ls a b = one_ascending 0 ks ls a.ascend b.ascend
    (λ j h. (b.each j).1 ((a.each j).0 h)) (λ j h. (a.each j).1 ((b.each j).0 h))

-- ---- what was found anew

abbrev pub item_of : Rechecked → ℕ
item_of r = r.item

among_item : (rs : List Rechecked) (i : ℕ) (r : Rechecked) → slice_get rs i ≡ Some r
    → IsAmong (map item_of rs) r.item
among_item [] i r h = absurd (cc)
among_item (s ∷ rs) zero r h = among_same s.item r.item (map item_of rs) (ap item_of (same_Some s r h))
among_item (s ∷ rs) (suc i) r h = among_more s.item r.item (map item_of rs) (among_item rs i r h)

differs : (k n : ℕ) → (k ≡ n → ⊥) → nat_eq k n ≡ false
differs k n other = by (nat_eq k n) refl
  where
    by : (b : Bool) → nat_eq k n ≡ b → b ≡ false
    by true e = absurd (other (eqb-true k n e))
    by false e = refl

pub new_none : (rs : List Rechecked) (k : ℕ) → (IsAmong (map item_of rs) k → ⊥) → new_result rs k ≡ None
new_none [] k none = refl
new_none (r ∷ rs) k none =
    ap (λ b. cond b (Some r.checked) (new_result rs k))
    (differs k r.item (λ e. none (among_same r.item k (map item_of rs) (sym e))))
    ∙ new_none rs k (λ h. none (among_more r.item k (map item_of rs) h))

pub new_other : (rs : List Rechecked) (r : Rechecked) (k : ℕ) → (k ≡ r.item → ⊥)
    → new_result (rs ++ r ∷ []) k ≡ new_result rs k
new_other [] r k other = ap (λ b. cond b (Some r.checked) None) (differs k r.item other)
new_other (s ∷ rs) r k other = ap (λ o. cond (nat_eq k s.item) (Some s.checked) o) (new_other rs r k other)

pub new_last : (rs : List Rechecked) (r : Rechecked) (k : ℕ) → new_result rs k ≡ None → k ≡ r.item
    → new_result (rs ++ r ∷ []) k ≡ Some r.checked
new_last [] r k none same = ap (λ b. cond b (Some r.checked) None) (eq-eqb k r.item same)
new_last (s ∷ rs) r k none same = by (nat_eq k s.item) refl (λ rest. new_last rs r k rest same)
  where
    by : (b : Bool) → nat_eq k s.item ≡ b
        → (new_result rs k ≡ None → new_result (rs ++ r ∷ []) k ≡ Some r.checked)
        → new_result ((s ∷ rs) ++ r ∷ []) k ≡ Some r.checked
    by true e more =
        let clash : Some s.checked ≡ None = sym (ap (λ b. cond b (Some s.checked) (new_result rs k)) e)
        ∙ none in absurd (cc)
    by false e more =
        let rest : new_result rs k ≡ None =
        sym (ap (λ b. cond b (Some s.checked) (new_result rs k)) e) ∙ none in
        ap (λ b. cond b (Some s.checked) (new_result (rs ++ r ∷ []) k)) e ∙ more rest

-- the one of a number that a list has, and none of a number that it has not
pub new_at : (low : ℕ) (rs : List Rechecked) (i : ℕ) (r : Rechecked) → Ascending low (map item_of rs)
    → slice_get rs i ≡ Some r → new_result rs r.item ≡ Some r.checked
new_at low [] i r up h = absurd (cc)
new_at low (s ∷ rs) zero r up h =
    let same : s ≡ r = same_Some s r h in
    ap (λ x. cond (nat_eq r.item x.item) (Some x.checked) (new_result rs r.item)) same
    ∙ ap (λ b. cond b (Some r.checked) (new_result rs r.item)) (eq-eqb r.item r.item refl)
new_at low (s ∷ rs) (suc i) r up h =
    let lt = ascending_above (suc s.item) (map item_of rs) r.item up.1 (among_item rs i r h) in
    ap (λ b. cond b (Some s.checked) (new_result rs r.item))
    (differs r.item s.item (λ e. omega (arith, e, lt))) ∙ new_at (suc s.item) rs i r up.1 h

pub new_nowhere : (rs : List Rechecked) (k : ℕ)
    → ((i : ℕ) (r : Rechecked) → slice_get rs i ≡ Some r → k ≡ r.item → ⊥) → new_result rs k ≡ None
new_nowhere [] k none = refl
new_nowhere (r ∷ rs) k none = ap (λ b. cond b (Some r.checked) (new_result rs k))
    (differs k r.item (none 0 r refl)) ∙ new_nowhere rs k (λ i s h. none (suc i) s h)

-- numbers that ascend are sorted
pub ascending_next : (low : ℕ) (rs : List Rechecked) (i j : ℕ) (r s : Rechecked)
    → Ascending low (map item_of rs) → slice_get rs i ≡ Some r → slice_get rs j ≡ Some s → i < j
    → r.item < s.item
ascending_next low [] i j r s up h k lt = absurd (cc)
ascending_next low (x ∷ rs) i zero r s up h k lt = absurd (omega (arith, lt))
ascending_next low (x ∷ rs) zero (suc j) r s up h k lt =
    let same : x.item ≡ r.item = ap item_of (same_Some x r h) in
    let above = ascending_above (suc x.item) (map item_of rs) s.item up.1 (among_item rs j s k) in
    omega (arith, same, above)
ascending_next low (x ∷ rs) (suc i) (suc j) r s up h k lt =
    ascending_next (suc x.item) rs i j r s up.1 h k (omega (arith, lt))

-- ---- a search by halving

not_less : (a b : ℕ) → b < a → is_lt (nat_cmp a b) ≡ false
not_less a b lt = grind (arith, nat_tests)

ascending_sorted : (rs : List Rechecked) → Ascending 0 (map item_of rs)
    → IsSortedBy (λ a b. is_lt (nat_cmp a.item b.item)) rs
ascending_sorted rs up k d from lt =
    let here = slice_get-get_or rs k d (omega (arith, lt)) in
    let next = slice_get-get_or rs (k + 1) d lt in
    not_less (get_or rs (k + 1) d).item (get_or rs k d).item
    (ascending_next 0 rs k (k + 1) (get_or rs k d) (get_or rs (k + 1) d) up here next (omega arith))

-- what a search finds is what was found anew
pub searched_ok : (rs : List Rechecked) (item : ℕ) (r : Result ℕ ℕ) (i : ℕ) (x : Rechecked)
    → Ascending 0 (map item_of rs) → IsSearchInRange r (length rs)
    → IsBinarySearchResult (λ y. nat_cmp y.item item) rs r
    → r ≡ Ok i → x ≡ get_or rs i x → Some x.checked ≡ new_result rs item
searched_ok rs item (Ok k) i x up lt h is at =
    let same : k ≡ i = cc in
    let there : slice_get rs i ≡ Some x = slice_get-get_or rs i x (subst (λ n. n < length rs) same lt)
    ∙ ap Some (sym at) in
    let equal : nat_cmp (get_or rs i x).item item ≡ Equal =
    subst (λ n. nat_cmp (get_or rs n x).item item ≡ Equal) same (h x) in
    let number : x.item ≡ item = same_number x.item item (ap (λ y. nat_cmp y.item item) at ∙ equal) in
    sym (new_at 0 rs i x up there) ∙ ap (new_result rs) number
  where
    same_number : (a b : ℕ) → nat_cmp a b ≡ Equal → a ≡ b
    same_number a b e = grind (arith, nat_tests)
searched_ok rs item (Err k) i x up lt h is at = absurd (cc)

-- and where it finds nothing, nothing was found
pub searched_err : (rs : List Rechecked) (item : ℕ) (r : Result ℕ ℕ) (i : ℕ) → Ascending 0 (map item_of rs)
    → IsBinarySearchResult (λ y. nat_cmp y.item item) rs r
    → r ≡ Err i → None ≡ new_result rs item
searched_err rs item (Ok k) i up h is = absurd (cc)
searched_err rs item (Err k) i up h is =
    sym (new_nowhere rs item (λ n x there same. by n x there same (cases_lt n k)))
  where
    point : IsPartitionPoint (λ y. nat_cmp y.item item ≡ Less) (λ y. nat_cmp y.item item ≡ Greater) rs k
    point = h (searchable_from_sorted nat_cmp_total (λ y. y.item) rs item (ascending_sorted rs up))

    less : (a b : ℕ) → nat_cmp a b ≡ Less → b ≡ a → ⊥
    less a b e same = grind (arith, nat_tests)

    greater : (a b : ℕ) → nat_cmp a b ≡ Greater → b ≡ a → ⊥
    greater a b e same = grind (arith, nat_tests)

    by : (n : ℕ) (x : Rechecked) → slice_get rs n ≡ Some x → item ≡ x.item → (n < k) ⊎ (k ≤ n) → ⊥
    by n x there same (inl lt) =
        less x.item item (subst (λ y. nat_cmp y.item item ≡ Less) (get_or_from_slice_get rs n x x there)
        (point.0 n x (omega arith) lt)) same
    by n x there same (inr le) =
        greater x.item item (subst (λ y. nat_cmp y.item item ≡ Greater) (get_or_from_slice_get rs n x x there)
        (point.1 n x le (slice_get_within rs n x there))) same

items_push : (rs : List Rechecked) (r : Rechecked)
    → map item_of (rs ++ r ∷ []) ≡ map item_of rs ++ r.item ∷ []
items_push [] r = refl
items_push (s ∷ rs) r = ap (λ l. s.item ∷ l) (items_push rs r)

pub ascending_more : (rs : List Rechecked) (r : Rechecked) → Ascending 0 (map item_of rs)
    → ((j : ℕ) → IsAmong (map item_of rs) j → j < r.item) → Ascending 0 (map item_of (rs ++ r ∷ []))
ascending_more rs r up below = subst (Ascending 0) (sym (items_push rs r))
    (ascending_push 0 (map item_of rs) r.item up (omega arith) below)

pub among_old : (rs : List Rechecked) (r : Rechecked) (j : ℕ) → IsAmong (map item_of rs) j
    → IsAmong (map item_of (rs ++ r ∷ [])) j
among_old rs r j h = subst (λ l. IsAmong l j) (sym (items_push rs r))
    (among_front (map item_of rs) (r.item ∷ []) j h)

pub among_new : (rs : List Rechecked) (r : Rechecked) (j : ℕ) → r.item ≡ j
    → IsAmong (map item_of (rs ++ r ∷ [])) j
among_new rs r j same = subst (λ l. IsAmong l j) (sym (items_push rs r))
    (among_rear (map item_of rs) (r.item ∷ []) j (among_same r.item j [] same))

pub among_either : (rs : List Rechecked) (r : Rechecked) (j : ℕ) → IsAmong (map item_of (rs ++ r ∷ [])) j
    → IsAmong (map item_of rs) j ⊎ (j ≡ r.item)
among_either rs r j h =
    by (among_parts (map item_of rs) (r.item ∷ []) j (subst (λ l. IsAmong l j) (items_push rs r) h))
  where
    last : (j ≡ r.item) ⊎ IsAmong [] j → IsAmong (map item_of rs) j ⊎ (j ≡ r.item)
    last (inl e) = inr e
    last (inr h) = absurd (among_none j h)

    by : IsAmong (map item_of rs) j ⊎ IsAmong (r.item ∷ []) j → IsAmong (map item_of rs) j ⊎ (j ≡ r.item)
    by (inl h) = inl h
    by (inr h) = last (among_cases r.item j [] h)
