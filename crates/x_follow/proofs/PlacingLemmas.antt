-- What is kept with an item, while its patch is still to be carried out, or was.
use Rattle.std.proofs.Common.{◌≡◌, ◌<◌, ◌≤◌, ℕ, zero, suc, ◌+◌, ◌-◌, ◌*◌, ◌^◌, List, [], ◌∷◌, ◌++◌, length}
use Rattle.std.proofs.Common.{map, take, drop, Option, None, Some, refl, sym, ap, subst, ◌∙◌, arith, lit≤}
use Rattle.std.specs.Global.{Box}
use Rattle.std.specs.List.{splice}
use Rattle.std.specs.Prelude.{IfSome, slice_get, slice_set}
use Rattle.std.proofs.lemmas.List.{length-map, length-take-le, take-append-drop}
use Rattle.std.proofs.lemmas.Option.{slice_get_within}
use Rattle.x_streams.specs.Counters.{raised}
use Rattle.x_lists.specs.Seqs.{Gapped, distance}
use Rattle.x_text.specs.declared.text.source.TheConstants.{MAX_TEXT}
use Rattle.x_lists.proofs.PatchLemmas.{length-spliced}
use Rattle.x_lists.proofs.SeqLemmas.{set_front}
use Rattle.x_cutting.specs.ItemList as items
use Rattle.x_cutting.specs.ItemList.{AreOfText, ItemChange, counts, patched, tokens_in}
use Rattle.x_cutting.specs.declared.cutting.item_entry.ItemEntry.{ItemEntry}
use Rattle.x_cutting.proofs.CountLemmas.{counts-splice}
use Rattle.x_recheck.specs.Staleness.{Ascending}
use Rattle.x_recheck.proofs.Numbering.{get_front, get_rear}
use Rattle.x_compile.specs.Checking.{IsKnownAt}
use Rattle.x_follow.specs.Following.{CanPut}
use Rattle.x_compile.specs.KeptView.{IsWithAt}
use Rattle.x_follow.specs.Moves.{Changed, changed_entry, changed_items, moves}
use Rattle.x_follow.specs.inside.Carrying.{HasMoved, left_changes}
use Rattle.x_follow.specs.Moves.{splice_of, seat_behind}
use Rattle.x_follow.specs.Planned.{ArePlanned, numbers_of}
use Rattle.x_compile.specs.declared.content.CheckResult.{CheckResult}
use Rattle.x_compile.specs.declared.content.Content.{Content}
use Rattle.x_follow.specs.declared.planned.PlannedResult.{PlannedResult}
use Rattle.x_compile.proofs.KeepingLemmas.{entry_of, kept_get}
use Rattle.x_follow.proofs.MoveLemmas.{AreBelow, items_most, moved_before, moved_fresh, moved_nothing}
use Rattle.x_follow.proofs.MoveLemmas.{moved_own, moved_place, moved_then}

-- ---- an entry before the place

get_before : {X : Type 0} (xs ys : List X) (at end i : ℕ) → at ≤ length xs → at ≤ end → i < at
    → slice_get (splice xs at end ys) i ≡ slice_get xs i
get_before [] ys at end i among le lt = absurd (omega (arith, among, lt))
get_before (x ∷ xs) ys zero end i among le lt = absurd (omega (arith, lt))
get_before (x ∷ xs) ys (suc at) zero i among le lt = absurd (omega (arith, le))
get_before (x ∷ xs) ys (suc at) (suc end) zero among le lt = refl
get_before (x ∷ xs) ys (suc at) (suc end) (suc i) among le lt =
    get_before xs ys at end i (omega (arith, among)) (omega (arith, le)) (omega (arith, lt))

set_before : {X : Type 0} (xs ys : List X) (at end i : ℕ) (y : X) → at ≤ length xs → at ≤ end → i < at
    → splice (slice_set xs i y) at end ys ≡ slice_set (splice xs at end ys) i y
set_before [] ys at end i y among le lt = absurd (omega (arith, among, lt))
set_before (x ∷ xs) ys zero end i y among le lt = absurd (omega (arith, lt))
set_before (x ∷ xs) ys (suc at) zero i y among le lt = absurd (omega (arith, le))
set_before (x ∷ xs) ys (suc at) (suc end) zero y among le lt = refl
set_before (x ∷ xs) ys (suc at) (suc end) (suc i) y among le lt =
    ap (λ l. x ∷ l) (set_before xs ys at end i y (omega (arith, among)) (omega (arith, le))
    (omega (arith, lt)))

-- ---- a fresh entry

set_behind : {X : Type 0} (front xs : List X) (at i n : ℕ) (y : X) → at ≡ length front → n ≡ at + i
    → front ++ slice_set xs i y ≡ slice_set (front ++ xs) n y
set_behind [] xs at i n y is sum =
    ap (λ j. slice_set xs j y) (let same : i ≡ n = omega (arith, is, sum) in same)
set_behind (x ∷ front) xs at i zero y is sum = absurd (omega (arith, is, sum))
set_behind (x ∷ front) xs at i (suc n) y is sum =
    ap (λ l. x ∷ l) (set_behind front xs (length front) i n y refl (omega (arith, is, sum)))

-- ---- what was found of an item is kept with it

known_of : (es fs : List (ItemEntry Content)) (i n : ℕ) (r : Option (Box CheckResult))
    → slice_get es i ≡ slice_get fs n → IsKnownAt (items.kept es) i r → IsKnownAt (items.kept fs) n r
known_of es fs i n r same known k is none =
    let e = entry_of fs n k is in
    known k (kept_get es i e.0 (same ∙ e.1) ∙ ap Some e.2) none

-- before the place
pub known_before : (es : List (ItemEntry Content)) (p : ItemChange Content) (i : ℕ)
    (r : Option (Box CheckResult)) → items.LiesAmong es p → i < p.at
    → IsKnownAt (items.kept (patched es p)) i r → IsKnownAt (items.kept es) i r
known_before es p i r among lt known = known_of (patched es p) es i i r
    (get_before es p.fresh p.at (p.at + p.removed) i (omega (arith, among)) (omega arith) lt) known

pub with_before : (es fs : List (ItemEntry Content)) (p : ItemChange Content) (i : ℕ)
    (r : Option (Box CheckResult)) → items.LiesAmong es p → i < p.at → IsWithAt es i r fs
    → IsWithAt (patched es p) i r (patched fs p)
with_before es fs p i r among lt h =
    let a : p.at ≤ length es = omega (arith, among) in
    let b : p.at ≤ p.at + p.removed = omega arith in
    record {
      old = h.old;
      was = get_before es p.fresh p.at (p.at + p.removed) i a b lt ∙ h.was;
      item = h.item;
      put = ap (λ l. patched l p) h.put ∙ set_before es p.fresh p.at (p.at + p.removed) i h.item a b lt;
      with = h.with;
    }

-- with a fresh one
get_fresh : (es : List (ItemEntry Content)) (p : ItemChange Content) (n i : ℕ) → items.LiesAmong es p
    → n ≡ p.at + i → i < length p.fresh → slice_get (patched es p) n ≡ slice_get p.fresh i
get_fresh es p n i among sum lt =
    let rear = drop (p.at + p.removed) es in
    let front = length-take-le p.at es (omega (arith, among)) in
    let index : n - length (take p.at es) ≡ i = omega (arith, front, sum) in
    get_rear (take p.at es) (p.fresh ++ rear) n (omega (arith, front, sum))
    ∙ ap (slice_get (p.fresh ++ rear)) index ∙ get_front p.fresh rear i lt

pub known_fresh : (es : List (ItemEntry Content)) (p : ItemChange Content) (n i : ℕ)
    (r : Option (Box CheckResult)) → items.LiesAmong es p → n ≡ p.at + i → i < length p.fresh
    → IsKnownAt (items.kept (patched es p)) n r → IsKnownAt (items.kept p.fresh) i r
known_fresh es p n i r among sum lt known =
    known_of (patched es p) p.fresh n i r (get_fresh es p n i among sum lt) known

pub with_fresh : (es : List (ItemEntry Content)) (p q : ItemChange Content) (n i : ℕ)
    (r : Option (Box CheckResult)) → items.LiesAmong es p → n ≡ p.at + i → i < length p.fresh
    → IsWithAt p.fresh i r q.fresh → q ≡ record p { fresh = q.fresh }
    → IsWithAt (patched es p) n r (patched es q)
with_fresh es p q n i r among sum lt h same =
    let rear = drop (p.at + p.removed) es in
    let set : patched es (record p { fresh = slice_set p.fresh i h.item })
    ≡ slice_set (patched es p) n h.item =
    ap (λ l. take p.at es ++ l) (sym (set_front p.fresh rear i h.item lt))
    ∙ set_behind (take p.at es) (p.fresh ++ rear) p.at i n h.item
    (sym (length-take-le p.at es (omega (arith, among)))) sum in
    record {
      old = h.old;
      was = get_fresh es p n i among sum lt ∙ h.was;
      item = h.item;
      put = ap (λ c. patched es c) same ∙ ap (λ l. patched es (record p { fresh = l })) h.put ∙ set;
      with = h.with;
    }

-- ---- the patch can be carried out

pub can_before : (g h : Gapped (ItemEntry Content)) (p : ItemChange Content) → counts h.list ≡ counts g.list
    → g.spare ≤ h.spare → CanPut g p → CanPut h p
can_before g h p same room can =
    let a = length-map h.list tokens_in in
    let b = length-map g.list tokens_in in
    let l = ap length same in
    let among = can.among in
    let spare = can.room in
    record {
      among = omega (arith, a, b, l, among);
      room = omega (arith, spare, room);
      of_text = subst AreOfText (counts-splice g.list p.fresh p.at (p.at + p.removed)
          ∙ sym (ap (λ cs. splice cs p.at (p.at + p.removed) (counts p.fresh)) same)
          ∙ sym (counts-splice h.list p.fresh p.at (p.at + p.removed))) can.of_text;
    }

pub can_fresh : (g : Gapped (ItemEntry Content)) (p q : ItemChange Content) → counts q.fresh ≡ counts p.fresh
    → q ≡ record p { fresh = q.fresh } → CanPut g p → CanPut g q
can_fresh g p q many same can =
    let a = length-map q.fresh tokens_in in
    let b = length-map p.fresh tokens_in in
    let l = ap length many in
    let spare = can.room in
    let c : CanPut g (record p { fresh = q.fresh }) = record {
      among = can.among;
      room = omega (arith, a, b, l, spare);
      of_text = subst AreOfText (counts-splice g.list p.fresh p.at (p.at + p.removed)
          ∙ sym (ap (λ cs. splice (counts g.list) p.at (p.at + p.removed) cs) many)
          ∙ sym (counts-splice g.list q.fresh p.at (p.at + p.removed))) can.of_text;
    } in
    subst (CanPut g) (sym same) c

-- one by which nothing goes and nothing comes
pub patched_nothing : (es : List (ItemEntry Content)) (p : ItemChange Content) → p.removed ≡ 0 → p.fresh ≡ []
    → es ≡ patched es p
patched_nothing es p none empty =
    let end : p.at + p.removed ≡ p.at = omega (arith, none) in
    sym (take-append-drop p.at es) ∙ sym (λ i. take p.at es ++ (empty i ++ drop (end i) es))

-- ---- what moves

-- as far as a number of 64 bits tells
pub moved_fits : (h : ℕ) → h < 2 ^ 64 → h ≡ raised 0 h
moved_fits h fits = omega (arith, fits)

planned_below : (ks : List Content) (ps : List PlannedResult) → ArePlanned ks ps
    → AreBelow (length ks) (numbers_of ps)
planned_below ks [] are = tt
planned_below ks (p ∷ ps) are = (slice_get_within ks p.item are.0.item are.0.at, planned_below ks ps are.2)

-- no more than twice as many as there are
pub moves_few : (g : Gapped (ItemEntry Content)) (p : ItemChange Content) (ps : List PlannedResult) (most : ℕ)
    → CanPut g p → ArePlanned (items.kept (patched g.list p)) ps → Ascending 0 (numbers_of ps)
    → g.seat ≤ length g.list → length g.list ≤ most
    → moves g.seat (changed_items (splice_of p) (numbers_of ps)) ≤ 2 * most
moves_few g p ps most can planned up seat few =
    let among = can.among in
    let a = length-map (patched g.list p) (λ e. e.kept) in
    let b = length-spliced g.list p.fresh p.at (p.at + p.removed) (omega (arith, among)) in
    let count : length (items.kept (patched g.list p)) ≡ length g.list - p.removed + length p.fresh =
    omega (arith, a, b, among) in
    let below = subst (λ n. AreBelow n (numbers_of ps)) count
    (planned_below (items.kept (patched g.list p)) ps planned) in
    let m = items_most (splice_of p) g.seat (length g.list) (numbers_of ps) among up below in
    omega (arith, m, seat, few)

-- what was counted is what moves, once nothing is left
pub moved_all : (seat moved now most : ℕ) (all left : List Changed) → left ≡ []
    → HasMoved seat all moved now left → moved < 2 ^ 64 → moves seat all ≤ 2 * most → most ≤ MAX_TEXT + 1
    → moved ≡ moves seat all
moved_all seat moved now most all left none h fits few le =
    let is = h.moves_are in
    let rest : moves now left ≡ 0 = ap (moves now) none in
    let literal : 2 * (MAX_TEXT + 1) < 2 ^ 64 = lit≤ tt in
    omega (arith, is, rest, fits, few, le, literal)

pub seat_all : (seat moved now : ℕ) (all left : List Changed) → left ≡ [] → HasMoved seat all moved now left
    → now ≡ seat_behind seat all
seat_all seat moved now all left none h = sym (h.seat_is ∙ ap (seat_behind now) none)

-- ---- while the patch is still to be carried out

moved_exactly : (seat moved now : ℕ) (all left : List Changed) → moved < 2 ^ 64
    → HasMoved seat all (raised 0 moved) now left → HasMoved seat all moved now left
moved_exactly seat moved now all left fits h =
    subst (λ m. HasMoved seat all m now left) (sym (moved_fits moved fits)) h

-- nothing goes by the patch and nothing comes
pub pending_nothing : (o n : Option (ItemChange Content)) (p : ItemChange Content) (seat : ℕ) (ks : List ℕ)
    → o ≡ Some p → n ≡ None → p.removed ≡ 0 → p.fresh ≡ []
    → IfSome o (λ q. Ascending (q.at + length q.fresh) ks)
    → HasMoved seat (left_changes o ks) 0 seat (left_changes n ks)
pending_nothing o n p seat ks is none removed fresh up =
    subst (λ x. HasMoved seat (left_changes o ks) 0 seat (left_changes x ks)) (sym none)
    (subst (λ x. HasMoved seat (left_changes x ks) 0 seat (map (λ k. changed_entry k k) ks)) (sym is)
    (moved_nothing (splice_of p) seat ks
    (subst (λ x. IfSome x (λ q. Ascending (q.at + length q.fresh) ks)) is up) removed (ap length fresh)))

-- the patch is put
pub pending_place : (o n : Option (ItemChange Content)) (p : ItemChange Content) (seat moved now : ℕ)
    (ks : List ℕ) → o ≡ Some p → n ≡ None → 0 < p.removed + length p.fresh
    → moved ≡ distance seat p.at (p.at + p.removed)
    → now ≡ p.at + length p.fresh → moved < 2 ^ 64 → IfSome o (λ q. Ascending (q.at + length q.fresh) ks)
    → HasMoved seat (left_changes o ks) moved now (left_changes n ks)
pending_place o n p seat moved now ks is none some far at fits up =
    subst (λ x. HasMoved seat (left_changes o ks) moved now (left_changes x ks)) (sym none)
    (subst (λ x. HasMoved seat (left_changes x ks) moved now (map (λ k. changed_entry k k) ks)) (sym is)
    (moved_exactly seat moved now (changed_items (splice_of p) ks) (map (λ k. changed_entry k k) ks) fits
    (moved_place (splice_of p) seat moved now ks
    (subst (λ x. IfSome x (λ q. Ascending (q.at + length q.fresh) ks)) is up) some far at)))

pub some_fresh : {X : Type 0} (xs : List X) → (xs ≡ [] → ⊥) → 0 < length xs
some_fresh [] some = absurd (some refl)
some_fresh (x ∷ xs) some = omega arith

-- an item that stays before the place is put
pub pending_before : (o : Option (ItemChange Content)) (p : ItemChange Content) (seat k moved now : ℕ)
    (ks : List ℕ) → o ≡ Some p → k < p.at → Ascending (k + 1) ks → moved ≡ distance seat k (k + 1)
    → now ≡ k + 1 → moved < 2 ^ 64
    → HasMoved seat (left_changes o (k ∷ ks)) moved now (changed_items (splice_of p) ks)
pending_before o p seat k moved now ks is lt up far at fits =
    subst (λ x. HasMoved seat (left_changes x (k ∷ ks)) moved now (changed_items (splice_of p) ks)) (sym is)
    (subst (λ n. HasMoved seat (changed_items (splice_of p) (k ∷ ks)) moved n
    (changed_items (splice_of p) ks))
    (sym at)
    (moved_exactly seat moved (k + 1) (changed_items (splice_of p) (k ∷ ks)) (changed_items (splice_of p) ks)
    fits (moved_before (splice_of p) seat k moved ks lt up far)))

-- a fresh item is put
pub pending_fresh : (o : Option (ItemChange Content)) (p q : ItemChange Content) (seat k : ℕ) (ks : List ℕ)
    → o ≡ Some p → p.at ≤ k → k < p.at + length p.fresh → counts q.fresh ≡ counts p.fresh
    → q ≡ record p { fresh = q.fresh }
    → HasMoved seat (left_changes o (k ∷ ks)) 0 seat (changed_items (splice_of q) ks)
pending_fresh o p q seat k ks is le lt many same =
    let a = length-map q.fresh tokens_in in
    let b = length-map p.fresh tokens_in in
    let l = ap length many in
    let long : length p.fresh ≡ length q.fresh = omega (arith, a, b, l) in
    let place : splice_of p ≡ splice_of q = (λ i. record { at = p.at; removed = p.removed; added = long i })
    ∙ ap splice_of (sym same) in
    subst (λ x. HasMoved seat (left_changes x (k ∷ ks)) 0 seat (changed_items (splice_of q) ks)) (sym is)
    (subst (λ r. HasMoved seat (changed_items (splice_of p) (k ∷ ks)) 0 seat (changed_items r ks)) place
    (moved_fresh (splice_of p) seat k ks le lt))

-- an item is put, where the patch was carried out
pub pending_none : (o : Option (ItemChange Content)) (seat k moved now : ℕ) (ks : List ℕ) → o ≡ None
    → Ascending (k + 1) ks → moved ≡ distance seat k (k + 1) → now ≡ k + 1 → moved < 2 ^ 64
    → HasMoved seat (left_changes o (k ∷ ks)) moved now (left_changes o ks)
pending_none o seat k moved now ks none up far at fits =
    subst (λ x. HasMoved seat (left_changes x (k ∷ ks)) moved now (left_changes x ks)) (sym none)
    (subst (λ n. HasMoved seat (map (λ j. changed_entry j j) (k ∷ ks)) moved n
    (map (λ j. changed_entry j j) ks)) (sym at)
    (moved_exactly seat moved (k + 1) (map (λ j. changed_entry j j) (k ∷ ks))
    (map (λ j. changed_entry j j) ks) fits (moved_own seat k moved ks up far)))

-- an item is put once the patch was carried out
pub pending_behind : (o m : Option (ItemChange Content)) (seat mid k first more moved now : ℕ) (ks : List ℕ)
    → m ≡ None
    → ((ls : List ℕ) → IfSome o (λ q. Ascending (q.at + length q.fresh) ls)
    → HasMoved seat (left_changes o ls) first mid (left_changes m ls))
    → IfSome o (λ q. q.at + length q.fresh ≤ k) → Ascending (k + 1) ks
    → more ≡ distance mid k (k + 1) → now ≡ k + 1 → more < 2 ^ 64 → moved ≡ raised first more
    → HasMoved seat (left_changes o (k ∷ ks)) moved now (left_changes m ks)
pending_behind o m seat mid k first more moved now ks none put behind up far at fits sum =
    let next : k + 1 ≡ suc k = omega arith in
    let order : (x : Option (ItemChange Content)) → IfSome x (λ q. q.at + length q.fresh ≤ k)
    → IfSome x (λ q. Ascending (q.at + length q.fresh) (k ∷ ks)) =
    λ x h. ordered x h (subst (λ n. Ascending n ks) next up) in
    subst (λ r. HasMoved seat (left_changes o (k ∷ ks)) r now (left_changes m ks)) (sym sum)
    (moved_then seat first more mid now (left_changes o (k ∷ ks)) (left_changes m (k ∷ ks))
    (left_changes m ks) (put (k ∷ ks) (order o behind))
    (pending_none m mid k more now ks none up far at fits))
  where
    ordered : (x : Option (ItemChange Content)) → IfSome x (λ q. q.at + length q.fresh ≤ k)
        → Ascending (suc k) ks → IfSome x (λ q. Ascending (q.at + length q.fresh) (k ∷ ks))
    ordered None h u = tt
    ordered (Some q) h u = (h, u)

-- a fresh item, and where it stands among them
pub record IsFreshAt (g : Gapped (ItemEntry Content)) (p : ItemChange Content) (n i : ℕ) : Type 0 where
  pub can : CanPut g p
  pub le : p.at ≤ n
  pub sum : n ≡ p.at + i
  pub lt : i < length p.fresh

pub fresh_at : (g : Gapped (ItemEntry Content)) (o : Option (ItemChange Content)) (p : ItemChange Content)
    (n at from count : ℕ) → o ≡ Some p → IfSome o (CanPut g) → at ≡ p.at → from ≡ p.at → at ≤ n
    → count ≡ length p.fresh → n - from < count
    → IsFreshAt g p n (n - from)
fresh_at g o p n at from count is can a b le c lt = record {
  can = subst (λ x. IfSome x (CanPut g)) is can;
  le = omega (arith, a, le);
  sum = omega (arith, a, b, le);
  lt = omega (arith, c, lt);
}

-- ---- one after another

pub no_ascent : (o : Option (ItemChange Content)) (ks : List ℕ) → ks ≡ []
    → IfSome o (λ q. Ascending (q.at + length q.fresh) ks)
no_ascent None ks none = tt
no_ascent (Some q) ks none = subst (Ascending (q.at + length q.fresh)) (sym none) tt

pub ascent_rest : (ps left : List PlannedResult) (p : PlannedResult) → ps ≡ p ∷ left
    → (low : ℕ) × Ascending low (numbers_of ps) → Ascending (p.item + 1) (numbers_of left)
ascent_rest ps left p is up =
    let next : suc p.item ≡ p.item + 1 = omega arith in
    let all : Ascending up.0 (p.item ∷ numbers_of left) =
    subst (λ l. Ascending up.0 (numbers_of l)) is up.1 in
    subst (λ n. Ascending n (numbers_of left)) next all.1

pub moved_next : (seat moved mid now more next : ℕ) (all : List Changed) (o m : Option (ItemChange Content))
    (ps left : List PlannedResult) (p : PlannedResult) → ps ≡ p ∷ left
    → HasMoved seat all moved mid (left_changes o (numbers_of ps))
    → HasMoved mid (left_changes o (p.item ∷ numbers_of left)) more now (left_changes m (numbers_of left))
    → next ≡ raised moved more → HasMoved seat all next now (left_changes m (numbers_of left))
moved_next seat moved mid now more next all o m ps left p is h k sum =
    subst (λ n. HasMoved seat all n now (left_changes m (numbers_of left))) (sym sum)
    (moved_then seat moved more mid now all (left_changes o (p.item ∷ numbers_of left))
    (left_changes m (numbers_of left))
    (subst (λ l. HasMoved seat all moved mid (left_changes o (numbers_of l))) is h) k)

pub moved_last : (seat moved mid now more last : ℕ) (all : List Changed) (o m : Option (ItemChange Content))
    (ks : List ℕ) → ks ≡ [] → m ≡ None → HasMoved seat all moved mid (left_changes o ks)
    → HasMoved mid (left_changes o ks) more now (left_changes m ks)
    → last ≡ raised moved more → HasMoved seat all last now []
moved_last seat moved mid now more last all o m ks empty none h k sum =
    subst (λ n. HasMoved seat all n now []) (sym sum)
    (subst (HasMoved seat all (raised moved more) now) ((λ i. left_changes (none i) (empty i)))
    (moved_then seat moved more mid now all (left_changes o ks) (left_changes m ks) h k))
