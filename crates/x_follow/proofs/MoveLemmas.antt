-- What moves while changed items are put in place, from the first to the last.
use Rattle.std.proofs.Common.{◌≡◌, ◌<◌, ◌≤◌, ◌⊎◌, inl, inr, ℕ, suc, ◌+◌, ◌-◌, ◌^◌, nat_lt, Bool, true, false}
use Rattle.std.proofs.Common.{cond}
use Rattle.std.proofs.Common.{List, [], ◌∷◌, ◌++◌, map, refl, sym, ap, subst, ◌∙◌, arith}
use Rattle.std.specs.List.{filter}
use Rattle.std.proofs.lemmas.Bool.{lt-ltb, le-ltb, cases_lt}
use Rattle.x_streams.specs.Counters.{raised}
use Rattle.x_lists.specs.Seqs.{distance}
use Rattle.x_recheck.specs.Staleness.{Ascending}
use Rattle.x_uses.specs.declared.uses.ItemSplice.{ItemSplice}
use Rattle.x_follow.specs.Moves.{Changed, changed_before, changed_behind, changed_entry}
use Rattle.x_follow.specs.inside.Carrying.{HasMoved, IsCounted}
use Rattle.x_follow.specs.Moves.{changed_items, changed_place, moves, seat_behind, unchanged_between}

-- ---- lists of numbers

filter_on : (test : ℕ → Bool) (k : ℕ) (ks : List ℕ) → test k ≡ true
    → filter test (k ∷ ks) ≡ k ∷ filter test ks
filter_on test k ks is = ap (λ b. cond b (k ∷ filter test ks) (filter test ks)) is

filter_off : (test : ℕ → Bool) (k : ℕ) (ks : List ℕ) → test k ≡ false → filter test (k ∷ ks) ≡ filter test ks
filter_off test k ks is = ap (λ b. cond b (k ∷ filter test ks) (filter test ks)) is

-- each of these is this number or greater
abbrev AreAbove : ℕ → List ℕ → Type 0
AreAbove low [] = Unit {0}
AreAbove low (k ∷ ks) = (low ≤ k) × AreAbove low ks

above_less : (a b : ℕ) (ks : List ℕ) → a ≤ b → AreAbove b ks → AreAbove a ks
above_less a b [] le all = tt
above_less a b (k ∷ ks) le all = ((let here = all.0 in omega (arith, le, here)), above_less a b ks le all.1)

ascending_above : (low : ℕ) (ks : List ℕ) → Ascending low ks → AreAbove low ks
ascending_above low [] up = tt
ascending_above low (k ∷ ks) up =
    (up.0, above_less low (suc k) ks (let le = up.0 in omega (arith, le)) (ascending_above (suc k) ks up.1))

none_below : (at : ℕ) (ks : List ℕ) → AreAbove at ks → filter (λ k. nat_lt k at) ks ≡ []
none_below at [] all = refl
none_below at (k ∷ ks) all = filter_off (λ j. nat_lt j at) k ks (le-ltb k at all.0) ∙ none_below at ks all.1

all_behind : (end : ℕ) (ks : List ℕ) → AreAbove end ks → filter (λ k. nat_lt end (k + 1)) ks ≡ ks
all_behind end [] all = refl
all_behind end (k ∷ ks) all = filter_on (λ j. nat_lt end (j + 1)) k ks
    (lt-ltb end (k + 1) (let le = all.0 in omega (arith, le))) ∙ ap (λ l. k ∷ l) (all_behind end ks all.1)

-- ---- one change more

-- each change begins at this index or behind
abbrev AreFrom : ℕ → List Changed → Type 0
AreFrom n [] = Unit {0}
AreFrom n (c ∷ cs) = (n ≤ c.from) × (c.from ≤ c.to) × AreFrom n cs

from_joined : (n : ℕ) (cs ds : List Changed) → AreFrom n cs → AreFrom n ds → AreFrom n (cs ++ ds)
from_joined n [] ds all more = more
from_joined n (c ∷ cs) ds all more = (all.0, all.1, from_joined n cs ds all.2 more)

from_before : (p : ItemSplice) (n : ℕ) (ks : List ℕ) → AreAbove n ks → AreFrom n (changed_before p ks)
from_before p n [] all = tt
from_before p n (k ∷ ks) all = by (from_before p n ks all.1) (nat_lt k p.at)
  where
    by : AreFrom n (changed_before p ks) → (b : Bool)
        → AreFrom n (map (λ j. changed_entry j j)
        (cond b (k ∷ filter (λ j. nat_lt j p.at) ks) (filter (λ j. nat_lt j p.at) ks)))
    by rest true = (all.0, omega arith, rest)
    by rest false = rest

from_place : (p : ItemSplice) (n : ℕ) → n ≤ p.at → AreFrom n (changed_place p)
from_place p n le = by (nat_lt 0 (p.removed + p.added))
  where
    by : (b : Bool)
        → AreFrom n (cond b (record { from = p.at; to = p.at + p.removed; end = p.at + p.added } ∷ []) [])
    by true = (le, omega arith, tt)
    by false = tt

from_behind : (p : ItemSplice) (n : ℕ) (ks : List ℕ) → n ≤ p.at → AreFrom n (changed_behind p ks)
from_behind p n [] le = tt
from_behind p n (k ∷ ks) le = by (from_behind p n ks le) (cases_lt k (p.at + p.added))
  where
    test : ℕ → Bool
    test j = nat_lt (p.at + p.added) (j + 1)

    put : ℕ → Changed
    put j = changed_entry (j - p.added + p.removed) j

    by : AreFrom n (changed_behind p ks) → (k < p.at + p.added) ⊎ (p.at + p.added ≤ k)
        → AreFrom n (changed_behind p (k ∷ ks))
    by rest (inl lt) = subst (λ l. AreFrom n (map put l))
        (sym (filter_off test k ks (le-ltb (p.at + p.added) (k + 1) (omega (arith, lt))))) rest
    by rest (inr ge) = subst (λ l. AreFrom n (map put l))
        (sym (filter_on test k ks (lt-ltb (p.at + p.added) (k + 1) (omega (arith, ge)))))
        (omega (arith, le, ge), omega arith, rest)

from_items : (p : ItemSplice) (n : ℕ) (ks : List ℕ) → n ≤ p.at → AreAbove n ks
    → AreFrom n (changed_items p ks)
from_items p n ks le all = from_joined n (changed_before p ks) (changed_place p ++ changed_behind p ks)
    (from_before p n ks all) (from_joined n (changed_place p) (changed_behind p ks) (from_place p n le)
    (from_behind p n ks le))

from_own : (n : ℕ) (ks : List ℕ) → AreAbove n ks → AreFrom n (map (λ k. changed_entry k k) ks)
from_own n [] all = tt
from_own n (k ∷ ks) all = (all.0, omega arith, from_own n ks all.1)

-- behind a seat there are only entries that do not change
moves_on : (end : ℕ) (cs : List Changed) → AreFrom end cs → unchanged_between end cs ≡ moves end cs
moves_on end [] all = refl
moves_on end (c ∷ cs) all =
    let a = all.0 in let b = all.1 in let none : end - c.to ≡ 0 = omega (arith, a, b) in omega (arith, none)

-- an entry is put in place
moved_entry : (seat was k : ℕ) (cs : List Changed) → AreFrom (was + 1) cs → was ≡ k
    → HasMoved seat (changed_entry was k ∷ cs) (raised 0 (distance seat k (k + 1))) (k + 1) cs
moved_entry seat was k cs all same = record {
  moves_are = let on = moves_on (was + 1) cs all in let at = ap (λ n. moves (n + 1) cs) same in
      let far = ap (λ n. distance seat n (n + 1)) same in omega (arith, on, at, far);
  seat_is = refl;
}

-- ---- the item that comes next

before_step : (p : ItemSplice) (k : ℕ) (ks : List ℕ) → k < p.at
    → changed_items p (k ∷ ks) ≡ changed_entry k k ∷ changed_items p ks
before_step p k ks lt =
    let on = filter_on (λ j. nat_lt j p.at) k ks (lt-ltb k p.at lt) in
    let off = filter_off (λ j. nat_lt (p.at + p.added) (j + 1)) k ks
    (le-ltb (p.at + p.added) (k + 1) (omega (arith, lt))) in
    λ i. map (λ j. changed_entry j j) (on i)
    ++ (changed_place p ++ map (λ j. changed_entry (j - p.added + p.removed) j) (off i))

fresh_step : (p : ItemSplice) (k : ℕ) (ks : List ℕ) → p.at ≤ k → k < p.at + p.added
    → changed_items p (k ∷ ks) ≡ changed_items p ks
fresh_step p k ks le lt =
    let off = filter_off (λ j. nat_lt j p.at) k ks (le-ltb k p.at le) in
    let none = filter_off (λ j. nat_lt (p.at + p.added) (j + 1)) k ks
    (le-ltb (p.at + p.added) (k + 1) (omega (arith, lt))) in
    λ i. map (λ j. changed_entry j j) (off i)
    ++ (changed_place p ++ map (λ j. changed_entry (j - p.added + p.removed) j) (none i))

-- one that stays before the place
pub moved_before : (p : ItemSplice) (seat k moved : ℕ) (ks : List ℕ) → k < p.at → Ascending (k + 1) ks
    → moved ≡ distance seat k (k + 1)
    → HasMoved seat (changed_items p (k ∷ ks)) (raised 0 moved) (k + 1) (changed_items p ks)
moved_before p seat k moved ks lt up is =
    let all = from_items p (k + 1) ks (omega (arith, lt)) (ascending_above (k + 1) ks up) in
    subst (λ m. HasMoved seat (changed_items p (k ∷ ks)) (raised 0 m) (k + 1) (changed_items p ks)) (sym is)
    (subst (λ cs. HasMoved seat cs (raised 0 (distance seat k (k + 1))) (k + 1) (changed_items p ks))
    (sym (before_step p k ks lt)) (moved_entry seat k k (changed_items p ks) all refl))

-- a fresh one
pub moved_fresh : (p : ItemSplice) (seat k : ℕ) (ks : List ℕ) → p.at ≤ k → k < p.at + p.added
    → HasMoved seat (changed_items p (k ∷ ks)) 0 seat (changed_items p ks)
moved_fresh p seat k ks le lt = subst (λ cs. HasMoved seat cs 0 seat (changed_items p ks))
    (sym (fresh_step p k ks le lt)) (record { moves_are = refl; seat_is = refl })

-- one of which all stand in place
pub moved_own : (seat k moved : ℕ) (ks : List ℕ) → Ascending (k + 1) ks → moved ≡ distance seat k (k + 1)
    → HasMoved seat (map (λ j. changed_entry j j) (k ∷ ks)) (raised 0 moved) (k + 1)
    (map (λ j. changed_entry j j) ks)
moved_own seat k moved ks up is =
    subst (λ m. HasMoved seat (map (λ j. changed_entry j j) (k ∷ ks)) (raised 0 m) (k + 1)
    (map (λ j. changed_entry j j) ks)) (sym is)
    (moved_entry seat k k (map (λ j. changed_entry j j) ks)
    (from_own (k + 1) ks (ascending_above (k + 1) ks up)) refl)

-- ---- the place

-- behind the place the same entries lie between, whether they are told by old numbers or by new ones
between_shifted : (removed added end : ℕ) (ks : List ℕ) → added ≤ end → Ascending end ks
    → unchanged_between (end - added + removed) (map (λ k. changed_entry (k - added + removed) k) ks)
    ≡ unchanged_between end (map (λ k. changed_entry k k) ks)
between_shifted removed added end [] le up = refl
between_shifted removed added end (k ∷ ks) le up =
    let here = up.0 in
    let gap : k - added + removed - (end - added + removed) ≡ k - end = omega (arith, le, here) in
    let to : k - added + removed + 1 ≡ k + 1 - added + removed = omega (arith, le, here) in
    let next : k + 1 ≡ suc k = omega arith in
    let rest = between_shifted removed added (k + 1) ks (omega (arith, le, here))
    (subst (λ n. Ascending n ks) (sym next) up.1) in
    λ i. gap i + (ap (λ n. unchanged_between n (map (λ j. changed_entry (j - added + removed) j) ks)) to
    ∙ rest) i

seat_shifted : (f g : ℕ → ℕ) (seat : ℕ) (ks : List ℕ) → seat_behind seat (map (λ k. changed_entry (f k) k) ks)
    ≡ seat_behind seat (map (λ k. changed_entry (g k) k) ks)
seat_shifted f g seat [] = refl
seat_shifted f g seat (k ∷ ks) = seat_shifted f g (k + 1) ks

same_numbers : (removed added : ℕ) (ks : List ℕ) → removed ≡ 0 → added ≡ 0
    → map (λ k. changed_entry (k - added + removed) k) ks ≡ map (λ k. changed_entry k k) ks
same_numbers removed added [] none empty = refl
same_numbers removed added (k ∷ ks) none empty =
    let same : k - added + removed ≡ k = omega (arith, none, empty) in
    let rest = same_numbers removed added ks none empty in
    λ i. changed_entry (same i) k ∷ rest i

-- what is left where all before the place is done
left_behind : (p : ItemSplice) (ks : List ℕ) → Ascending (p.at + p.added) ks
    → changed_items p ks ≡ changed_place p ++ map (λ k. changed_entry (k - p.added + p.removed) k) ks
left_behind p ks up =
    let all = ascending_above (p.at + p.added) ks up in
    let none = none_below p.at ks
    (ascending_above p.at ks (lower p.at (p.at + p.added) ks (omega arith) up)) in
    let every = all_behind (p.at + p.added) ks all in
    λ i. map (λ k. changed_entry k k) (none i)
    ++ (changed_place p ++ map (λ k. changed_entry (k - p.added + p.removed) k) (every i))
  where
    lower : (a b : ℕ) (js : List ℕ) → a ≤ b → Ascending b js → Ascending a js
    lower a b [] le h = tt
    lower a b (j ∷ js) le h = ((let here = h.0 in omega (arith, le, here)), h.1)

-- the place is put
pub moved_place : (p : ItemSplice) (seat moved now : ℕ) (ks : List ℕ) → Ascending (p.at + p.added) ks
    → 0 < p.removed + p.added → moved ≡ distance seat p.at (p.at + p.removed) → now ≡ p.at + p.added
    → HasMoved seat (changed_items p ks) (raised 0 moved) now (map (λ k. changed_entry k k) ks)
moved_place p seat moved now ks up some is at =
    let olds = map (λ k. changed_entry (k - p.added + p.removed) k) ks in
    let owns = map (λ k. changed_entry k k) ks in
    let here : Changed = record { from = p.at; to = p.at + p.removed; end = p.at + p.added } in
    let place : changed_place p ≡ here ∷ [] =
    ap (λ b. cond b (here ∷ []) []) (lt-ltb 0 (p.removed + p.added) some) in
    let all : changed_items p ks ≡ here ∷ olds = left_behind p ks up ∙ ap (λ l. l ++ olds) place in
    let from : p.at + p.removed ≡ p.at + p.added - p.added + p.removed = omega arith in
    let shift = ap (λ n. unchanged_between n olds) from
    ∙ between_shifted p.removed p.added (p.at + p.added) ks (omega arith) up in
    let on = moves_on (p.at + p.added) owns
    (from_own (p.at + p.added) ks (ascending_above (p.at + p.added) ks up)) in
    let there : HasMoved seat (here ∷ olds) (raised 0 (distance seat p.at (p.at + p.removed)))
    (p.at + p.added) owns = record {
      moves_are = omega (arith, shift, on);
      seat_is = seat_shifted (λ k. k - p.added + p.removed) (λ k. k) (p.at + p.added) ks;
    } in
    subst (λ n. HasMoved seat (changed_items p ks) (raised 0 moved) n owns) (sym at)
    (subst (λ m. HasMoved seat (changed_items p ks) (raised 0 m) (p.at + p.added) owns) (sym is)
    (subst (λ cs. HasMoved seat cs (raised 0 (distance seat p.at (p.at + p.removed))) (p.at + p.added) owns)
    (sym all) there))

-- nothing goes and nothing comes
pub moved_nothing : (p : ItemSplice) (seat : ℕ) (ks : List ℕ) → Ascending (p.at + p.added) ks → p.removed ≡ 0
    → p.added ≡ 0 → HasMoved seat (changed_items p ks) 0 seat (map (λ k. changed_entry k k) ks)
moved_nothing p seat ks up none empty =
    let olds = map (λ k. changed_entry (k - p.added + p.removed) k) ks in
    let nothing : changed_place p ≡ [] =
    ap (λ b. cond b (record { from = p.at; to = p.at + p.removed; end = p.at + p.added } ∷ []) [])
    (le-ltb 0 (p.removed + p.added) (omega (arith, none, empty))) in
    let all : changed_items p ks ≡ map (λ k. changed_entry k k) ks = left_behind p ks up
    ∙ ap (λ l. l ++ olds) nothing ∙ same_numbers p.removed p.added ks none empty in
    subst (λ cs. HasMoved seat cs 0 seat (map (λ k. changed_entry k k) ks)) (sym all)
    (record { moves_are = refl; seat_is = refl })

-- ---- one after another

pub moved_none : (seat : ℕ) (cs : List Changed) → HasMoved seat cs 0 seat cs
moved_none seat cs = record { moves_are = refl; seat_is = refl }

pub moved_then : (seat moved more now next : ℕ) (all cs ds : List Changed) → HasMoved seat all moved now cs
    → HasMoved now cs more next ds → HasMoved seat all (raised moved more) next ds
moved_then seat moved more now next all cs ds h k = record {
  moves_are = let x = h.moves_are in let y = k.moves_are in omega (arith, x, y);
  seat_is = h.seat_is ∙ k.seat_is;
}

-- ---- what lists count

pub counted_none : (count : ℕ) → IsCounted count count 0
counted_none count = record { rises = omega arith; counter_is = omega arith }

pub counted_exactly : (old new n : ℕ) → new ≡ old + n → n < 2 ^ 64 → IsCounted old new n
counted_exactly old new n is fits = record { rises = omega (arith, is); counter_is = omega (arith, is, fits) }

pub counted_then : (old mid new first more both : ℕ) → IsCounted old mid first → IsCounted mid new more
    → both ≡ raised first more → IsCounted old new both
counted_then old mid new first more both h k sum =
    let a = h.rises in
    let b = h.counter_is in
    let c = k.rises in
    let d = k.counter_is in
    record { rises = omega (arith, a, c); counter_is = omega (arith, a, b, c, d, sum) }

-- a counter that is less than the greatest number says all
pub counted_all : (old new n : ℕ) → IsCounted old new n → n < 2 ^ 64 - 1 → new ≡ old + n
counted_all old new n h few = let a = h.rises in let b = h.counter_is in omega (arith, a, b, few)

-- ---- no more move than there are, twice

-- the changes stand in order, from this index on, and all end by that one
abbrev AreOrdered : ℕ → ℕ → List Changed → Type 0
AreOrdered from most [] = from ≤ most
AreOrdered from most (c ∷ cs) = (from ≤ c.from) × (c.from ≤ c.to) × AreOrdered c.to most cs

between_most : (from most : ℕ) (cs : List Changed) → AreOrdered from most cs
    → unchanged_between from cs + from ≤ most
between_most from most [] is = omega (arith, is)
between_most from most (c ∷ cs) is =
    let a = is.0 in
    let b = is.1 in
    let rest = between_most c.to most cs is.2 in
    omega (arith, a, b, rest)

moves_most : (seat most : ℕ) (cs : List Changed) → AreOrdered 0 most cs → moves seat cs ≤ seat + most
moves_most seat most [] is = omega arith
moves_most seat most (c ∷ cs) is =
    let b = is.1 in
    let rest = between_most c.to most cs is.2 in
    omega (arith, b, rest)

ordered_joined : (from mid most : ℕ) (cs ds : List Changed) → AreOrdered from mid cs → AreOrdered mid most ds
    → AreOrdered from most (cs ++ ds)
ordered_joined from mid most [] [] is more = omega (arith, is, more)
ordered_joined from mid most [] (d ∷ ds) is more = ((let a = more.0 in omega (arith, is, a)), more.1, more.2)
ordered_joined from mid most (c ∷ cs) ds is more = (is.0, is.1, ordered_joined c.to mid most cs ds is.2 more)

ascending_less : (a b : ℕ) (ks : List ℕ) → a ≤ b → Ascending b ks → Ascending a ks
ascending_less a b [] le up = tt
ascending_less a b (k ∷ ks) le up = ((let here = up.0 in omega (arith, le, here)), up.1)

before_ordered : (p : ItemSplice) (from : ℕ) (ks : List ℕ) → from ≤ p.at → Ascending from ks
    → AreOrdered from p.at (changed_before p ks)
before_ordered p from [] le up = le
before_ordered p from (k ∷ ks) le up =
    let here = up.0 in
    let next : suc k ≡ k + 1 = omega arith in
    by (before_ordered p from ks le (ascending_less from (suc k) ks (omega (arith, here)) up.1))
    (λ lt. before_ordered p (k + 1) ks (omega (arith, lt)) (subst (λ n. Ascending n ks) next up.1))
    (cases_lt k p.at)
  where
    put : ℕ → Changed
    put j = changed_entry j j

    by : AreOrdered from p.at (changed_before p ks)
        → (k < p.at → AreOrdered (k + 1) p.at (changed_before p ks)) → (k < p.at) ⊎ (p.at ≤ k)
        → AreOrdered from p.at (changed_before p (k ∷ ks))
    by rest more (inl lt) = subst (λ l. AreOrdered from p.at (map put l))
        (sym (filter_on (λ j. nat_lt j p.at) k ks (lt-ltb k p.at lt))) (up.0, omega arith, more lt)
    by rest more (inr ge) = subst (λ l. AreOrdered from p.at (map put l))
        (sym (filter_off (λ j. nat_lt j p.at) k ks (le-ltb k p.at ge))) rest

place_ordered : (p : ItemSplice) → AreOrdered p.at (p.at + p.removed) (changed_place p)
place_ordered p = by (nat_lt 0 (p.removed + p.added))
  where
    by : (b : Bool) → AreOrdered p.at (p.at + p.removed)
        (cond b (record { from = p.at; to = p.at + p.removed; end = p.at + p.added } ∷ []) [])
    by true = (omega arith, omega arith, omega arith)
    by false = omega arith

-- each of these is less than this number
abbrev pub AreBelow : ℕ → List ℕ → Type 0
AreBelow high [] = Unit {0}
AreBelow high (k ∷ ks) = (k < high) × AreBelow high ks

behind_ordered : (p : ItemSplice) (most from low : ℕ) (ks : List ℕ) → p.removed ≤ most → from ≤ most
    → Ascending low ks → AreBelow (most - p.removed + p.added) ks
    → ((k : ℕ) → low ≤ k → p.at + p.added ≤ k → from ≤ k - p.added + p.removed)
    → AreOrdered from most (changed_behind p ks)
behind_ordered p most from low [] within le up below order = le
behind_ordered p most from low (k ∷ ks) within le up below order =
    let here = up.0 in
    let lt = below.0 in
    by (behind_ordered p most from (suc k) ks within le up.1 below.1
    (λ j high. order j (omega (arith, high, here))))
    (λ ge. behind_ordered p most (k - p.added + p.removed + 1) (suc k) ks within
    (omega (arith, within, lt, ge)) up.1 below.1 (λ j high far. omega (arith, high, far, ge)))
    (cases_lt k (p.at + p.added))
  where
    test : ℕ → Bool
    test j = nat_lt (p.at + p.added) (j + 1)

    put : ℕ → Changed
    put j = changed_entry (j - p.added + p.removed) j

    by : AreOrdered from most (changed_behind p ks)
        → (p.at + p.added ≤ k → AreOrdered (k - p.added + p.removed + 1) most (changed_behind p ks))
        → (k < p.at + p.added) ⊎ (p.at + p.added ≤ k)
        → AreOrdered from most (changed_behind p (k ∷ ks))
    by rest more (inl lt) = subst (λ l. AreOrdered from most (map put l))
        (sym (filter_off test k ks (le-ltb (p.at + p.added) (k + 1) (omega (arith, lt))))) rest
    by rest more (inr ge) =
        subst (λ l. AreOrdered from most (map put l))
        (sym (filter_on test k ks (lt-ltb (p.at + p.added) (k + 1) (omega (arith, ge)))))
        (order k up.0 ge, omega arith, more ge)

-- of so many entries, where the seat is among them
pub items_most : (p : ItemSplice) (seat count : ℕ) (ks : List ℕ) → p.at + p.removed ≤ count → Ascending 0 ks
    → AreBelow (count - p.removed + p.added) ks → moves seat (changed_items p ks) ≤ seat + count
items_most p seat count ks within up below =
    moves_most seat count (changed_items p ks)
    (ordered_joined 0 p.at count (changed_before p ks) (changed_place p ++ changed_behind p ks)
    (before_ordered p 0 ks (omega arith) up)
    (ordered_joined p.at (p.at + p.removed) count (changed_place p) (changed_behind p ks) (place_ordered p)
    (behind_ordered p count (p.at + p.removed) 0 ks (omega (arith, within)) within up below
    (λ k low far. omega (arith, far)))))
