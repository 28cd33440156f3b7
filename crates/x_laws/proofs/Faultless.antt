-- Where no item has a fault, each declared name has one declarer, which is the first.
use Rattle.std.proofs.Common.{◌≡◌, ◌<◌, ◌≤◌, inl, inr, ℕ, zero, suc, ◌+◌, Bool, true, false, ◌||◌, cond, map}
use Rattle.std.proofs.Common.{List, [], ◌∷◌, ◌++◌, Option, None, Some, refl, sym, ap, subst, ◌∙◌, arith}
use Rattle.std.specs.Prelude.{slice_get, nat_lt}
use Rattle.std.specs.List.{IsAmong}
use Rattle.std.specs.Str.{bytes_eq}
use Rattle.std.proofs.lemmas.Bool.Decides.{nat_tests}
use Rattle.std.proofs.lemmas.Slice.Eq.{bytes_eq-Decides}
use Rattle.std.proofs.lemmas.Option.{same_Some}
use Rattle.x_trees.specs.Tree.{Definition}
use Rattle.x_trees.specs.Names.{Declared, declared}
use Rattle.x_trees.specs.Seen.{names_of}
use Rattle.x_trees.specs.Mentions.{mentioned}
use Rattle.x_trees.specs.declared.names.declared_name.NameKind.TheVariants as kinds
use Rattle.x_names.specs.Declarers.{is_beforehand, IsDeclarer, IsEarlier, IsFirstDeclarer, first_from}
use Rattle.x_names.specs.Declarers.{first_declarer}
use Rattle.x_names.proofs.DeclarerLaws.{first_found, found_is_first}
use Rattle.x_names.specs.declared.names.Declarer.{Declarer}
use Rattle.x_rules.specs.Views.{View, Earlier, Own, Later, view_in, seen}
use Rattle.x_rules.specs.Results.{Outcome, IsOutcome, IsResult, AreResultsFrom, AreResults, result_at}
use Rattle.x_rules.specs.Results.{view_of, view_by, meaning_at, beforehand_meaning, no_names}
use Rattle.x_rules.specs.Rules.{IsEarlierName, IsDuplicate, AreFaults}
use Rattle.x_rules.specs.declared.fault.RuleCode.TheVariants as codes
use Rattle.x_rules.specs.declared.fault.WordFault.{WordFault}
use Rattle.x_trees.proofs.AmongLemmas.{among_none, among_first, among_more}
use Rattle.x_laws.specs.Meant.{AreFaultless}

-- ---- what is found of an item

pub record HasOutcome (definitions : List (Option Definition)) (results : List (Option Outcome)) (item : ℕ)
    (d : Definition) : Type 0 where
  pub outcome : Outcome
  pub is : slice_get results item ≡ Some (Some outcome)
  pub are_faults : AreFaults d (seen d (map (view_by no_names definitions (result_at results) item)
      (names_of d))) outcome.faults
  pub all : IsOutcome d (map (view_by no_names definitions (result_at results) item) (names_of d)) outcome

outcome_from : (definitions : List (Option Definition)) (read : ℕ → Option Outcome) (n : ℕ)
    (ds : List (Option Definition)) (os : List (Option Outcome)) (index : ℕ) (d : Definition)
    → AreResultsFrom no_names definitions read n ds os → slice_get ds index ≡ Some (Some d)
    → (o : Outcome) × (slice_get os index ≡ Some (Some o))
    × IsOutcome d (map (view_by no_names definitions read (n + index)) (names_of d)) o
outcome_from definitions read n [] os index d h there = absurd cc
outcome_from definitions read n (x ∷ ds) [] index d h there = absurd h
outcome_from definitions read n (x ∷ ds) (o ∷ os) zero d h there = by x o (same_Some x (Some d) there) h.0
  where
    by : (x : Option Definition) (o : Option Outcome) → x ≡ Some d → IsResult no_names definitions read n x o
        → (o' : Outcome) × (slice_get (o ∷ os) 0 ≡ Some (Some o'))
        × IsOutcome d (map (view_by no_names definitions read (n + 0)) (names_of d)) o'
    by None o e r = absurd cc
    by (Some y) None e r = absurd r
    by (Some y) (Some o) e r =
        let same : y ≡ d = same_Some y d e in
        let at : n ≡ n + 0 = omega arith in (
          o,
          refl,
          subst (λ k. IsOutcome d (map (view_by no_names definitions read k) (names_of d)) o) at
              (subst (λ z. IsOutcome z (map (view_by no_names definitions read n) (names_of z)) o) same r),
        )
outcome_from definitions read n (x ∷ ds) (o ∷ os) (suc index) d h there =
    let rest = outcome_from definitions read (suc n) ds os index d h.1 there in
    let at : suc n + index ≡ n + suc index = omega arith in (
      rest.0,
      rest.1,
      subst (λ k. IsOutcome d (map (view_by no_names definitions read k)
          (names_of d)) rest.0) at rest.2,
    )

pub outcome_of : (definitions : List (Option Definition)) (results : List (Option Outcome)) (item : ℕ)
    (d : Definition) → AreResults no_names definitions results
    → slice_get definitions item ≡ Some (Some d) → HasOutcome definitions results item d
outcome_of definitions results item d h there =
    let found = outcome_from definitions (result_at results) 0 definitions results item d h there in
    let at : 0 + item ≡ item = omega arith in
    let all : IsOutcome d (map (view_by no_names definitions (result_at results) item) (names_of d)) found.0 =
    subst (λ k. IsOutcome d (map (view_by no_names definitions (result_at results) k)
    (names_of d)) found.0) at found.2 in
    record { outcome = found.0; is = found.1; are_faults = all.are_faults; all = all }

-- ---- views

-- one of the names is this one
abbrev pub is_listed : List ℕ → List (List ℕ) → Bool
is_listed name [] = false
is_listed name (n ∷ ns) = bytes_eq name n || is_listed name ns

view_mapped : (see : List ℕ → View) (names : List (List ℕ)) (name : List ℕ) → is_listed name names ≡ true
    → view_in names (map see names) name ≡ see name
view_mapped see [] name h = absurd cc
view_mapped see (n ∷ ns) name h = by (bytes_eq name n) refl h (λ k. view_mapped see ns name k)
  where
    by : (b : Bool) → bytes_eq name n ≡ b → b || is_listed name ns ≡ true
        → (is_listed name ns ≡ true → view_in ns (map see ns) name ≡ see name)
        → cond b (see n) (view_in ns (map see ns) name) ≡ see name
    by true e k more = ap see (sym ((bytes_eq-Decides name n).0 e))
    by false e k more = more k

or_left : (a b : Bool) → a ≡ true → a || b ≡ true
or_left true b e = refl
or_left false b e = absurd cc

or_right : (a b : Bool) → b ≡ true → a || b ≡ true
or_right true b e = refl
or_right false b e = e

pub listed_front : (name : List ℕ) (ns ms : List (List ℕ)) → is_listed name ns ≡ true
    → is_listed name (ns ++ ms) ≡ true
listed_front name [] ms h = absurd cc
listed_front name (n ∷ ns) ms h = by (bytes_eq name n) h (λ k. listed_front name ns ms k)
  where
    by : (b : Bool) → b || is_listed name ns ≡ true
        → (is_listed name ns ≡ true → is_listed name (ns ++ ms) ≡ true)
        → b || is_listed name (ns ++ ms) ≡ true
    by true k more = refl
    by false k more = more k

pub listed_rear : (name : List ℕ) (ns ms : List (List ℕ)) → is_listed name ms ≡ true
    → is_listed name (ns ++ ms) ≡ true
listed_rear name [] ms h = h
listed_rear name (n ∷ ns) ms h = or_right (bytes_eq name n) (is_listed name (ns ++ ms))
    (listed_rear name ns ms h)

declared_listed : (xs : List Declared) (k : ℕ) (x : Declared) (name : List ℕ) → slice_get xs k ≡ Some x
    → x.name ≡ name → is_listed name (map (λ y. y.name) xs) ≡ true
declared_listed [] k x name h same = absurd cc
declared_listed (y ∷ ys) zero x name h same =
    or_left (bytes_eq name y.name) (is_listed name (map (λ z. z.name) ys))
    ((bytes_eq-Decides name y.name).1 (sym (ap (λ z. z.name) (same_Some y x h) ∙ same)))
declared_listed (y ∷ ys) (suc k) x name h same =
    or_right (bytes_eq name y.name) (is_listed name (map (λ z. z.name) ys))
    (declared_listed ys k x name h same)

-- what an item sees of a name that it sees
pub view_seen : (d : Definition) (see : List ℕ → View) (name : List ℕ) → is_listed name (names_of d) ≡ true
    → seen d (map see (names_of d)) name ≡ see name
view_seen d see name h = view_mapped see (names_of d) name h

-- ---- duplicates

record IsBeforeIn (xs : List Declared) (k : ℕ) (x : Declared) : Type 0 where
  front : List Declared
  rear : List Declared
  parts : xs ≡ front ++ x ∷ rear
  before : (j : ℕ) (y : Declared) → j < k → slice_get xs j ≡ Some y → IsAmong front y

parted : (xs : List Declared) (k : ℕ) (x : Declared) → slice_get xs k ≡ Some x → IsBeforeIn xs k x
parted [] k x h = absurd cc
parted (y ∷ ys) zero x h = record {
  front = [];
  rear = ys;
  parts = ap (λ z. z ∷ ys)
      (same_Some y x h);
  before = λ j z lt e. absurd (omega (arith, lt));
}
parted (y ∷ ys) (suc k) x h =
    let rest = parted ys k x h in
    record {
      front = y ∷ rest.front;
      rear = rest.rear;
      parts = ap
          (λ l. y ∷ l) rest.parts;
      before = λ j z lt e. by rest j z lt e;
    }
  where
    by : (rest : IsBeforeIn ys k x) (j : ℕ) (z : Declared) → j < suc k → slice_get (y ∷ ys) j ≡ Some z
        → IsAmong (y ∷ rest.front) z
    by rest zero z lt e = subst (λ w. IsAmong (y ∷ rest.front) w) (same_Some y z e) (among_first y rest.front)
    by rest (suc j) z lt e = among_more y z rest.front (rest.before j z (omega (arith, lt)) e)

-- an item in which a name is declared that an earlier place declares has a fault
no_duplicate : (definitions : List (Option Definition)) (results : List (Option Outcome)) (item : ℕ)
    (d : Definition) (x : Declared) → AreFaultless results
    → (o : HasOutcome definitions results item d)
    → IsDuplicate (declared d) (seen d (map (view_by no_names definitions (result_at results) item)
    (names_of d))) x.word → ⊥
no_duplicate definitions results item d x fine o twice =
    let none = fine item o.outcome o.is in
    let fault : WordFault = record { word = x.word; code = codes.Duplicate } in
    among_none fault (subst (λ fs. IsAmong fs fault) none (o.are_faults.are_all x.word codes.Duplicate twice))

own_listed : (d : Definition) (k : ℕ) (x : Declared) (name : List ℕ) → slice_get (declared d) k ≡ Some x
    → x.name ≡ name → is_listed name (names_of d) ≡ true
own_listed d k x name h same = listed_front name (map (λ y. y.name) (declared d))
    (map (λ m. m.name) (mentioned d)) (declared_listed (declared d) k x name h same)

earlier_beforehand : (definitions : List (Option Definition)) (read : ℕ → Option Outcome) (item : ℕ)
    (name : List ℕ) → is_beforehand name ≡ true → IsEarlierName (view_by no_names definitions read item name)
earlier_beforehand definitions read item name e =
    subst IsEarlierName (sym (ap (λ b. cond b (Earlier kinds.Constant false (beforehand_meaning name))
    (view_of read item (first_declarer definitions name))) e)) tt

earlier_before : (definitions : List (Option Definition)) (read : ℕ → Option Outcome) (item : ℕ)
    (name : List ℕ) (at : Declarer) → is_beforehand name ≡ false
    → first_from 0 definitions name ≡ Some at → at.item < item
    → IsEarlierName (view_by no_names definitions read item name)
earlier_before definitions read item name at free found lt =
    let first : first_declarer definitions name ≡ Some at = ap
    (λ b. cond b None (first_from 0 definitions name)) free ∙ found in
    let before : nat_lt at.item item ≡ true = grind (arith, nat_tests) in
    let view : view_by no_names definitions read item name ≡ Earlier at.kind at.lifted (meaning_at read at) =
    ap (λ b. cond b (Earlier kinds.Constant false (beforehand_meaning name))
    (view_of read item (first_declarer definitions name))) free
    ∙ ap (view_of read item) first
    ∙ ap (λ b. cond b (Earlier at.kind at.lifted (meaning_at read at))
    (cond (nat_lt item at.item) (Later at.kind at.lifted) (Own at.kind at.lifted))) before in
    subst IsEarlierName (sym view) tt

-- every declarer is the first of its name
pub only_declarer : (definitions : List (Option Definition)) (results : List (Option Outcome))
    (name : List ℕ) (at : Declarer) → AreResults no_names definitions results → AreFaultless results
    → IsDeclarer definitions name at → IsFirstDeclarer definitions name at
only_declarer definitions results name at are fine declares = record {
  not_beforehand = by (is_beforehand name) refl;
  declares = declares;
  none_earlier = λ other k earlier. none_before other k earlier;
}
  where
    twice_seen : IsEarlierName (view_by no_names definitions (result_at results) at.item name) → ⊥
    twice_seen h =
        let parts = parted (declared declares.definition) at.place
        (record { name = name; word = at.word; kind = at.kind; lifted = at.lifted }) declares.declares in
        let see = sym (view_seen declares.definition
        (view_by no_names definitions (result_at results) at.item) name
        (own_listed declares.definition at.place
        (record { name = name; word = at.word; kind = at.kind; lifted = at.lifted }) name
        declares.declares refl)) in
        no_duplicate definitions results at.item declares.definition
        (record { name = name; word = at.word; kind = at.kind; lifted = at.lifted }) fine
        (outcome_of definitions results at.item declares.definition are declares.item_is)
        (record {
          front = parts.front;
          here = record { name = name; word = at.word; kind = at.kind; lifted = at.lifted };
          rear = parts.rear;
          parts = parts.parts;
          word_is = refl;
          earlier = inl (subst IsEarlierName see h);
        })

    by : (b : Bool) → is_beforehand name ≡ b → is_beforehand name ≡ false
    by true e = absurd (twice_seen (earlier_beforehand definitions (result_at results) at.item name e))
    by false e = e

    none_before : (other : Declarer) → IsDeclarer definitions name other → IsEarlier other at → ⊥
    none_before other k (inl lt) =
        let free = by (is_beforehand name) refl in
        let found = first_found definitions name other free k in
        let first = found_is_first definitions name found.0 found.1 free in
        let near : found.0.item ≤ other.item = omega
        (arith, (λ (before : other.item < found.0.item). first.none_earlier other k (inl before))) in
        twice_seen (earlier_before definitions (result_at results) at.item name found.0 free found.1
        (omega (arith, near, lt)))
    none_before other k (inr same) =
        let parts = parted (declared declares.definition) at.place
        (record { name = name; word = at.word; kind = at.kind; lifted = at.lifted }) declares.declares in
        let there : slice_get definitions at.item ≡ Some (Some k.definition) = ap (slice_get definitions)
        (sym same.0) ∙ k.item_is in
        let one : declares.definition ≡ k.definition = same_Some declares.definition k.definition
        (same_Some (Some declares.definition) (Some k.definition) (sym declares.item_is ∙ there)) in
        let y : Declared = record
        { name = name; word = other.word; kind = other.kind; lifted = other.lifted } in
        let among = parts.before other.place y same.1
        (ap (λ z. slice_get (declared z) other.place) one ∙ k.declares) in
        no_duplicate definitions results at.item declares.definition
        (record { name = name; word = at.word; kind = at.kind; lifted = at.lifted }) fine
        (outcome_of definitions results at.item declares.definition are declares.item_is)
        (record {
          front = parts.front;
          here = record { name = name; word = at.word; kind = at.kind; lifted = at.lifted };
          rear = parts.rear;
          parts = parts.parts;
          word_is = refl;
          earlier = inr (record { other = y; among = among; same = refl });
        })
