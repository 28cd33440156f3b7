-- The names that are found to be declared twice are those that the rule names.
use Rattle.std.specs.Prelude.{nat_lt, ◌||◌}
use Rattle.std.proofs.Common.{◌≡◌, ℕ, suc, ◌+◌, ◌<◌, ◌≤◌, ◌⊎◌, inl, inr, Bool, true, false, cond, List, []}
use Rattle.std.proofs.Common.{◌∷◌, ◌++◌, map, length, length-append, Option, None, Some, arith, refl, sym, ap}
use Rattle.std.proofs.Common.{subst, ◌∙◌, append_assoc, append-nil}
use Rattle.std.proofs.lemmas.Bool.Decides.{nat_tests}
use Rattle.std.proofs.lemmas.Option.{same_Some}
use Rattle.std.proofs.lemmas.Slice.Eq.{bytes_eq-Decides}
use Rattle.std.specs.List.{IsAmong}
use Rattle.std.specs.Str.{bytes_eq}
use Rattle.x_trees.specs.Names.{Declared}
use Rattle.x_rules.specs.Views as views
use Rattle.x_rules.specs.Views.{View}
use Rattle.x_rules.specs.FirstPlaces.{first_place, is_behind}
use Rattle.x_rules.specs.Found.{fault_at, is_earlier_name, is_taken_at, duplicate_code, duplicates_from}
use Rattle.x_rules.specs.Rules.{IsEarlierName, HasName, IsDuplicate}
use Rattle.x_rules.specs.declared.fault.RuleCode.{RuleCode}
use Rattle.x_rules.specs.declared.fault.RuleCode.TheVariants as codes
use Rattle.x_rules.specs.declared.fault.WordFault.{WordFault}
use Rattle.x_trees.proofs.AmongLemmas.{among_first, among_more, among_cases, among_none, among_front}
use Rattle.x_trees.proofs.AmongLemmas.{among_rear, among_parts}
use Rattle.x_rules.proofs.FamilyLemmas.{fault_is, is_fault}
use Rattle.x_rules.proofs.FirstLemmas.{place_from}
use Rattle.x_lists.proofs.ListLemmas.{map_append}

abbrev name_of : Declared → List ℕ
name_of x = x.name

-- a first place before that of other names is among these
pub found_behind : {X : Type 0} (name_of : X → List ℕ) (n : ℕ) (xs : List X) (rest : List (List ℕ))
    (name : List ℕ) → is_behind (first_place n (map name_of xs ++ rest) name) (n + length xs) ≡ true
    → HasName name_of xs name
found_behind name_of n [] rest name h = by (first_place n rest name) refl
  where
    by : (o : Option ℕ) → first_place n rest name ≡ o → HasName name_of [] name
    by None e = let is : false ≡ true = sym (ap (λ o. is_behind o (n + 0)) e) ∙ h in absurd (cc)
    by (Some k) e =
        let le = place_from (bytes_eq name) n rest k e in
        let test : nat_lt k (n + 0) ≡ true = sym (ap (λ o. is_behind o (n + 0)) e) ∙ h in
        absurd (no k test le)
      where
        no : (k : ℕ) → nat_lt k (n + 0) ≡ true → n ≤ k → ⊥
        no k t le = let lt : k < n + 0 = grind (arith, nat_tests) in omega (arith, lt, le)
found_behind name_of n (x ∷ xs) rest name h =
    by (bytes_eq name (name_of x)) refl (found_behind name_of (suc n) xs rest name)
  where
    next : n + length (x ∷ xs) ≡ suc n + length xs
    next = omega arith

    by : (b : Bool) → bytes_eq name (name_of x) ≡ b
        → (is_behind (first_place (suc n) (map name_of xs ++ rest) name) (suc n + length xs) ≡ true
        → HasName name_of xs name) → HasName name_of (x ∷ xs) name
    by true e more =
        record { other = x; among = among_first x xs; same = sym ((bytes_eq-Decides name (name_of x)).0 e) }
    by false e more =
        let o = more (sym (ap (λ k. is_behind (first_place (suc n) (map name_of xs ++ rest) name) k) next)
        ∙ sym (ap (λ b. is_behind (cond b (Some n) (first_place (suc n) (map name_of xs ++ rest) name))
        (n + length (x ∷ xs))) e) ∙ h) in
        record { other = o.other; among = among_more x o.other xs o.among; same = o.same }

pub behind_found : {X : Type 0} (name_of : X → List ℕ) (n : ℕ) (xs : List X) (rest : List (List ℕ))
    (name : List ℕ) → HasName name_of xs name
    → is_behind (first_place n (map name_of xs ++ rest) name) (n + length xs) ≡ true
behind_found name_of n [] rest name h = absurd (among_none h.other h.among)
behind_found name_of n (x ∷ xs) rest name h = by (bytes_eq name (name_of x)) refl
    (among_cases x h.other xs h.among) (behind_found name_of (suc n) xs rest name)
  where
    next : n + length (x ∷ xs) ≡ suc n + length xs
    next = omega arith

    here : nat_lt n (n + length (x ∷ xs)) ≡ true
    here = let lt : n < n + length (x ∷ xs) = omega arith in grind (arith, nat_tests)

    by : (b : Bool) → bytes_eq name (name_of x) ≡ b → (h.other ≡ x) ⊎ IsAmong xs h.other
        → (HasName name_of xs name
        → is_behind (first_place (suc n) (map name_of xs ++ rest) name) (suc n + length xs) ≡ true)
        → is_behind (first_place n (map name_of (x ∷ xs) ++ rest) name) (n + length (x ∷ xs)) ≡ true
    by true e o more =
        ap (λ b. is_behind (cond b (Some n) (first_place (suc n) (map name_of xs ++ rest) name))
        (n + length (x ∷ xs))) e ∙ here
    by false e (inl same) more =
        let test : bytes_eq name (name_of x) ≡ true =
        (bytes_eq-Decides name (name_of x)).1 (sym h.same ∙ ap name_of same) in absurd (cc)
    by false e (inr k) more =
        ap (λ b. is_behind (cond b (Some n) (first_place (suc n) (map name_of xs ++ rest) name))
        (n + length (x ∷ xs))) e
        ∙ ap (is_behind (first_place (suc n) (map name_of xs ++ rest) name)) next
        ∙ more record { other = h.other; among = k; same = h.same }

earlier_is : (v : View) → is_earlier_name v ≡ true → IsEarlierName v
earlier_is views.Undeclared h = absurd (cc)
earlier_is (views.Earlier kind lifted meaning) h = tt
earlier_is (views.Own kind lifted) h = absurd (cc)
earlier_is (views.Later kind lifted) h = absurd (cc)

is_earlier : (v : View) → IsEarlierName v → is_earlier_name v ≡ true
is_earlier views.Undeclared h = absurd h
is_earlier (views.Earlier kind lifted meaning) h = refl
is_earlier (views.Own kind lifted) h = absurd h
is_earlier (views.Later kind lifted) h = absurd h

either : (a b : Bool) → (a || b) ≡ true → (a ≡ true) ⊎ (b ≡ true)
either true b h = inl refl
either false b h = inr h

or_true : (a b : Bool) → (a ≡ true) ⊎ (b ≡ true) → (a || b) ≡ true
or_true true b h = refl
or_true false b (inl e) = absurd (cc)
or_true false b (inr e) = e

-- the table has the first places of names, of which these come first
abbrev HasFirst : (List ℕ → Option ℕ) → List Declared → List (List ℕ) → Type 0
HasFirst first names rest = (name : List ℕ) → first name ≡ first_place 0 (map name_of names ++ rest) name

parts_of : (front : List Declared) (x : Declared) (xs : List Declared) (rest : List (List ℕ))
    → map name_of (front ++ x ∷ xs) ++ rest ≡ map name_of front ++ (map name_of (x ∷ xs) ++ rest)
parts_of front x xs rest = ap (λ l. l ++ rest) (map_append name_of front (x ∷ xs))
    ∙ append_assoc (map name_of front) (map name_of (x ∷ xs)) rest

zero_more : (n : ℕ) → 0 + n ≡ n
zero_more n = omega arith

behind_of : (first : List ℕ → Option ℕ) (front : List Declared) (x : Declared) (xs : List Declared)
    (rest : List (List ℕ)) → HasFirst first (front ++ x ∷ xs) rest
    → is_behind (first x.name) (length front)
    ≡ is_behind (first_place 0 (map name_of front ++ (map name_of (x ∷ xs) ++ rest)) x.name)
    (0 + length front)
behind_of first front x xs rest h =
    ap (λ o. is_behind o (length front))
    (h x.name ∙ ap (λ l. first_place 0 l x.name) (parts_of front x xs rest))
    ∙ ap (is_behind (first_place 0 (map name_of front ++ (map name_of (x ∷ xs) ++ rest)) x.name))
    (sym (zero_more (length front)))

taken_is : (see : List ℕ → View) (first : List ℕ → Option ℕ) (front : List Declared) (x : Declared)
    (xs : List Declared) (rest : List (List ℕ)) → HasFirst first (front ++ x ∷ xs) rest
    → is_taken_at see first (length front) x.name ≡ true
    → IsEarlierName (see x.name) ⊎ HasName name_of front x.name
taken_is see first front x xs rest h taken =
    by (either (is_earlier_name (see x.name)) (is_behind (first x.name) (length front)) taken)
  where
    by : (is_earlier_name (see x.name) ≡ true) ⊎ (is_behind (first x.name) (length front) ≡ true)
        → IsEarlierName (see x.name) ⊎ HasName name_of front x.name
    by (inl e) = inl (earlier_is (see x.name) e)
    by (inr e) = inr (found_behind name_of 0 front (map name_of (x ∷ xs) ++ rest) x.name
        (sym (behind_of first front x xs rest h) ∙ e))

is_taken : (see : List ℕ → View) (first : List ℕ → Option ℕ) (front : List Declared) (x : Declared)
    (xs : List Declared) (rest : List (List ℕ)) → HasFirst first (front ++ x ∷ xs) rest
    → IsEarlierName (see x.name) ⊎ HasName name_of front x.name
    → is_taken_at see first (length front) x.name ≡ true
is_taken see first front x xs rest h taken =
    or_true (is_earlier_name (see x.name)) (is_behind (first x.name) (length front)) (by taken)
  where
    by : IsEarlierName (see x.name) ⊎ HasName name_of front x.name
        → (is_earlier_name (see x.name) ≡ true) ⊎ (is_behind (first x.name) (length front) ≡ true)
    by (inl e) = inl (is_earlier (see x.name) e)
    by (inr e) = inr (behind_of first front x xs rest h
        ∙ behind_found name_of 0 front (map name_of (x ∷ xs) ++ rest) x.name e)

code_is : (b : Bool) (code : RuleCode) → duplicate_code b ≡ Some code → (b ≡ true) × (code ≡ codes.Duplicate)
code_is true code h = (refl, sym (same_Some codes.Duplicate code h))
code_is false code h = absurd (cc)

-- one name more is in front
moved : (first : List ℕ → Option ℕ) (front : List Declared) (x : Declared) (xs : List Declared)
    (rest : List (List ℕ)) → HasFirst first (front ++ x ∷ xs) rest
    → HasFirst first ((front ++ x ∷ []) ++ xs) rest
moved first front x xs rest h =
    subst (λ names. HasFirst first names rest) (sym (append_assoc front (x ∷ []) xs)) h

count : (front : List Declared) (x : Declared) → suc (length front) ≡ length (front ++ x ∷ [])
count front x = omega (arith, length-append front (x ∷ []))

pub found_duplicate : (see : List ℕ → View) (first : List ℕ → Option ℕ) (front xs : List Declared)
    (rest : List (List ℕ)) → HasFirst first (front ++ xs) rest → (f : WordFault)
    → IsAmong (duplicates_from see first (length front) xs) f
    → (f.code ≡ codes.Duplicate) × IsDuplicate (front ++ xs) see f.word
found_duplicate see first front [] rest h f k = absurd (among_none f k)
found_duplicate see first front (x ∷ xs) rest h f k =
    by (among_parts (fault_at x.word (duplicate_code (is_taken_at see first (length front) x.name)))
    (duplicates_from see first (suc (length front)) xs) f k)
    (found_duplicate see first (front ++ x ∷ []) xs rest (moved first front x xs rest h) f)
  where
    by : IsAmong (fault_at x.word (duplicate_code (is_taken_at see first (length front) x.name))) f
        ⊎ IsAmong (duplicates_from see first (suc (length front)) xs) f
        → (IsAmong (duplicates_from see first (length (front ++ x ∷ [])) xs) f
        → (f.code ≡ codes.Duplicate) × IsDuplicate ((front ++ x ∷ []) ++ xs) see f.word)
        → (f.code ≡ codes.Duplicate) × IsDuplicate (front ++ x ∷ xs) see f.word
    by (inl j) more =
        let is = fault_is x.word (duplicate_code (is_taken_at see first (length front) x.name)) f j in
        let code = code_is (is_taken_at see first (length front) x.name) f.code is.code_is in (
          code.1,
          record {
            front = front;
            here = x;
            rear = xs;
            parts = refl;
            word_is = is.word_is;
            earlier = taken_is see first front x xs rest h code.0;
          },
        )
    by (inr j) more =
        let rest_is = more (subst (λ n. IsAmong (duplicates_from see first n xs) f) (count front x) j) in
        (rest_is.0, subst (λ names. IsDuplicate names see f.word) (append_assoc front (x ∷ []) xs) rest_is.1)

-- where a list with one element more in front is split: there, or behind it
record Split (x here : Declared) (xs front rear : List Declared) : Type 0 where
  pub front_is : List Declared
  pub is_front : front ≡ x ∷ front_is
  pub rest_is : xs ≡ front_is ++ here ∷ rear

split : (x here : Declared) (xs front rear : List Declared) → x ∷ xs ≡ front ++ here ∷ rear
    → ((front ≡ []) × (x ≡ here) × (xs ≡ rear)) ⊎ Split x here xs front rear
split x here xs [] rear h = let a : x ≡ here = cc in let b : xs ≡ rear = cc in inl (refl, a, b)
split x here xs (y ∷ ys) rear h =
    let a : y ≡ x = cc in let b : xs ≡ ys ++ here ∷ rear = cc in
    inr record { front_is = ys; is_front = ap (λ z. z ∷ ys) a; rest_is = b }

-- a name behind these that is declared before is found
record IsTakenBehind (see : List ℕ → View) (before xs : List Declared) (word : ℕ) : Type 0 where
  pub front : List Declared
  pub here : Declared
  pub rear : List Declared
  pub parts : xs ≡ front ++ here ∷ rear
  pub word_is : word ≡ here.word
  pub earlier : IsEarlierName (see here.name) ⊎ HasName name_of (before ++ front) here.name

taken_found : (see : List ℕ → View) (first : List ℕ → Option ℕ) (before xs : List Declared)
    (rest : List (List ℕ)) → HasFirst first (before ++ xs) rest → (word : ℕ)
    → IsTakenBehind see before xs word
    → IsAmong (duplicates_from see first (length before) xs) (record { word = word; code = codes.Duplicate })
taken_found see first before [] rest h word k = absurd (none k.front k.here k.rear k.parts)
  where
    none : (front : List Declared) (here : Declared) (rear : List Declared) → [] ≡ front ++ here ∷ rear → ⊥
    none [] here rear e = cc
    none (x ∷ xs) here rear e = cc
taken_found see first before (x ∷ xs) rest h word k =
    by (split x k.here xs k.front k.rear k.parts)
    (taken_found see first (before ++ x ∷ []) xs rest (moved first before x xs rest h) word)
  where
    fault : WordFault
    fault = record { word = word; code = codes.Duplicate }

    by : ((k.front ≡ []) × (x ≡ k.here) × (xs ≡ k.rear)) ⊎ Split x k.here xs k.front k.rear
        → (IsTakenBehind see (before ++ x ∷ []) xs word
        → IsAmong (duplicates_from see first (length (before ++ x ∷ [])) xs)
        (record { word = word; code = codes.Duplicate }))
        → IsAmong (fault_at x.word (duplicate_code (is_taken_at see first (length before) x.name))
        ++ duplicates_from see first (suc (length before)) xs)
        (record { word = word; code = codes.Duplicate })
    by (inl e) more =
        let none : before ++ k.front ≡ before = ap (λ l. before ++ l) e.0 ∙ append-nil before in
        let earlier : IsEarlierName (see x.name) ⊎ HasName name_of before x.name =
        subst (λ l. IsEarlierName (see x.name) ⊎ HasName name_of l x.name) none
        (subst (λ y. IsEarlierName (see y.name) ⊎ HasName name_of (before ++ k.front) y.name)
        (sym e.1) k.earlier) in
        among_front (fault_at x.word (duplicate_code (is_taken_at see first (length before) x.name)))
        (duplicates_from see first (suc (length before)) xs) fault
        (is_fault word x.word (duplicate_code (is_taken_at see first (length before) x.name)) codes.Duplicate
        (k.word_is ∙ ap (λ y. y.word) (sym e.1))
        (ap duplicate_code (is_taken see first before x xs rest h earlier)))
    by (inr s) more =
        let front : before ++ k.front ≡ (before ++ x ∷ []) ++ s.front_is = ap (λ l. before ++ l) s.is_front
        ∙ sym (append_assoc before (x ∷ []) s.front_is) in
        among_rear (fault_at x.word (duplicate_code (is_taken_at see first (length before) x.name)))
        (duplicates_from see first (suc (length before)) xs) fault
        (subst (λ n. IsAmong (duplicates_from see first n xs)
        (record { word = word; code = codes.Duplicate })) (sym (count before x))
        (more record {
          front = s.front_is;
          here = k.here;
          rear = k.rear;
          parts = s.rest_is;
          word_is = k.word_is;
          earlier = subst (λ l. IsEarlierName (see k.here.name) ⊎ HasName name_of l k.here.name)
              front k.earlier;
        }))

pub duplicate_found : (see : List ℕ → View) (first : List ℕ → Option ℕ) (xs : List Declared)
    (rest : List (List ℕ)) → HasFirst first xs rest → (word : ℕ)
    → IsDuplicate xs see word
    → IsAmong (duplicates_from see first 0 xs) (record { word = word; code = codes.Duplicate })
duplicate_found see first xs rest h word k =
    taken_found see first [] xs rest h word
    record {
      front = k.front;
      here = k.here;
      rear = k.rear;
      parts = k.parts;
      word_is = k.word_is;
      earlier = k.earlier;
    }
