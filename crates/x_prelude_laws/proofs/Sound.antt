-- The definitions that lines stand for break no rule but those of names that are declared twice.
use Rattle.std.proofs.Common.{◌≡◌, ℕ, ◌+◌, ◌*◌, ◌^◌, ◌<◌, ◌≤◌, Bool, true, false, cond, List, [], ◌∷◌, ◌++◌}
use Rattle.std.proofs.Common.{map, length, get_or, None, Some, arith, refl, ap, subst, ◌∙◌}
use Rattle.std.specs.Prelude.{◌||◌, ◌&&◌, ◌==◌, codes, drop, nat_le, neg_ℤ, pos, ℤ, decimal, nat_lt}
use Rattle.std.specs.List.{IsAmong, flat_map}
use Rattle.std.specs.Str.{bytes_eq}
use Rattle.std.proofs.lemmas.Bool.Decides.{nat_tests}
use Rattle.std.specs.Int.Digits.{AllBelowBase, digits_of, number_from_digits_after}
use Rattle.std.proofs.lemmas.Fmt.{decimal-digits_of, first_decimal}
use Rattle.std.proofs.lemmas.Int.Digits.{all_below_base_digits_of, number_digits_of}
use Rattle.std.proofs.lemmas.List.{length-append}
use Rattle.std.proofs.lemmas.Slice.Eq.{bytes_eq-Decides}
use Rattle.x_trees.specs.Tree as tree
use Rattle.x_trees.specs.Tree.{Definition}
use Rattle.x_trees.specs.Names.{Declared, declared}
use Rattle.x_trees.specs.declared.trees.declaration.Basic.{Basic}
use Rattle.x_trees.specs.declared.trees.declaration.Basic.TheVariants as basics
use Rattle.x_trees.proofs.AmongLemmas.{among_none}
use Rattle.x_trees.specs.declared.names.note.ValueRole.TheVariants as roles
use Rattle.x_numbers.specs.Numbers.{digit_value, in_range, is_negative, magnitude, number_spelled, value}
use Rattle.x_numbers.specs.Numbers.{value_behind, value_in}
use Rattle.x_outline.specs.Bodies.{bodies, enumerators}
use Rattle.x_rules.specs.Constants.{knowns}
use Rattle.x_rules.specs.Found.{duplicate_code, fault_at, found_faults, is_earlier_name, is_taken_at}
use Rattle.x_rules.specs.Found.{value_fault}
use Rattle.x_rules.specs.FirstPlaces.{first_from, first_place, is_behind}
use Rattle.x_rules.specs.Rules.{IsFault}
use Rattle.x_rules.specs.Views.{View}
use Rattle.x_rules.specs.declared.fault.RuleCode.{RuleCode}
use Rattle.x_rules.specs.declared.fault.RuleCode.TheVariants as rules
use Rattle.x_rules.proofs.CaseLemmas.{bad_case_found, bad_cases_in}
use Rattle.x_rules.proofs.CheckLemmas.{breaks_found}
use Rattle.x_prelude_laws.proofs.Shapes.{const_of, enum_of, longer_name, netobj_of, struct_of, typedef_of}
use Rattle.x_prelude_laws.proofs.Shapes.{union_of}

-- ---- a definition of which nothing is found

pub no_fault : (d : Definition) (see : List ℕ → View) → found_faults d see ≡ []
    → flat_map (bad_cases_in see (knowns see (enumerators d)) []) (bodies d) ≡ []
    → (word : ℕ) (code : RuleCode) → IsFault d see word code → ⊥
no_fault d see none good word rules.BadCase h =
    among_none (record { word = word; code = rules.BadCase })
    (subst (λ fs. IsAmong fs (record { word = word; code = rules.BadCase })) good
    (bad_case_found d see [] word (λ f k. absurd (among_none f k)) h))
no_fault d see none good word code h =
    among_none (record { word = word; code = code })
    (subst (λ fs. IsAmong fs (record { word = word; code = code })) none (breaks_found d see word code h))

-- its names are declared by no earlier item
abbrev pub AreFree : (List ℕ → View) → List Declared → Type 0
AreFree see [] = Unit {0}
AreFree see (x ∷ xs) = (is_earlier_name (see x.name) ≡ false) × AreFree see xs

-- it has no fault then
pub record IsSound (d : Definition) : Type 0 where
  pub faultless : (see : List ℕ → View) → AreFree see (declared d) → (word : ℕ) (code : RuleCode)
      → IsFault d see word code → ⊥

-- ---- names that are free

same_name : (name : List ℕ) → bytes_eq name name ≡ true
same_name name = (bytes_eq-Decides name name).1 refl

first_free : (see : List ℕ → View) (name : List ℕ) (rest : List (List ℕ)) → is_earlier_name (see name) ≡ false
    → is_taken_at see (first_place 0 (name ∷ rest)) 0 name ≡ false
first_free see name rest free =
    ap (λ b. b || is_behind (first_place 0 (name ∷ rest) name) 0) free
    ∙ ap (λ b. is_behind (cond b (Some 0) (first_from (bytes_eq name) 1 rest)) 0) (same_name name)

one_free : (see : List ℕ → View) (name : List ℕ) (word : ℕ) (rest : List (List ℕ))
    → is_earlier_name (see name) ≡ false
    → fault_at word (duplicate_code (is_taken_at see (first_place 0 (name ∷ rest)) 0 name)) ≡ []
one_free see name word rest free = ap (λ b. fault_at word (duplicate_code b)) (first_free see name rest free)

-- ---- numbers

digit_is : (d : ℕ) → d < 10 → digit_value (48 + d) ≡ d
digit_is d lt = grind (arith, nat_tests)

value_is : (ds : List ℕ) (high : ℕ) → AllBelowBase 10 ds
    → value_behind 10 high (map (λ d. 48 + d) ds) ≡ number_from_digits_after 10 high ds
value_is [] high all = refl
value_is (d ∷ ds) high all =
    ap (λ v. value_behind 10 (high * 10 + v) (map (λ d. 48 + d) ds)) (digit_is d all.0)
    ∙ value_is ds (high * 10 + d) all.1

test_false : (b k : ℕ) → k ≤ 48 → 48 < b → (b == k) ≡ false
test_false b k le lt = grind (arith, nat_tests)

by_first : (p x q : Bool) (i j k l : ℕ) → p ≡ false → q ≡ false
    → cond (p && x) i (cond p j (cond q k l)) ≡ l
by_first false x false i j k l e f = refl
by_first false x true i j k l e f = absurd (cc)
by_first true x q i j k l e f = absurd (cc)

-- a decimal number is spelled so
magnitude_is : (w : List ℕ) → 48 < get_or w 0 0 → magnitude w ≡ value_in 10 w
unfolding magnitude
magnitude_is w high =
    by_first (get_or w 0 0 == 48) (get_or w 1 0 == 120 || get_or w 1 0 == 88) (get_or w 0 0 == 45)
    (value_in 16 (drop 2 w)) (value_in 8 (drop 1 w)) (value_in 10 (drop 1 w)) (value_in 10 w)
    (test_false (get_or w 0 0) 48 (omega arith) high) (test_false (get_or w 0 0) 45 (omega arith) high)

by_sign : (q x y : Bool) (z u : ℤ) → q ≡ false → y ≡ true
    → cond (cond q x y) (Some (cond q z u)) None ≡ Some u
by_sign false x true z u e f = refl
by_sign false x false z u e f = absurd (cc)
by_sign true x y z u e f = absurd (cc)

small_test : (n m : ℕ) → n < m → nat_lt n m ≡ true
small_test n m lt = grind (arith, nat_tests)

pub number_is : (n : ℕ) → 0 < n → n < 2 ^ 64 → number_spelled (decimal n) ≡ Some (pos n)
unfolding in_range value
number_is n some small =
    by_sign (is_negative (decimal n)) (nat_le (magnitude (decimal n)) (2 ^ 63))
    (nat_lt (magnitude (decimal n)) (2 ^ 64))
    (neg_ℤ (pos (magnitude (decimal n)))) (pos (magnitude (decimal n)))
    (test_false (get_or (decimal n) 0 0) 45 (omega arith) high)
    (ap (λ m. nat_lt m (2 ^ 64)) whole ∙ small_test n (2 ^ 64) small)
    ∙ ap (λ m. Some (pos m)) whole
  where
    high : 48 < get_or (decimal n) 0 0
    high = first_decimal n some small

    whole : magnitude (decimal n) ≡ n
    whole =
        magnitude_is (decimal n) high ∙ ap (value_in 10) (decimal-digits_of n some small)
        ∙ value_is (digits_of 10 n) 0 (all_below_base_digits_of 10 n (omega arith))
        ∙ number_digits_of 10 n (omega arith)

-- ---- each form

pub typedef_sound : (b : Basic) (name : List ℕ) → IsSound (typedef_of b name)
typedef_sound b name =
    record { faultless = λ see free. no_fault (typedef_of b name) see (found b see free) refl }
  where
    found : (b : Basic) (see : List ℕ → View) → AreFree see (declared (typedef_of b name))
        → found_faults (typedef_of b name) see ≡ []
    found basics.Int see free = ap (λ l. l ++ [] ++ []) (one_free see name 2 [] free.0)
    found b see free = ap (λ l. l ++ [] ++ []) (one_free see name _ [] free.0)

pub netobj_sound : IsSound netobj_of
unfolding in_range value magnitude
netobj_sound = record {
  faultless = λ see free. no_fault netobj_of see
      (ap (λ l. l ++ [] ++ []) (one_free see (codes "netobj") 2 [] free.0)) refl;
}

pub struct_sound : (name : List ℕ) → IsSound (struct_of name)
struct_sound name = record {
  faultless = λ see free. no_fault (struct_of name) see (ap (λ l. l ++ [] ++ [])
      (one_free see name 1 [] free.0)) refl;
}

pub union_sound : (name : List ℕ) → IsSound (union_of name)
unfolding in_range value magnitude
union_sound name = record {
  faultless = λ see free. no_fault (union_of name) see (ap (λ l. l ++ [] ++ [])
      (one_free see name 1 [] free.0)) refl;
}

pub const_sound : (name : List ℕ) (n : ℕ) → 0 < n → n < 2 ^ 64 → IsSound (const_of name n)
const_sound name n some small = record {
  faultless = λ see free. no_fault (const_of name n) see
      (λ i. (one_free see name 1 [] free.0 i ++ []) ++ ((value_good i ++ []) ++ [])) refl;
}
  where
    value_good : fault_at 3 (value_fault roles.Constant (tree.Number (decimal n))
        (number_spelled (decimal n))) ≡ []
    value_good = ap (λ o. fault_at 3 (value_fault roles.Constant (tree.Number (decimal n)) o))
        (number_is n some small)

-- a longer name is another one
longer_differs : (name : List ℕ) → bytes_eq (longer_name name) name ≡ false
longer_differs name = by (bytes_eq (longer_name name) name) refl
  where
    by : (b : Bool) → bytes_eq (longer_name name) name ≡ b → b ≡ false
    by false e = refl
    by true e =
        let same = ap length ((bytes_eq-Decides (longer_name name) name).0 e) in
        absurd (omega (arith, same, length-append name (codes "__")))

second_free : (see : List ℕ → View) (name : List ℕ) → is_earlier_name (see (longer_name name)) ≡ false
    → fault_at 3 (duplicate_code (is_taken_at see (first_place 0 (name ∷ longer_name name ∷ [])) 1
    (longer_name name))) ≡ []
second_free see name free =
    let own = longer_name name in
    ap (λ b. fault_at 3 (duplicate_code b))
    (ap (λ b. b || is_behind (first_place 0 (name ∷ own ∷ []) own) 1) free
    ∙ ap (λ b. is_behind (cond b (Some 0) (first_from (bytes_eq own) 1 (own ∷ []))) 1) (longer_differs name)
    ∙ ap (λ b. is_behind (cond b (Some 1) None) 1) (same_name own))

pub enum_sound : (name : List ℕ) (n : ℕ) → 0 < n → n < 2 ^ 31 → IsSound (enum_of name n)
enum_sound name n some small = record {
  faultless = λ see free. no_fault (enum_of name n) see
      (λ i. (one_free see name 1 (longer_name name ∷ []) free.0 i ++ (second_free see name free.1.0 i ++ []))
      ++ ((value_good i ++ []) ++ [])) refl;
}
  where
    wide : n < 2 ^ 64
    wide = omega (arith, small)

    value_good : fault_at 5 (value_fault roles.Enumerator (tree.Number (decimal n))
        (number_spelled (decimal n))) ≡ []
    value_good =
        ap (λ o. fault_at 5 (value_fault roles.Enumerator (tree.Number (decimal n)) o))
        (number_is n some wide)
        ∙ ap (λ b. fault_at 5 (cond b None (Some rules.Range))) (small_test n (2 ^ 31) small)
