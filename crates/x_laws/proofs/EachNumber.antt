-- Each value, size, case and enumerator of a text without a fault has its number.
use Rattle.std.proofs.Common.{◌≡◌, ◌<◌, ◌^◌, ◌⊎◌, inl, inr, ℕ, zero, suc, ℤ, pos, negsuc, Bool, true, false}
use Rattle.std.proofs.Common.{cond, map, List, [], ◌∷◌, Option, None, Some, refl, sym, ap, subst, ◌∙◌, arith}
use Rattle.std.specs.Prelude.{IsSome, is_some, slice_get, nat_lt}
use Rattle.std.specs.List.{IsAmong}
use Rattle.std.specs.Map.{lookup}
use Rattle.std.specs.Str.{bytes_eq}
use Rattle.std.proofs.lemmas.Bool.Decides.{nat_tests}
use Rattle.x_trees.specs.Tree as tree
use Rattle.x_trees.specs.Tree.{Definition}
use Rattle.x_trees.specs.Gloss.{FixedSize, GreatestSize, Gloss, Role, gloss}
use Rattle.x_trees.specs.Mentions.{Mention, mentioned}
use Rattle.x_trees.specs.Names.{declared}
use Rattle.x_trees.specs.declared.names.mention.Use.TheVariants as uses
use Rattle.x_trees.proofs.AmongLemmas.{among_cases, among_none}
use Rattle.x_numbers.specs.Numbers.{in_range, is_word_number, number_spelled}
use Rattle.x_outline.specs.Bodies.{EnumeratorAt, enumerators}
use Rattle.x_rules.specs.Constants.{Known, is_declared_before, knowns, limit_of, number_at, number_before}
use Rattle.x_rules.specs.Constants.{number_seen}
use Rattle.x_rules.specs.Results.{AreResults, Outcome, no_names, result_at, view_by}
use Rattle.x_rules.specs.Rules.{HasRole, IsBadSize, IsEmptyArray, IsNoConstant, size_role, value_role}
use Rattle.x_rules.specs.declared.fault.RuleCode.TheVariants as rule_codes
use Rattle.x_schema.specs.SchemaOf.{number_in, numbers_of}
use Rattle.x_laws.specs.Meant.{AreFaultless, IsArrayNumber, IsEnumNumber, IsSizeNumber, number_meant, sees}
use Rattle.x_laws.proofs.EnumNumbers.{AtText, own_told}
use Rattle.x_laws.proofs.EnumWords.{AllTold, IsTold, enums_told}
use Rattle.x_laws.proofs.Faultless.{listed_rear, outcome_of, view_seen}
use Rattle.x_laws.proofs.GoodNumbers.{AllGood, IsFine, IsGood, IsNumber, all_good, no_fault, spelled}
use Rattle.x_laws.proofs.GoodNumbers.{value_known}
use Rattle.x_laws.proofs.Mentioned.{IsValue, mentioned_listed, no_mention_fault, used_value}
use Rattle.x_laws.proofs.Paired.{value_mentioned}
use Rattle.x_laws.proofs.SchemaNumbers.{schema_numbers}
use Rattle.x_laws.proofs.TypeMeanings.{named_good}
use Rattle.x_laws.proofs.UsedNumbers.{known_enumerators, own_meant, value_number}

-- ---- values

-- an own constant that stands before a word has a number
known_before : (ks : List Known) (limit : ℕ) (n : List ℕ) → AllGood ks
    → is_declared_before (map (λ k. k.enumerator) ks) limit n ≡ true → IsNumber (number_before ks limit n)
known_before [] limit n good h = absurd cc
known_before (k ∷ ks) limit n good h =
    by (bytes_eq n k.enumerator.name) (nat_lt k.enumerator.word limit) h
    (λ e. known_before ks limit n good.1 e)
  where
    by : (b c : Bool) → cond b c (is_declared_before (map (λ x. x.enumerator) ks) limit n) ≡ true
        → (is_declared_before (map (λ x. x.enumerator) ks) limit n ≡ true
        → IsNumber (number_before ks limit n))
        → IsNumber (cond b (cond c k.number None) (number_before ks limit n))
    by true true e more = (good.0.0, good.0.1)
    by true false e more = absurd cc
    by false c e more = more e

named_has : (definitions : List (Option Definition)) (results : List (Option Outcome)) (item : ℕ)
    (d : Definition) (word : ℕ) (role : Role) (n : List ℕ) → IsFine definitions results item d
    → HasRole d word role → value_role role ≡ Some (tree.Named n)
    → IsNumber (number_at (sees definitions results item d) (enumerators d) word (tree.Named n))
named_has definitions results item d word role n h has is =
    let see = sees definitions results item d in
    let m : Mention = record { name = n; word = word; usage = uses.Value; tag = None } in
    let among = value_mentioned d word role n has is in
    let o = outcome_of definitions results item d h.are h.there in
    let no_mention =
    no_mention_fault d see o.outcome.faults m o.are_faults (h.fine item o.outcome o.is) among in
    let listed =
    listed_rear n (map (λ x. x.name) (declared d)) (map (λ x. x.name) (mentioned d))
    (mentioned_listed (mentioned d) m among) in
    let view : see n ≡ view_by no_names definitions (result_at results) item n =
    view_seen d (view_by no_names definitions (result_at results) item) n listed in
    let before = is_declared_before (enumerators d) (limit_of word) n in
    let value = used_value (see n) before no_mention in
    let own : before ≡ true → IsNumber (number_before (knowns see (enumerators d)) (limit_of word) n) =
    λ e. known_before (knowns see (enumerators d)) (limit_of word) n (all_good definitions results item d h)
    (ap (λ l. is_declared_before l (limit_of word) n) (known_enumerators see [] None (enumerators d)) ∙ e) in
    subst (λ w. IsNumber (number_seen w (number_before (knowns see (enumerators d)) (limit_of word) n)))
    (sym view)
    (value_known definitions results item n before
    (number_before (knowns see (enumerators d)) (limit_of word) n) h.are h.fine
    (subst (λ w. IsValue w before) view value) own)

value_has : (definitions : List (Option Definition)) (results : List (Option Outcome)) (item : ℕ)
    (d : Definition) (word : ℕ) (role : Role) (v : tree.Value) → IsFine definitions results item d
    → HasRole d word role → value_role role ≡ Some v
    → IsNumber (number_at (sees definitions results item d) (enumerators d) word v)
value_has definitions results item d word role (tree.Number text) h has is = by (in_range text) refl
  where
    by : (b : Bool) → in_range text ≡ b → IsNumber (number_spelled text)
    by true e = spelled text e
    by false e =
        let broken : IsNoConstant d word =
        record { role = role; has_role = has; text = text; is_value = is; outside = e } in
        absurd (no_fault definitions results item d word rule_codes.Range h (inl broken))
value_has definitions results item d word role (tree.Named n) h has is =
    named_has definitions results item d word role n h has is

pub each_value : (definitions : List (Option Definition)) (results : List (Option Outcome))
    → AreResults no_names definitions results
    → AreFaultless results → (item : ℕ) (d : Definition) → slice_get definitions item ≡ Some (Some d)
    → (word : ℕ) (role : Role) (v : tree.Value) → HasRole d word role → value_role role ≡ Some v
    → IsSome (number_in (numbers_of definitions) v)
each_value definitions results are fine item d there word role v has is =
    let h : IsFine definitions results item d = record { are = are; fine = fine; there = there } in
    let z = value_has definitions results item d word role v h has is in
    ap is_some (value_number definitions results are fine item d there word role v has is ∙ z.1)

-- ---- sizes

size_value : (role : Role) (v : tree.Value) → size_role role ≡ Some v → value_role role ≡ Some v
size_value (FixedSize w) v is = is
size_value (GreatestSize w) v is = is
size_value role v is = absurd cc

as_size : (z : ℤ) → is_word_number z ≡ true → IsSizeNumber (Some z)
as_size (pos n) is = (n, grind (arith, nat_tests), refl)
as_size (negsuc n) is = absurd cc

pub each_size : (definitions : List (Option Definition)) (results : List (Option Outcome))
    → AreResults no_names definitions results
    → AreFaultless results → (item : ℕ) (d : Definition) → slice_get definitions item ≡ Some (Some d)
    → (word : ℕ) (role : Role) (v : tree.Value) → HasRole d word role → size_role role ≡ Some v
    → IsSizeNumber (number_in (numbers_of definitions) v)
each_size definitions results are fine item d there word role v has is =
    let see = sees definitions results item d in
    let h : IsFine definitions results item d = record { are = are; fine = fine; there = there } in
    let value = size_value role v is in
    let z = value_has definitions results item d word role v h has value in
    subst IsSizeNumber
    (sym (value_number definitions results are fine item d there word role v has value ∙ z.1))
    (as_size z.0 (by z.0 z.1 (is_word_number z.0) refl))
  where
    by : (z : ℤ) → number_at (sees definitions results item d) (enumerators d) word v ≡ Some z → (b : Bool)
        → is_word_number z ≡ b → is_word_number z ≡ true
    by z at true e = e
    by z at false e =
        let h : IsFine definitions results item d = record { are = are; fine = fine; there = there } in
        let broken : IsBadSize d (sees definitions results item d) word =
        record {
          role = role;
          has_role = has;
          size = v;
          is_size = is;
          number = z;
          number_is = at;
          outside = e;
        } in
        absurd (no_fault definitions results item d word rule_codes.BadSize h broken)

-- a fixed size is not 0
pub each_array : (definitions : List (Option Definition)) (results : List (Option Outcome))
    → AreResults no_names definitions results → AreFaultless results → (item : ℕ) (d : Definition)
    → slice_get definitions item ≡ Some (Some d) → (word : ℕ) (v : tree.Value)
    → HasRole d word (FixedSize v) → IsArrayNumber (number_in (numbers_of definitions) v)
each_array definitions results are fine item d there word v has =
    let size = each_size definitions results are fine item d there word (FixedSize v) v has refl in
    by size.0 size.1 size.2
  where
    by : (n : ℕ) → n < 2 ^ 32 → number_in (numbers_of definitions) v ≡ Some (pos n)
        → IsArrayNumber (number_in (numbers_of definitions) v)
    by (suc n) fits is = (suc n, omega arith, fits, is)
    by zero fits is =
        let h : IsFine definitions results item d = record { are = are; fine = fine; there = there } in
        let zero_is =
        sym (value_number definitions results are fine item d there word (FixedSize v) v has refl) ∙ is in
        let broken : IsEmptyArray d (sees definitions results item d) word =
        record { size = v; has_role = has; is_zero = zero_is } in
        absurd (no_fault definitions results item d word rule_codes.EmptyArray h broken)

-- ---- enumerators

pub told_at : (gs : List Gloss) (at : ℕ) (es : List EnumeratorAt) (e : EnumeratorAt) → AllTold gs at es
    → IsAmong es e → IsTold gs at e
told_at gs at [] e all among = absurd (among_none e among)
told_at gs at (x ∷ xs) e all among = by (among_cases x e xs among) (λ rest. told_at gs at xs e all.1 rest)
  where
    by : (e ≡ x) ⊎ IsAmong xs e → (IsAmong xs e → IsTold gs at e) → IsTold gs at e
    by (inl is) next = subst (IsTold gs at) (sym is) all.0
    by (inr rest) next = next rest

meant_good : (definitions : List (Option Definition)) (results : List (Option Outcome)) (item : ℕ)
    (d : Definition) → AtText definitions results item d → (e : EnumeratorAt) → IsAmong (enumerators d) e
    → IsGood (number_meant definitions results e.name)
meant_good definitions results item d h e among =
    let see = sees definitions results item d in
    let told = told_at (gloss d) 0 (enumerators d) e (enums_told d).all among in
    let here = own_told definitions results item d e h told in
    let names = known_enumerators see [] None (enumerators d) in
    let good = all_good definitions results item d (record { are = h.are; fine = h.fine; there = h.there }) in
    subst IsGood
    (sym (own_meant definitions results item d e.name here.at h.are h.fine h.there here.first here.item_is
    here.kind_is ∙ h.own e.name))
    (named_good (knowns see (enumerators d)) e good (subst (λ l. IsAmong l e) (sym names) among))

pub each_enumerator : (definitions : List (Option Definition)) (results : List (Option Outcome))
    → AreResults no_names definitions results
    → AreFaultless results → (item : ℕ) (d : Definition) → slice_get definitions item ≡ Some (Some d)
    → (e : EnumeratorAt) → IsAmong (enumerators d) e
    → IsEnumNumber (lookup (bytes_eq e.name) (numbers_of definitions))
each_enumerator definitions results are fine item (tree.Const name value) there e among = absurd
    (among_none e among)
each_enumerator definitions results are fine item (tree.Program name versions number) there e among = absurd
    (among_none e among)
each_enumerator definitions results are fine item (tree.Typedef d) there e among =
    subst IsGood (sym (schema_numbers definitions results are fine e.name))
    (meant_good definitions results item (tree.Typedef d)
    (record { are = are; fine = fine; there = there; own = λ m. refl }) e among)
each_enumerator definitions results are fine item (tree.NewType name body) there e among =
    subst IsGood (sym (schema_numbers definitions results are fine e.name))
    (meant_good definitions results item (tree.NewType name body)
    (record { are = are; fine = fine; there = there; own = λ m. refl }) e among)
