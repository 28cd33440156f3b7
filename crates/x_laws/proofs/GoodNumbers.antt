-- The enumerators of a faultless item have numbers that an enum may have.
use Rattle.std.proofs.Common.{◌≡◌, ◌≤◌, inl, inr, ℕ, suc, ◌+◌, ℤ, pos, ◌+ℤ◌, Bool, true, false, not, cond}
use Rattle.std.proofs.Common.{map, List, [], ◌∷◌, ◌++◌, Option, None, Some, refl, sym, ap, subst, ◌∙◌, arith}
use Rattle.std.specs.Prelude.{slice_get, nat_lt, codes}
use Rattle.std.specs.List.{IsAmong}
use Rattle.std.specs.Str.{bytes_eq}
use Rattle.std.proofs.lemmas.Bool.Decides.{nat_tests}
use Rattle.x_trees.specs.Tree as tree
use Rattle.x_trees.specs.Tree.{Definition}
use Rattle.x_trees.specs.Gloss.{EnumeratorValue, gloss}
use Rattle.x_trees.specs.Mentions.{Mention, mentioned}
use Rattle.x_trees.specs.Names.{declared}
use Rattle.x_trees.specs.declared.names.declared_name.NameKind.TheVariants as kinds
use Rattle.x_trees.specs.declared.names.mention.Use.TheVariants as uses
use Rattle.x_names.specs.Declarers.{IsFirstDeclarer, is_beforehand, first_declarer, first_from}
use Rattle.x_names.specs.declared.names.Declarer.{Declarer}
use Rattle.x_names.proofs.DeclarerLaws.{found_is_first}
use Rattle.x_numbers.specs.Numbers.{in_range, is_enum_number, next_number, number_spelled, value}
use Rattle.x_trees.proofs.AmongLemmas.{among_first, among_front, among_none, among_rear}
use Rattle.x_outline.specs.Bodies.{BodyAt, EnumeratorAt, enumerators, enumerators_in, enumerators_of, bodies}
use Rattle.x_rules.specs.Constants.{Known, is_declared_before, known_with, knowns, limit_of, number_at}
use Rattle.x_rules.specs.Constants.{number_before, number_by, number_given, enumerator_number, number_seen}
use Rattle.x_rules.specs.Mentioned.{is_of_faulty, is_unknown}
use Rattle.x_rules.specs.Results.{Outcome, AreResults, constant_number, constant_of, meaning_at, meaning_of}
use Rattle.x_rules.specs.Results.{result_at, view_by, view_of, beforehand_meaning, no_names}
use Rattle.x_rules.specs.Rules.{HasRole, IsFault, IsNoConstant, IsNoEnumValue}
use Rattle.x_rules.specs.Views.{Constant, Earlier, Own, Later, Undeclared}
use Rattle.x_rules.specs.declared.fault.RuleCode.{RuleCode}
use Rattle.x_rules.specs.declared.fault.RuleCode.TheVariants as rule_codes
use Rattle.x_laws.specs.Meant.{AreFaultless, sees}
use Rattle.x_laws.proofs.EnumNumbers.{by_known, known_behind, value_among}
use Rattle.x_laws.proofs.EnumWords.{AllTold, Ascends, GivenAt, enums_told}
use Rattle.x_laws.proofs.Faultless.{listed_rear, outcome_of, view_seen}
use Rattle.x_laws.proofs.Mentioned.{IsValue, mentioned_listed, no_mention_fault, used_value}
use Rattle.x_laws.proofs.NumberMeant.{view_first}
use Rattle.x_laws.proofs.Paired.{value_mentioned}
use Rattle.x_laws.proofs.SchemaNumbers.{own_meaning}
use Rattle.x_laws.proofs.UsedNumbers.{constant_kind, known_enumerators}

-- ---- numbers

-- there is a number
abbrev pub IsNumber : Option ℤ → Type 0
IsNumber o = (z : ℤ) × (o ≡ Some z)

-- and an enum may have it
abbrev pub IsGood : Option ℤ → Type 0
IsGood o = (z : ℤ) × (o ≡ Some z) × (is_enum_number z ≡ true)

abbrev pub AllGood : List Known → Type 0
AllGood [] = Unit {0}
AllGood (k ∷ ks) = IsGood k.number × AllGood ks

good_more : (ks : List Known) (k : Known) → AllGood ks → IsGood k.number → AllGood (ks ++ k ∷ [])
good_more [] k h g = (g, tt)
good_more (x ∷ xs) k h g = (h.0, good_more xs k h.1 g)

-- a faultless item
pub record IsFine (definitions : List (Option Definition)) (results : List (Option Outcome)) (item : ℕ)
    (d : Definition) : Type 0 where
  pub are : AreResults no_names definitions results
  pub fine : AreFaultless results
  pub there : slice_get definitions item ≡ Some (Some d)

pub no_fault : (definitions : List (Option Definition)) (results : List (Option Outcome)) (item : ℕ)
    (d : Definition) (word : ℕ) (code : RuleCode) → IsFine definitions results item d
    → IsFault d (sees definitions results item d) word code → ⊥
no_fault definitions results item d word code h fault =
    let o = outcome_of definitions results item d h.are h.there in
    among_none (record { word = word; code = code })
    (subst (λ fs. IsAmong fs (record { word = word; code = code })) (h.fine item o.outcome o.is)
    (o.are_faults.are_all word code fault))

-- ---- values by names

told_beforehand : (b : Bool) (x : Option ℤ) → IsNumber
    (number_seen (Earlier kinds.Constant false (cond b (Constant (pos 1)) (Constant (pos 0)))) x)
told_beforehand true x = (pos 1, refl)
told_beforehand false x = (pos 0, refl)

earlier_number : (lifted : Bool) (q x : Option ℤ)
    → is_of_faulty (Earlier kinds.Constant lifted (constant_of q)) uses.Value ≡ false
    → IsNumber (number_seen (Earlier kinds.Constant lifted (constant_of q)) x)
earlier_number lifted None x h = absurd cc
earlier_number lifted (Some z) x h = (z, refl)

by_first : (definitions : List (Option Definition)) (results : List (Option Outcome)) (item : ℕ) (n : List ℕ)
    (at : Declarer) (before : Bool) (x : Option ℤ) → AreResults no_names definitions results
    → AreFaultless results
    → IsFirstDeclarer definitions n at → (before ≡ true → IsNumber x) → (a b : Bool)
    → IsValue (cond a (Earlier at.kind at.lifted (meaning_at (result_at results) at))
    (cond b (Later at.kind at.lifted) (Own at.kind at.lifted))) before
    → IsNumber (number_seen (cond a (Earlier at.kind at.lifted (meaning_at (result_at results) at))
    (cond b (Later at.kind at.lifted) (Own at.kind at.lifted))) x)
by_first definitions results item n at before x are fine h own true b v =
    let d = h.declares.definition in
    let kind = constant_kind at.kind v.constant in
    let meaning = own_meaning definitions results at.item h.declares.definition n at are fine
    h.declares.item_is refl h.declares.declares
    ∙ ap (λ k. meaning_of h.declares.definition (sees definitions results at.item h.declares.definition)
    (record { name = n; word = at.word; kind = k; lifted = at.lifted })) kind in
    let q = constant_number h.declares.definition
    (sees definitions results at.item h.declares.definition) n in
    let view : Earlier at.kind at.lifted (meaning_at
    (result_at results) at) ≡ Earlier kinds.Constant at.lifted (constant_of q) = λ i. Earlier
    (kind i) at.lifted (meaning i) in
    subst (λ w. IsNumber (number_seen w x)) (sym view)
    (earlier_number at.lifted q x (sym (ap (λ w. is_of_faulty w uses.Value) view) ∙ v.good))
by_first definitions results item n at before x are fine h own false true v = let late = v.in_time in absurd
    cc
by_first definitions results item n at before x are fine h own false false v =
    subst (λ k. IsNumber (number_seen (Own k at.lifted) x)) (sym (constant_kind at.kind v.constant))
    (own (before_true before v.in_time))
  where
    before_true : (b : Bool) → not b ≡ false → b ≡ true
    before_true true e = refl
    before_true false e = absurd cc

pub value_known : (definitions : List (Option Definition)) (results : List (Option Outcome)) (item : ℕ)
    (n : List ℕ) (before : Bool) (x : Option ℤ) → AreResults no_names definitions results
    → AreFaultless results
    → IsValue (view_by no_names definitions (result_at results) item n) before → (before ≡ true → IsNumber x)
    → IsNumber (number_seen (view_by no_names definitions (result_at results) item n) x)
value_known definitions results item n before x are fine v own = by (is_beforehand n) refl
    (first_from 0 definitions n) refl
  where
    by : (b : Bool) → is_beforehand n ≡ b → (o : Option Declarer) → first_from 0 definitions n ≡ o
        → IsNumber (number_seen (view_by no_names definitions (result_at results) item n) x)
    by true e o f =
        subst (λ b. IsNumber (number_seen (cond b (Earlier kinds.Constant false (beforehand_meaning n))
        (view_of (result_at results) item (first_declarer definitions n))) x)) (sym e)
        (told_beforehand (bytes_eq n (codes "TRUE")) x)
    by false e None f =
        let nobody : first_declarer definitions n ≡ None = ap
        (λ b. cond b None (first_from 0 definitions n)) e ∙ f in
        let view : view_by no_names definitions (result_at results) item n ≡ Undeclared =
        ap (λ b. cond b (Earlier kinds.Constant false (beforehand_meaning n))
        (view_of (result_at results) item (first_declarer definitions n))) e
        ∙ ap (view_of (result_at results) item) nobody in
        let known : is_unknown Undeclared ≡ false = sym (ap is_unknown view) ∙ v.known in
        absurd cc
    by false e (Some at) f =
        let h = found_is_first definitions n at f e in
        let view = view_first definitions (result_at results) item n at h in
        subst (λ w. IsNumber (number_seen w x)) (sym view)
        (by_first definitions results item n at before x are fine h own (nat_lt at.item item)
        (nat_lt item at.item) (subst (λ w. IsValue w before) view v))

-- ---- own constants before a word

none_before : (rest : List Known) (limit low : ℕ) (n : List ℕ) → limit ≤ low
    → Ascends low (map (λ k. k.enumerator) rest) → is_declared_before
    (map (λ k. k.enumerator) rest) limit n ≡ false
none_before [] limit low n le h = refl
none_before (k ∷ ks) limit low n le h =
    let word = h.0 in
    let late : nat_lt k.enumerator.word limit ≡ false = grind (arith, nat_tests) in
    by (bytes_eq n k.enumerator.name) late (none_before ks limit (suc k.enumerator.word) n
    (omega (arith, le, word)) h.1)
  where
    by : (b : Bool) → nat_lt k.enumerator.word limit ≡ false
        → is_declared_before (map (λ x. x.enumerator) ks) limit n ≡ false
        → cond b (nat_lt k.enumerator.word limit)
        (is_declared_before (map (λ x. x.enumerator) ks) limit n) ≡ false
    by true e f = e
    by false e f = f

before_good : (ks rest : List Known) (limit : ℕ) (n : List ℕ) → AllGood ks
    → Ascends limit (map (λ k. k.enumerator) rest)
    → is_declared_before (map (λ k. k.enumerator) (ks ++ rest)) limit n ≡ true
    → IsNumber (number_before ks limit n)
before_good [] rest limit n good up h = let none = none_before rest limit limit n
    (omega arith) up in absurd cc
before_good (k ∷ ks) rest limit n good up h = by (bytes_eq n k.enumerator.name)
    (nat_lt k.enumerator.word limit) h (λ e. before_good ks rest limit n good.1 up e)
  where
    by : (b c : Bool) → cond b c (is_declared_before (map (λ x. x.enumerator) (ks ++ rest)) limit n) ≡ true
        → (is_declared_before (map (λ x. x.enumerator) (ks ++ rest)) limit n ≡ true
        → IsNumber (number_before ks limit n))
        → IsNumber (cond b (cond c k.number None) (number_before ks limit n))
    by true true e more = (good.0.0, good.0.1)
    by true false e more = absurd cc
    by false c e more = more e

-- ---- enumerators

-- what is known of an enumerator where it is reached
record IsReached (definitions : List (Option Definition)) (results : List (Option Outcome)) (item : ℕ)
    (d : Definition) (ks rest : List Known) (index word : ℕ) : Type 0 where
  fine : IsFine definitions results item d
  is : knowns (sees definitions results item d) (enumerators d) ≡ ks ++ rest
  at : word ≡ 0 + index
  up : Ascends word (map (λ k. k.enumerator) rest)
  good : AllGood ks

pub spelled : (text : List ℕ) → in_range text ≡ true → IsNumber (number_spelled text)
spelled text e = (value text, ap (λ b. cond b (Some (value text)) None) e)

named_number : (definitions : List (Option Definition)) (results : List (Option Outcome)) (item : ℕ)
    (d : Definition) (ks rest : List Known) (index word : ℕ) (n : List ℕ)
    → IsReached definitions results item d ks rest index word
    → HasRole d (index + 2) (EnumeratorValue (tree.Named n))
    → IsNumber (number_by (sees definitions results item d) ks word (tree.Named n))
named_number definitions results item d ks rest index word n r role =
    let see = sees definitions results item d in
    let among = value_mentioned d (index + 2) (EnumeratorValue (tree.Named n)) n role refl in
    let m : Mention = record { name = n; word = index + 2; usage = uses.Value; tag = None } in
    let o = outcome_of definitions results item d r.fine.are r.fine.there in
    let no_mention = no_mention_fault d (sees definitions results item d) o.outcome.faults m o.are_faults
    (r.fine.fine item o.outcome o.is) among in
    let view : sees definitions results item d n ≡ view_by no_names definitions (result_at results) item n =
    view_seen d (view_by no_names definitions (result_at results) item) n
    (listed_rear n (map (λ x. x.name) (declared d)) (map (λ x. x.name) (mentioned d))
    (mentioned_listed (mentioned d) m among)) in
    let value = used_value (sees definitions results item d n)
    (is_declared_before (enumerators d) (limit_of (index + 2)) n) no_mention in
    let at = r.at in
    let limit : limit_of (index + 2) ≡ word = omega (arith, at) in
    let names : map (λ k. k.enumerator) (ks ++ rest) ≡ enumerators d = ap (map (λ k. k.enumerator))
    (sym r.is) ∙ known_enumerators see [] None (enumerators d) in
    let own : is_declared_before (enumerators d) (limit_of (index + 2)) n ≡ true
    → IsNumber (number_before ks word n) =
    λ e. before_good ks rest word n r.good r.up (ap (λ l. is_declared_before l word n) names
    ∙ ap (λ l. is_declared_before (enumerators d) l n) (sym limit) ∙ e) in
    subst (λ w. IsNumber (number_seen w (number_before ks word n))) (sym view)
    (value_known definitions results item n (is_declared_before (enumerators d) (limit_of (index + 2)) n)
    (number_before ks word n) r.fine.are r.fine.fine
    (subst (λ w. IsValue w (is_declared_before (enumerators d) (limit_of (index + 2)) n)) view value) own)

-- a value of an enumerator that has a number has one that an enum may have
value_good : (definitions : List (Option Definition)) (results : List (Option Outcome)) (item : ℕ)
    (d : Definition) (ks rest : List Known) (index word : ℕ) (v : tree.Value)
    → IsReached definitions results item d ks rest index word → HasRole d (index + 2) (EnumeratorValue v)
    → IsNumber (number_by (sees definitions results item d) ks word v)
    → IsGood (number_by (sees definitions results item d) ks word v)
value_good definitions results item d ks rest index word v r role number =
    (number.0, number.1, by (is_enum_number number.0) refl)
  where
    by : (b : Bool) → is_enum_number number.0 ≡ b → is_enum_number number.0 ≡ true
    by true e = e
    by false e =
        let at = r.at in
        let limit : limit_of (index + 2) ≡ word = omega (arith, at) in
        let same : number_at (sees definitions results item d) (enumerators d) (index + 2) v ≡ number_by
        (sees definitions results item d) ks word v =
        ap (λ l. number_by (sees definitions results item d)
        (knowns (sees definitions results item d) (enumerators d)) l v) limit
        ∙ by_known (sees definitions results item d)
        (knowns (sees definitions results item d) (enumerators d)) ks rest word v r.is r.up in
        let broken : IsNoEnumValue d (sees definitions results item d) (index + 2) = record
        { given = v; is_value = role; number = number.0; number_is = same ∙ number.1; outside = e } in
        absurd (no_fault definitions results item d (index + 2) rule_codes.Range r.fine (inr (inl broken)))

value_number : (definitions : List (Option Definition)) (results : List (Option Outcome)) (item : ℕ)
    (d : Definition) (ks rest : List Known) (index word : ℕ) (v : tree.Value)
    → IsReached definitions results item d ks rest index word → HasRole d (index + 2) (EnumeratorValue v)
    → IsNumber (number_by (sees definitions results item d) ks word v)
value_number definitions results item d ks rest index word (tree.Number text) r role = by (in_range text) refl
  where
    by : (b : Bool) → in_range text ≡ b → IsNumber (number_spelled text)
    by true e = spelled text e
    by false e =
        let broken : IsNoConstant d (index + 2) = record {
          role = EnumeratorValue
              (tree.Number text);
          has_role = role;
          text = text;
          is_value = refl;
          outside = e;
        } in
        absurd (no_fault definitions results item d (index + 2) rule_codes.Range r.fine (inl broken))
value_number definitions results item d ks rest index word
    (tree.Named n) r role = named_number definitions results item d ks rest index word n r role

given_good : (definitions : List (Option Definition)) (results : List (Option Outcome)) (item : ℕ)
    (d : Definition) (ks rest : List Known) (before : Option ℤ) (index word : ℕ) (is_first : Bool)
    (v : Option tree.Value)
    → IsReached definitions results item d ks rest index word → GivenAt (gloss d) (index + 2) v
    → (is_first ≡ false → IsGood before)
    → ((z : ℤ) → v ≡ None → number_given (sees definitions results item d) ks before word is_first v ≡ Some z
    → is_enum_number z ≡ false → ⊥)
    → IsGood (number_given (sees definitions results item d) ks before word is_first v)
given_good definitions results item d ks rest before index word is_first (Some v) r told led past =
    let role : HasRole d (index + 2) (EnumeratorValue v) = record {
      gloss_at = told.gloss_at;
      word_is = told.there;
      has = subst (λ rs. IsAmong rs (EnumeratorValue v))
          (sym told.roles) (value_among v);
    } in
    value_good definitions results item d ks rest index word v r role
    (value_number definitions results item d ks rest index word v r role)
given_good definitions results item d ks rest before index word true None r told led past =
    (pos 0, refl, refl)
given_good definitions results item d ks rest before index word false None r told led past =
    let last = led refl in
    let next : next_number before ≡ Some (last.0 +ℤ pos 1) = ap next_number last.1
    ∙ ap (λ b. cond b (Some (last.0 +ℤ pos 1)) None) last.2 in
    (last.0 +ℤ pos 1, next, by (is_enum_number (last.0 +ℤ pos 1)) refl next)
  where
    by : {z : ℤ} (b : Bool) → is_enum_number z ≡ b → next_number before ≡ Some z → is_enum_number z ≡ true
    by true e k = e
    by {z} false e k = absurd (past z refl k e)

-- the first of them is the first of its enum, or stands behind one with a number
abbrev IsLed : Option ℤ → List EnumeratorAt → Type 0
IsLed before [] = Unit {0}
IsLed before (e ∷ es) = e.is_first ≡ false → IsGood before

goods : (definitions : List (Option Definition)) (results : List (Option Outcome)) (item : ℕ)
    (d : Definition) (ks : List Known) (low : ℕ) (before : Option ℤ) (es : List EnumeratorAt)
    → IsFine definitions results item d
    → knowns (sees definitions results item d) (enumerators d) ≡ known_with
    (sees definitions results item d) ks before es → AllTold (gloss d) 0 es → Ascends low es → AllGood ks
    → IsLed before es
    → AllGood (known_with (sees definitions results item d) ks before es)
goods definitions results item d ks low before [] h same told up good led = good
goods definitions results item d ks low before (e ∷ es) h same told up good led =
    let see = sees definitions results item d in
    let next : Known = record { enumerator = e; number = enumerator_number see ks before e } in
    let rest = known_behind see ks before (e ∷ es) in
    let low_word = up.0 in
    let up_here : Ascends e.word (map (λ k. k.enumerator) rest.rest) = subst (λ l. Ascends e.word l)
    (sym rest.names) (omega arith, up.1) in
    let reached : IsReached definitions results item d ks rest.rest told.0.index e.word = record
    { fine = h; is = same ∙ rest.is; at = told.0.word_is; up = up_here; good = good } in
    let last = known_behind see (ks ++ next ∷ []) (enumerator_number see ks before e) es in
    let among : IsAmong (knowns see (enumerators d)) next =
    subst (λ l. IsAmong l next) (sym (same ∙ last.is))
    (among_front (ks ++ next ∷ []) last.rest next
    (among_rear ks (next ∷ []) next (among_first next []))) in
    let past : (z : ℤ) → e.given ≡ None → enumerator_number see ks before e ≡ Some z
    → is_enum_number z ≡ false
    → ⊥ = λ z none is outside.
    no_fault definitions results item d e.word rule_codes.Range h
    (inr (inr (inr (record {
      here = next;
      among = among;
      word_is = refl;
      no_value = none;
      number = z;
      number_is = is;
      outside =
          outside;
    })))) in
    let good_here = given_good definitions results item d ks rest.rest before told.0.index e.word e.is_first
    e.given reached told.0.value led past in
    goods definitions results item d (ks ++ next ∷ []) (suc e.word)
    (enumerator_number see ks before e) es h same told.1 up.1 (good_more ks next good good_here)
    (led_next es (enumerator_number see ks before e) good_here)
  where
    led_next : (es : List EnumeratorAt) (z : Option ℤ) → IsGood z → IsLed z es
    led_next [] z g = tt
    led_next (x ∷ xs) z g = λ first. g

-- the first enumerator of bodies is the first of its enum
led_bodies : (bs : List BodyAt) → IsLed None (enumerators_in bs)
led_bodies [] = tt
led_bodies (b ∷ bs) = by b.body (led_bodies bs)
  where
    by : (body : tree.Body) → IsLed None (enumerators_in bs)
        → IsLed None (enumerators_of (record { named = b.named; at = b.at; body = body })
        ++ enumerators_in bs)
    by (tree.Enum []) rest = rest
    by (tree.Enum (e ∷ es)) rest = λ first. absurd cc
    by (tree.Struct ds) rest = rest
    by (tree.Union d arms other) rest = rest

pub all_good : (definitions : List (Option Definition)) (results : List (Option Outcome)) (item : ℕ)
    (d : Definition) → IsFine definitions results item d
    → AllGood (knowns (sees definitions results item d) (enumerators d))
all_good definitions results item d h =
    let told = enums_told d in
    goods definitions results item d [] 0 None (enumerators d) h refl told.all told.ascend tt
    (led_bodies (bodies d))
