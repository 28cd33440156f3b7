-- What each family of rules finds is what its rule says, and all of it.
use Rattle.std.specs.Prelude.{ℤ, not, ◌&&◌, ◌||◌}
use Rattle.std.proofs.Common.{◌≡◌, ℕ, ◌<◌, ◌⊎◌, inl, inr, Bool, true, false, cond, List, [], ◌∷◌, ◌++◌}
use Rattle.std.proofs.Common.{Option, None, Some, arith, refl, sym, ap, subst, ◌∙◌}
use Rattle.std.proofs.lemmas.Bool.Decides.{nat_tests}
use Rattle.std.proofs.lemmas.Option.{same_Some}
use Rattle.std.specs.List.{IsAmong, flat_map, list_any}
use Rattle.x_trees.specs.Tree.{Value}
use Rattle.x_trees.specs.Names.{Declared}
use Rattle.x_trees.specs.Mentions.{Mention}
use Rattle.x_rules.specs.Views.{View}
use Rattle.x_outline.specs.Bodies.{EnumeratorAt}
use Rattle.x_rules.specs.Constants.{Known}
use Rattle.x_numbers.specs.Numbers.{is_enum_number}
use Rattle.x_rules.specs.Mentioned.{mention_fault, suits}
use Rattle.x_rules.specs.Tables.{is_too_high}
use Rattle.x_rules.specs.Found.{fault_at, mention_faults, past_last, past_last_faults, too_high}
use Rattle.x_rules.specs.Found.{too_high_faults}
use Rattle.x_rules.specs.Rules.{HasMentionFault, IsPastLast, IsTooHigh}
use Rattle.x_rules.specs.Limits.{most_height}
use Rattle.x_rules.specs.declared.fault.RuleCode.{RuleCode}
use Rattle.x_rules.specs.declared.fault.RuleCode.TheVariants as codes
use Rattle.x_rules.specs.declared.fault.WordFault.{WordFault}
use Rattle.x_trees.proofs.AmongLemmas.{among_first, among_same, among_more, among_cases, among_none}
use Rattle.x_trees.proofs.AmongLemmas.{among_front, among_rear, among_parts}

-- ---- lists of faults

-- what is found of one of these
pub record OfOne {X Y : Type 0} (f : X → List Y) (xs : List X) (y : Y) : Type 0 where
  pub one : X
  pub among : IsAmong xs one
  pub of_it : IsAmong (f one) y

pub flat_among : {X Y : Type 0} (f : X → List Y) (xs : List X) (y : Y) → IsAmong (flat_map f xs) y
    → OfOne f xs y
flat_among f [] y h = absurd (among_none y h)
flat_among f (x ∷ xs) y h = by (among_parts (f x) (flat_map f xs) y h) (flat_among f xs y)
  where
    by : IsAmong (f x) y ⊎ IsAmong (flat_map f xs) y → (IsAmong (flat_map f xs) y → OfOne f xs y)
        → OfOne f (x ∷ xs) y
    by (inl k) more = record { one = x; among = among_first x xs; of_it = k }
    by (inr k) more =
        let o = more k in record { one = o.one; among = among_more x o.one xs o.among; of_it = o.of_it }

pub among_flat : {X Y : Type 0} (f : X → List Y) (xs : List X) (x : X) (y : Y) → IsAmong xs x
    → IsAmong (f x) y → IsAmong (flat_map f xs) y
among_flat f [] x y h k = absurd (among_none x h)
among_flat f (z ∷ zs) x y h k = by (among_cases z x zs h) (λ j. among_flat f zs x y j k)
  where
    by : (x ≡ z) ⊎ IsAmong zs x → (IsAmong zs x → IsAmong (flat_map f zs) y)
        → IsAmong (f z ++ flat_map f zs) y
    by (inl e) more = among_front (f z) (flat_map f zs) y (subst (λ w. IsAmong (f w) y) e k)
    by (inr j) more = among_rear (f z) (flat_map f zs) y (more j)

-- the fault at a word
pub record IsThat (word : ℕ) (code : Option RuleCode) (f : WordFault) : Type 0 where
  pub word_is : f.word ≡ word
  pub code_is : code ≡ Some f.code

pub fault_is : (word : ℕ) (code : Option RuleCode) (f : WordFault) → IsAmong (fault_at word code) f
    → IsThat word code f
fault_is word None f h = absurd (among_none f h)
fault_is word (Some code) f h = by (among_cases (record { word = word; code = code }) f [] h)
  where
    by : (f ≡ record { word = word; code = code }) ⊎ IsAmong [] f → IsThat word (Some code) f
    by (inl e) = record { word_is = ap (λ x. x.word) e; code_is = ap Some (sym (ap (λ x. x.code) e)) }
    by (inr k) = absurd (among_none f k)

pub is_fault : (word at : ℕ) (found : Option RuleCode) (code : RuleCode) → word ≡ at → found ≡ Some code
    → IsAmong (fault_at at found) (record { word = word; code = code })
is_fault word at found code e f =
    subst (λ o. IsAmong (fault_at at o) (record { word = word; code = code })) (sym f)
    (among_same (record { word = at; code = code }) (record { word = word; code = code }) []
    (λ i. record { word = sym e i; code = code }))

-- ---- names that are used

pub found_mention : (see : List ℕ → View) (es : List EnumeratorAt) (ms : List Mention) (f : WordFault)
    → IsAmong (mention_faults see es ms) f → HasMentionFault ms see es f.code f.word
found_mention see es ms f h =
    let o = flat_among (λ m. fault_at m.word (mention_fault see es m)) ms f h in
    let is = fault_is o.one.word (mention_fault see es o.one) f o.of_it in
    record { mention = o.one; among = o.among; word_is = is.word_is; fault = is.code_is }

pub mention_found : (see : List ℕ → View) (es : List EnumeratorAt) (ms : List Mention) (word : ℕ)
    (code : RuleCode) → HasMentionFault ms see es code word
    → IsAmong (mention_faults see es ms) (record { word = word; code = code })
mention_found see es ms word code h =
    among_flat (λ m. fault_at m.word (mention_fault see es m)) ms h.mention
    (record { word = word; code = code }) h.among
    (is_fault word h.mention.word (mention_fault see es h.mention) code h.word_is h.fault)

-- ---- enumerators without a value

record PastLast (given : Option Value) (number : Option ℤ) (code : RuleCode) : Type 0 where
  pub no_value : given ≡ None
  pub z : ℤ
  pub number_is : number ≡ Some z
  pub outside : is_enum_number z ≡ false
  pub code_is : code ≡ codes.Range

past_last_is : (given : Option Value) (number : Option ℤ) (code : RuleCode)
    → past_last given number ≡ Some code → PastLast given number code
past_last_is None None code h = absurd (cc)
past_last_is (Some v) None code h = absurd (cc)
past_last_is (Some v) (Some z) code h = absurd (cc)
past_last_is None (Some z) code h = by (is_enum_number z) refl
  where
    none : Option RuleCode
    none = None

    by : (b : Bool) → is_enum_number z ≡ b → PastLast None (Some z) code
    by true e = let is : none ≡ Some code = sym (ap (λ b. cond b none (Some codes.Range)) e) ∙ h in
        absurd (cc)
    by false e = record {
      no_value = refl;
      z = z;
      number_is = refl;
      outside = e;
      code_is = sym (same_Some codes.Range code (sym (ap (λ b. cond b none (Some codes.Range)) e) ∙ h));
    }

pub found_past_last : (known : List Known) (f : WordFault) → IsAmong (past_last_faults known) f
    → (f.code ≡ codes.Range) × IsPastLast known f.word
found_past_last known f h =
    let o = flat_among (λ k. fault_at k.enumerator.word (past_last k.enumerator.given k.number)) known f h in
    let is = fault_is o.one.enumerator.word (past_last o.one.enumerator.given o.one.number) f o.of_it in
    let past = past_last_is o.one.enumerator.given o.one.number f.code is.code_is in (
      past.code_is,
      record {
        here = o.one;
        among = o.among;
        word_is = is.word_is;
        no_value = past.no_value;
        number = past.z;
        number_is = past.number_is;
        outside = past.outside;
      },
    )

pub past_last_found : (known : List Known) (word : ℕ) → IsPastLast known word
    → IsAmong (past_last_faults known) (record { word = word; code = codes.Range })
past_last_found known word h =
    among_flat (λ k. fault_at k.enumerator.word (past_last k.enumerator.given k.number)) known h.here
    (record { word = word; code = codes.Range }) h.among
    (is_fault word h.here.enumerator.word (past_last h.here.enumerator.given h.here.number)
    codes.Range h.word_is
    (ap (λ v. past_last v h.here.number) h.no_value ∙ ap (past_last None) h.number_is
    ∙ ap (λ b. cond b no_code (Some codes.Range)) h.outside))
  where
    no_code : Option RuleCode
    no_code = None

-- ---- types that are too high

pub any_is : {X : Type 0} (p : X → Bool) (xs : List X) → list_any p xs ≡ true
    → (x : X) × IsAmong xs x × (p x ≡ true)
any_is p [] h = absurd (cc)
any_is p (x ∷ xs) h = by (p x) refl (any_is p xs)
  where
    by : (b : Bool) → p x ≡ b → (list_any p xs ≡ true → (y : _) × IsAmong xs y × (p y ≡ true))
        → (y : _) × IsAmong (x ∷ xs) y × (p y ≡ true)
    by true e more = (x, among_first x xs, e)
    by false e more =
        let o = more (sym (ap (λ b. b || list_any p xs) e) ∙ h) in
        (o.0, among_more x o.0 xs o.1, o.2)

pub any_found : {X : Type 0} (p : X → Bool) (xs : List X) (x : X) → IsAmong xs x → p x ≡ true
    → list_any p xs ≡ true
any_found p [] x h e = absurd (among_none x h)
any_found p (z ∷ zs) x h e = by (among_cases z x zs h) (λ k. any_found p zs x k e)
  where
    step : (b : Bool) → list_any p zs ≡ true → (b || list_any p zs) ≡ true
    step true k = refl
    step false k = k

    by : (x ≡ z) ⊎ IsAmong zs x → (IsAmong zs x → list_any p zs ≡ true) → list_any p (z ∷ zs) ≡ true
    by (inl same) more = ap (λ b. b || list_any p zs) (sym (ap p same) ∙ e)
    by (inr k) more = step (p z) (more k)

record TooHigh (high : Bool) (x : Declared) (code : RuleCode) : Type 0 where
  pub is_high : high ≡ true
  pub not_lifted : x.lifted ≡ false
  pub is_type : suits None x.kind ≡ true
  pub code_is : code ≡ codes.TooHigh

too_high_is : (high : Bool) (x : Declared) (code : RuleCode) → too_high high x ≡ Some code
    → TooHigh high x code
too_high_is high x code h = by high x.lifted (suits None x.kind) refl refl refl
  where
    none : Option RuleCode
    none = None

    whole : (a b c : Bool) → high ≡ a → x.lifted ≡ b → suits None x.kind ≡ c
        → cond (a && (not b && c)) (Some codes.TooHigh) none ≡ Some code
    whole a b c e f g =
        sym (ap (λ b. cond b (Some codes.TooHigh) none) (ap (λ t. t && (not x.lifted && suits None x.kind)) e
        ∙ ap (λ t. a && (not t && suits None x.kind)) f ∙ ap (λ t. a && (not b && t)) g)) ∙ h

    by : (a b c : Bool) → high ≡ a → x.lifted ≡ b → suits None x.kind ≡ c → TooHigh high x code
    by true false true e f g =
        record {
          is_high = e;
          not_lifted = f;
          is_type = g;
          code_is = sym (same_Some codes.TooHigh code (whole true false true e f g));
        }
    by true false false e f g = let w = whole true false false e f g in absurd (cc)
    by true true c e f g = let w = whole true true c e f g in absurd (cc)
    by false b c e f g = let w = whole false b c e f g in absurd (cc)

-- the own name of a type, where one of the heights is too high
pub too_high_at : (heights : List ℕ) (names : List Declared) (own : Declared) → list_any is_too_high heights
    ≡ true → IsAmong names own → suits None own.kind ≡ true → own.lifted ≡ false
    → IsTooHigh names heights own.word
too_high_at heights names own h among is_type not_lifted =
    let tall = any_is is_too_high heights h in
    record {
      own = own;
      among = among;
      is_type = is_type;
      not_lifted = not_lifted;
      word_is = refl;
      height = tall.0;
      is_height = tall.1;
      outside = over tall.0 tall.2;
    }
  where
    over : (height : ℕ) → is_too_high height ≡ true → most_height < height
    over height e = grind (arith, nat_tests)

pub found_too_high : (heights : List ℕ) (names : List Declared) (f : WordFault)
    → IsAmong (too_high_faults (list_any is_too_high heights) names) f
    → (f.code ≡ codes.TooHigh) × IsTooHigh names heights f.word
found_too_high heights names f h =
    let high = list_any is_too_high heights in
    let o = flat_among (λ x. fault_at x.word (too_high high x)) names f h in
    let is = fault_is o.one.word (too_high high o.one) f o.of_it in
    let too = too_high_is high o.one f.code is.code_is in (
      too.code_is,
      subst (IsTooHigh names heights) (sym is.word_is)
          (too_high_at heights names o.one too.is_high o.among too.is_type too.not_lifted),
    )

pub too_high_found : (heights : List ℕ) (names : List Declared) (word : ℕ) → IsTooHigh names heights word
    → IsAmong (too_high_faults (list_any is_too_high heights) names)
    (record { word = word; code = codes.TooHigh })
too_high_found heights names word h =
    let high = list_any is_too_high heights in
    let tall : high ≡ true = any_found is_too_high heights h.height h.is_height (over h.height h.outside) in
    among_flat (λ x. fault_at x.word (too_high high x)) names h.own
    (record { word = word; code = codes.TooHigh }) h.among
    (is_fault word h.own.word (too_high high h.own) codes.TooHigh h.word_is
    (ap (λ b. cond b (Some codes.TooHigh) no_code)
    (ap (λ t. t && (not h.own.lifted && suits None h.own.kind)) tall
    ∙ ap (λ t. true && (not t && suits None h.own.kind)) h.not_lifted
    ∙ ap (λ t. true && (not false && t)) h.is_type)))
  where
    no_code : Option RuleCode
    no_code = None

    over : (height : ℕ) → most_height < height → is_too_high height ≡ true
    over height lt = grind (arith, nat_tests)
