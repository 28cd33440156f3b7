-- The first places of names.
use Rattle.std.proofs.Common.{◌≡◌, ℕ, suc, ◌+◌, ◌<◌, ◌≤◌, Bool, true, false, cond, List, [], ◌∷◌, ◌++◌}
use Rattle.std.proofs.Common.{length, length-append, arith, map, take, drop, Option, None, Some, refl, sym}
use Rattle.std.proofs.Common.{ap, subst, ◌∙◌}
use Rattle.std.specs.Prelude.{nat_lt, slice_get, option_map, option_and_then, ℤ}
use Rattle.std.specs.Option.{option_map_or}
use Rattle.std.specs.Str.{bytes_eq}
use Rattle.x_outline.specs.Bodies.{EnumeratorAt}
use Rattle.x_rules.specs.Constants.{Known, enumerator_number, known_with, knowns, is_declared_before}
use Rattle.x_rules.specs.Constants.{number_named}
use Rattle.x_rules.specs.Constants.{number_before}
use Rattle.x_rules.specs.FirstPlaces.{first_from, first_place}
use Rattle.x_outline.specs.Parts.{view_enumerator_at}
use Rattle.x_rules.specs.Tables.{HasNumbers}
use Rattle.x_rules.proofs.FirstLemmas.{first_named, shift}
use Rattle.x_lists.proofs.ListLemmas.{some_at, take_next, map_append, get_at, drop_none}
use Rattle.x_rules.specs.Views.{View}
use Rattle.x_rules.specs.declared.rules.constants.Constants.{Constants}

-- ---- enumerators by their names

abbrev enumerator_name : EnumeratorAt → List ℕ
enumerator_name e = e.name

-- the first of the kept enumerators that has the name is the first of these
pub first_listed : (constants : Constants) (all : List EnumeratorAt) (known : List Known) (name : List ℕ)
    → HasNumbers constants all known
    → first_from (λ e. bytes_eq name e.enumerator.now.name.items) 0 constants.list
    ≡ first_place 0 (map (λ e. e.name) all) name
first_listed constants all known name h = first_named enumerator_name view_enumerator_at constants.list name
    ∙ ap (λ l. first_place 0 (map enumerator_name l) name) h.list

-- whether the enumerator in a place stands before a value
abbrev pub before_at : List EnumeratorAt → ℕ → ℕ → Bool
before_at all word place = option_map_or (λ e. nat_lt e.word word) (slice_get all place) false

abbrev pub before_found : List EnumeratorAt → ℕ → Option ℕ → Bool
before_found all word None = false
before_found all word (Some place) = before_at all word place

pub declared_before_is : (all : List EnumeratorAt) (word : ℕ) (name : List ℕ)
    → before_found all word (first_place 0 (map (λ e. e.name) all) name) ≡ is_declared_before all word name
declared_before_is [] word name = refl
declared_before_is (e ∷ es) word name =
    by (bytes_eq name e.name) (first_place 0 (map enumerator_name es) name)
    (shift (bytes_eq name) 0 (map enumerator_name es)) (declared_before_is es word name)
  where
    by : (b : Bool) (o : Option ℕ) → first_place 1 (map enumerator_name es) name ≡ option_map suc o
        → before_found es word o ≡ is_declared_before es word name
        → before_found (e ∷ es) word (cond b (Some 0) (first_place 1 (map enumerator_name es) name))
        ≡ cond b (nat_lt e.word word) (is_declared_before es word name)
    by true o s h = refl
    by false None s h = ap (before_found (e ∷ es) word) s ∙ h
    by false (Some k) s h = ap (before_found (e ∷ es) word) s ∙ h

-- the number in a place
abbrev pub number_there : List (Option ℤ) → Option ℕ → Option ℤ
number_there numbers None = None
number_there numbers (Some place) = option_and_then (λ n. n) (slice_get numbers place)

abbrev known_number : Known → Option ℤ
known_number k = k.number

pub number_named_is : (all : List EnumeratorAt) (known : List Known) (name : List ℕ)
    → map (λ k. k.enumerator) known ≡ take (length known) all
    → number_there (map (λ k. k.number) known) (first_place 0 (map (λ e. e.name) all) name)
    ≡ number_named known name
number_named_is all [] name front = none (first_place 0 (map enumerator_name all) name)
  where
    none : (o : Option ℕ) → number_there [] o ≡ None
    none None = refl
    none (Some k) = refl
number_named_is [] (k ∷ ks) name front = absurd (cc)
number_named_is (e ∷ es) (k ∷ ks) name front =
    by (bytes_eq name e.name) refl (first_place 0 (map enumerator_name es) name)
    (shift (bytes_eq name) 0 (map enumerator_name es)) (number_named_is es ks name rest)
  where
    same : k.enumerator ≡ e
    same = cc

    rest : map (λ k. k.enumerator) ks ≡ take (length ks) es
    rest = cc

    here : bytes_eq name k.enumerator.name ≡ bytes_eq name e.name
    here = ap (λ x. bytes_eq name x.name) same

    by : (b : Bool) → bytes_eq name e.name ≡ b → (o : Option ℕ) → first_place 1 (map enumerator_name es) name
        ≡ option_map suc o → number_there (map known_number ks) o ≡ number_named ks name
        → number_there (map known_number (k ∷ ks))
        (cond b (Some 0) (first_place 1 (map enumerator_name es) name))
        ≡ cond (bytes_eq name k.enumerator.name) k.number (number_named ks name)
    by true t o s h = sym (ap (λ b. cond b k.number (number_named ks name)) (here ∙ t))
    by false t None s h = ap (number_there (map known_number (k ∷ ks))) s ∙ h
        ∙ sym (ap (λ b. cond b k.number (number_named ks name)) (here ∙ t))
    by false t (Some j) s h = ap (number_there (map known_number (k ∷ ks))) s ∙ h
        ∙ sym (ap (λ b. cond b k.number (number_named ks name)) (here ∙ t))

abbrev no_number : Option ℤ
no_number = None

-- the number in a place, if its enumerator stands before a value
abbrev pub number_before_there : List EnumeratorAt → ℕ → List (Option ℤ) → Option ℕ → Option ℤ
number_before_there all word numbers None = None
number_before_there all word numbers (Some place) =
    cond (before_at all word place) (option_and_then (λ n. n) (slice_get numbers place)) None

pub number_before_is : (all : List EnumeratorAt) (known : List Known) (word : ℕ) (name : List ℕ)
    → map (λ k. k.enumerator) known ≡ take (length known) all
    → number_before_there all word (map (λ k. k.number) known) (first_place 0 (map (λ e. e.name) all) name)
    ≡ number_before known word name
number_before_is all [] word name front = none (first_place 0 (map enumerator_name all) name)
  where
    nothing : (b : Bool) → cond b no_number no_number ≡ no_number
    nothing true = refl
    nothing false = refl

    none : (o : Option ℕ) → number_before_there all word [] o ≡ None
    none None = refl
    none (Some k) = nothing (before_at all word k)
number_before_is [] (k ∷ ks) word name front = absurd (cc)
number_before_is (e ∷ es) (k ∷ ks) word name front =
    by (bytes_eq name e.name) refl (first_place 0 (map enumerator_name es) name)
    (shift (bytes_eq name) 0 (map enumerator_name es)) (number_before_is es ks word name rest)
  where
    same : k.enumerator ≡ e
    same = cc

    rest : map (λ k. k.enumerator) ks ≡ take (length ks) es
    rest = cc

    here : bytes_eq name k.enumerator.name ≡ bytes_eq name e.name
    here = ap (λ x. bytes_eq name x.name) same

    by : (b : Bool) → bytes_eq name e.name ≡ b → (o : Option ℕ) → first_place 1 (map enumerator_name es) name
        ≡ option_map suc o → number_before_there es word (map known_number ks) o ≡ number_before ks word name
        → number_before_there (e ∷ es) word (map known_number (k ∷ ks))
        (cond b (Some 0) (first_place 1 (map enumerator_name es) name))
        ≡ cond (bytes_eq name k.enumerator.name) (cond (nat_lt k.enumerator.word word) k.number None)
        (number_before ks word name)
    by true t o s h = ap (λ x. cond (nat_lt x.word word) k.number None) (sym same)
        ∙ sym (ap (λ b. cond b (cond (nat_lt k.enumerator.word word) k.number None)
        (number_before ks word name)) (here ∙ t))
    by false t None s h = ap (number_before_there (e ∷ es) word (map known_number (k ∷ ks))) s ∙ h
        ∙ sym (ap (λ b. cond b (cond (nat_lt k.enumerator.word word) k.number None)
        (number_before ks word name)) (here ∙ t))
    by false t (Some j) s h = ap (number_before_there (e ∷ es) word (map known_number (k ∷ ks))) s ∙ h
        ∙ sym (ap (λ b. cond b (cond (nat_lt k.enumerator.word word) k.number None)
        (number_before ks word name)) (here ∙ t))

-- ---- numbers one after another

-- the enumerators before a place have their numbers, and the others get theirs by these
pub record Numbered (constants : Constants) (all : List EnumeratorAt) (see : List ℕ → View)
    (before : Option ℤ) (place : ℕ) : Type 0 where
  pub known : List Known
  pub has : HasNumbers constants all known
  pub count : length known ≡ place
  pub rest : known_with see known before (drop place all) ≡ knowns see all

pub numbered_next : (constants next : Constants) (all : List EnumeratorAt) (see : List ℕ → View)
    (before number : Option ℤ) (place : ℕ) → Numbered constants all see before place → place < length all
    → ((known : List Known) (e : EnumeratorAt) → HasNumbers constants all known → slice_get all place ≡ Some e
    → number ≡ enumerator_number see known before e)
    → next.list ≡ constants.list → next.numbers ≡ constants.numbers ++ number ∷ []
    → Numbered next all see number (place + 1)
numbered_next constants next all see before number place n lt is list numbers = record {
  known = known;
  has = record {
    list = ap (map view_enumerator_at) list ∙ n.has.list;
    numbers = numbers ∙ ap (λ l. l ++ number ∷ []) n.has.numbers
        ∙ sym (map_append (λ k. k.number) n.known (here ∷ []));
    front = map_append (λ k. k.enumerator) n.known (here ∷ [])
        ∙ ap (λ l. l ++ some.0 ∷ []) (n.has.front ∙ ap (λ i. take i all) n.count)
        ∙ sym (take_next all place some.0 (drop (suc place) all) some.1) ∙ ap (λ i. take i all) (sym count);
  };
  count = count ∙ sym next_place;
  rest = ap (λ i. known_with see known number (drop i all)) next_place
      ∙ ap (λ m. known_with see (n.known ++ record { enumerator = some.0; number = m } ∷ []) m
      (drop (suc place) all)) number_is
      ∙ sym (ap (known_with see n.known before) some.1) ∙ n.rest;
}
  where
    some : (x : EnumeratorAt) × (drop place all ≡ x ∷ drop (suc place) all)
    some = some_at all place lt

    here : Known
    here = record { enumerator = some.0; number = number }

    known : List Known
    known = n.known ++ here ∷ []

    number_is : number ≡ enumerator_number see n.known before some.0
    number_is = is n.known some.0 n.has (get_at all place some.0 (drop (suc place) all) some.1)

    next_place : place + 1 ≡ suc place
    next_place = omega arith

    count : length known ≡ suc place
    count = let c = n.count in omega (arith, c, length-append n.known (here ∷ []))

-- all enumerators have their numbers
pub numbered_all : (constants : Constants) (all : List EnumeratorAt) (see : List ℕ → View) (before : Option ℤ)
    (place : ℕ) → Numbered constants all see before place → length all ≤ place
    → HasNumbers constants all (knowns see all)
numbered_all constants all see before place n le =
    subst (HasNumbers constants all) (sym (ap (known_with see n.known before) (drop_none all place le))
    ∙ n.rest) n.has
