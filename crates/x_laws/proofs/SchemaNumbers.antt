-- The numbers of a faultless text are those that its names mean.
use Rattle.std.proofs.Common.{◌≡◌, ◌<◌, ◌≤◌, ℕ, zero, suc, ◌+◌, ℤ, pos, Bool, true, false, ◌||◌, cond, map}
use Rattle.std.proofs.Common.{List, [], ◌∷◌, length, Option, None, Some, refl, sym, ap, subst, ◌∙◌, arith}
use Rattle.std.specs.Prelude.{slice_get, nat_lt, codes, option_map, option_and_then}
use Rattle.std.specs.Map.{lookup}
use Rattle.std.specs.Option.{option_or, unwrap_or}
use Rattle.std.specs.Str.{bytes_eq}
use Rattle.std.proofs.lemmas.Bool.Decides.{nat_tests}
use Rattle.std.proofs.lemmas.Option.{same_Some}
use Rattle.std.proofs.lemmas.Slice.Eq.{bytes_eq-Decides}
use Rattle.x_numbers.proofs.Lookups.{or_none}
use Rattle.x_trees.specs.Tree as tree
use Rattle.x_trees.specs.Tree.{Definition}
use Rattle.x_trees.specs.Gloss.{gloss}
use Rattle.x_trees.specs.Names.{declared}
use Rattle.x_trees.specs.declared.names.declared_name.NameKind.{NameKind}
use Rattle.x_trees.specs.declared.names.declared_name.NameKind.TheVariants as kinds
use Rattle.x_names.specs.Declarers.{IsFirstDeclarer, is_beforehand, first_declarer, first_from}
use Rattle.x_names.specs.declared.names.Declarer.{Declarer}
use Rattle.x_names.proofs.DeclarerLaws.{as_found, found_is_first, one_first}
use Rattle.x_outline.specs.Bodies.{enumerators}
use Rattle.x_rules.specs.Constants.{knowns, number_named, number_seen, number_at}
use Rattle.x_rules.specs.Results.{Outcome, AreResults, result_at, view_by, view_of, meaning_at, meaning_in}
use Rattle.x_rules.specs.Results.{meaning_of, meanings_by, constant_number, constant_of, beforehand_meaning}
use Rattle.x_rules.specs.Results.{no_names}
use Rattle.x_rules.specs.Views.{View, Meaning, Constant, Bad, Earlier, Own, Later}
use Rattle.x_schema.specs.SchemaOf.{Numbers, beforehand, number_in, numbers_of, with_definition}
use Rattle.x_schema.specs.SchemaOf.{with_definitions, with_number}
use Rattle.x_laws.specs.Meant.{AreFaultless, number_meant, sees}
use Rattle.x_laws.proofs.EnumWords.{words_use}
use Rattle.x_laws.proofs.Faultless.{outcome_of}
use Rattle.x_laws.proofs.NumberFold.{definition_fold, taken}
use Rattle.x_laws.proofs.NumberMeant.{AreKnown, AtItem, IsOwn, all_known, named_in, one_more, own_at}
use Rattle.x_laws.proofs.NumberMeant.{own_free, same_named_number, view_first}

-- ---- what a definition adds

-- the number of an item's own constant of the name
abbrev pub own_number : Definition → (List ℕ → View) → List ℕ → Option ℤ
own_number (tree.Const own value) see m = cond (bytes_eq m own) (number_at see [] 3 value) None
own_number d see m = number_named (knowns see (enumerators d)) m

-- a definition's constants are known by these numbers, and are its own
record Adds (definitions : List (Option Definition)) (item : ℕ) (numbers now : Numbers)
    (own : List ℕ → Option ℤ) : Type 0 where
  both : (m : List ℕ) → lookup (bytes_eq m) now ≡ option_or (lookup (bytes_eq m) numbers) (own m)
  declared : (m : List ℕ) (z : ℤ) → own m ≡ Some z → (word : ℕ) × IsOwn definitions item m word

enums_add : (definitions : List (Option Definition)) (results : List (Option Outcome)) (item : ℕ)
    (d : Definition) (numbers now : Numbers) → AtItem definitions results item d numbers
    → AreKnown definitions item numbers now (knowns (sees definitions results item d) (enumerators d))
    → Adds definitions item numbers now (number_named
    (knowns (sees definitions results item d) (enumerators d)))
enums_add definitions results item d numbers now h k =
    record {
      both = k.both;
      declared = λ m z e. k.own m
          (named_in (knowns (sees definitions results item d) (enumerators d)) m z e);
    }

const_number : (definitions : List (Option Definition)) (results : List (Option Outcome)) (item : ℕ)
    (own : List ℕ) (value : tree.Value) (numbers : Numbers)
    → AtItem definitions results item (tree.Const own value) numbers
    → number_in numbers value ≡ number_at (sees definitions results item
    (tree.Const own value)) [] 3 value
const_number definitions results item own (tree.Number text) numbers h = refl
const_number definitions results item own (tree.Named n) numbers h =
    same_named_number definitions results item (tree.Const own (tree.Named n)) numbers numbers [] 0 1 n h
    (λ m. or_none (lookup (bytes_eq m) numbers)) (λ m e. absurd cc) tt (omega arith) used
  where
    or_true : (a : Bool) → a ≡ true → (a || false) || false ≡ true
    or_true true e = refl
    or_true false e = absurd cc

    used : words_use n (gloss (tree.Const own (tree.Named n))) ≡ true
    used = or_true (bytes_eq n n) ((bytes_eq-Decides n n).1 refl)

const_adds : (definitions : List (Option Definition)) (results : List (Option Outcome)) (item : ℕ)
    (own : List ℕ) (value : tree.Value) (numbers : Numbers)
    → AtItem definitions results item (tree.Const own value) numbers
    → Adds definitions item numbers (with_number numbers own (number_in numbers value))
    (own_number (tree.Const own value) (sees definitions results item (tree.Const own value)))
const_adds definitions results item own value numbers h = record { both = both; declared = declared_there }
  where
    both : (m : List ℕ) → lookup (bytes_eq m) (with_number numbers own (number_in numbers value)) ≡ option_or
        (lookup (bytes_eq m) numbers) (cond (bytes_eq m own)
        (number_at (sees definitions results item (tree.Const own value)) [] 3 value) None)
    both m =
        ap (λ y. lookup (bytes_eq m) (with_number numbers own y))
        (const_number definitions results item own value numbers h)
        ∙ one_more numbers numbers [] (record { word = 1; name = own; given = None; is_first = true })
        (number_at (sees definitions results item (tree.Const own value)) [] 3 value) refl
        (own_free definitions results item (tree.Const own value) numbers own 1 h
        (own_at definitions results item (tree.Const own value) numbers own 1 0 h refl))
        (λ x. or_none (lookup (bytes_eq x) numbers)) m

    declared_there : (m : List ℕ) (y : ℤ) → cond (bytes_eq m own)
        (number_at (sees definitions results item (tree.Const own value)) [] 3 value) None ≡ Some y
        → (word : ℕ) × IsOwn definitions item m word
    declared_there m y k = by (bytes_eq m own) refl k
      where
        by : (b : Bool) → bytes_eq m own ≡ b → cond b
            (number_at (sees definitions results item (tree.Const own value)) [] 3 value) None ≡ Some y
            → (word : ℕ) × IsOwn definitions item m word
        by true j k = (
          1,
          subst (λ n. IsOwn definitions item n 1) (sym ((bytes_eq-Decides m own).0 j))
              (own_at definitions results item (tree.Const own value) numbers own 1 0 h refl),
        )
        by false j k = absurd cc

definition_adds : (definitions : List (Option Definition)) (results : List (Option Outcome)) (item : ℕ)
    (d : Definition) (numbers : Numbers) → AtItem definitions results item d numbers
    → Adds definitions item numbers (taken numbers d) (own_number d (sees definitions results item d))
definition_adds definitions results item
    (tree.Const own value) numbers h = const_adds definitions results item own value numbers h
definition_adds definitions results item (tree.Typedef d) numbers h = enums_add definitions results item
    (tree.Typedef d) numbers _ h (all_known definitions results item (tree.Typedef d) numbers h)
definition_adds definitions results item (tree.NewType name body) numbers h =
    enums_add definitions results item (tree.NewType name body) numbers _ h
    (all_known definitions results item (tree.NewType name body) numbers h)
definition_adds definitions results item (tree.Program name versions number) numbers h =
    enums_add definitions results item (tree.Program name versions number) numbers _ h
    (all_known definitions results item (tree.Program name versions number) numbers h)

-- ---- what its constants mean

-- the own name of a constant
const_named : (own m : List ℕ) (value : tree.Value) (place word : ℕ) (kind : NameKind) (lifted : Bool)
    → slice_get (declared (tree.Const own value)) place ≡ Some
    (record { name = m; word = word; kind = kind; lifted = lifted }) → own ≡ m
const_named own m (tree.Number text) zero word kind lifted e =
    ap (λ x. x.name) (same_Some (record { name = own; word = 1; kind = kinds.Constant; lifted = false })
    (record { name = m; word = word; kind = kind; lifted = lifted }) e)
const_named own m (tree.Named n) zero word kind lifted e =
    ap (λ x. x.name) (same_Some (record { name = own; word = 1; kind = kinds.Constant; lifted = false })
    (record { name = m; word = word; kind = kind; lifted = lifted }) e)
const_named own m (tree.Number text) (suc place) word kind lifted e = absurd cc
const_named own m (tree.Named n) (suc place) word kind lifted e = absurd cc

pub own_constant : (d : Definition) (see : List ℕ → View) (m : List ℕ) (place word : ℕ) (kind : NameKind)
    (lifted : Bool)
    → slice_get (declared d) place ≡ Some (record { name = m; word = word; kind = kind; lifted = lifted })
    → constant_number d see m ≡ own_number d see m
own_constant (tree.Const own value) see m place word kind lifted e =
    let same = const_named own m value place word kind lifted e in
    let test : bytes_eq m own ≡ true = (bytes_eq-Decides m own).1 (sym same) in
    sym (ap (λ b. cond b (number_at see [] 3 value) None) test)
own_constant (tree.Typedef d) see m place word kind lifted e = refl
own_constant (tree.NewType name body) see m place word kind lifted e = refl
own_constant (tree.Program name versions number) see m place word kind lifted e = refl

get_mapped : {X Y : Type 0} (f : X → Y) (xs : List X) (i : ℕ) (x : X) → slice_get xs i ≡ Some x
    → slice_get (map f xs) i ≡ Some (f x)
get_mapped f [] i x e = absurd cc
get_mapped f (y ∷ ys) zero x e = ap (λ z. Some (f z)) (same_Some y x e)
get_mapped f (y ∷ ys) (suc i) x e = get_mapped f ys i x e

-- what a name means that is declared in a faultless item
pub own_meaning : (definitions : List (Option Definition)) (results : List (Option Outcome)) (item : ℕ)
    (d : Definition) (m : List ℕ) (at : Declarer) → AreResults no_names definitions results
    → AreFaultless results
    → slice_get definitions item ≡ Some (Some d) → at.item ≡ item
    → slice_get (declared d) at.place ≡ Some (record
    { name = m; word = at.word; kind = at.kind; lifted = at.lifted })
    → meaning_at (result_at results) at ≡ meaning_of d (sees definitions results item d)
    (record { name = m; word = at.word; kind = at.kind; lifted = at.lifted })
own_meaning definitions results item d m at are fine there same declares =
    let o = outcome_of definitions results item d are there in
    let found : result_at results at.item ≡ Some o.outcome = ap (result_at results) same
    ∙ ap (option_and_then (λ x. x)) o.is in
    let meanings : o.outcome.meanings ≡ map (meaning_of d (sees definitions results item d)) (declared d) =
    o.all.are_meanings ∙ ap (meanings_by d (sees definitions results item d)) (fine item o.outcome o.is) in
    ap (λ r. unwrap_or (option_map (λ x. meaning_in x at.place) r) Bad) found
    ∙ ap (λ ms. unwrap_or (slice_get ms at.place) Bad) meanings
    ∙ ap (λ x. unwrap_or x Bad) (get_mapped (meaning_of d (sees definitions results item d))
    (declared d) at.place
    (record { name = m; word = at.word; kind = at.kind; lifted = at.lifted }) declares)

pub constant_seen : (lifted : Bool) (z : Option ℤ)
    → number_seen (Earlier kinds.Constant lifted (constant_of z)) None ≡ z
constant_seen lifted None = refl
constant_seen lifted (Some z) = refl

-- ---- from an item to the next

-- what is seen of a name from behind an item, where this is its own number of the name
next_seen : (definitions : List (Option Definition)) (results : List (Option Outcome)) (item : ℕ)
    (m : List ℕ) (own : Option ℤ)
    → ((z : ℤ) → own ≡ Some z → (word : ℕ) × IsOwn definitions item m word)
    → ((at : Declarer) → IsFirstDeclarer definitions m at → at.item ≡ item
    → number_seen (Earlier at.kind at.lifted (meaning_at (result_at results) at)) None ≡ own)
    → number_seen (view_by no_names definitions (result_at results) (suc item) m) None ≡ option_or
    (number_seen (view_by no_names definitions (result_at results) item m) None) own
next_seen definitions results item m own declares means = by (is_beforehand m) refl
    (first_from 0 definitions m) refl
  where
    told : (b c : Bool) (x : Option ℤ) → number_seen
        (Earlier kinds.Constant false (cond b (Constant (pos 1)) (Constant (pos 0)))) None
        ≡ option_or (number_seen (Earlier kinds.Constant false
        (cond b (Constant (pos 1)) (Constant (pos 0)))) None) x
    told true c x = refl
    told false c x = refl

    -- it is none where another item declares the name first, or nobody does
    other : (o : Option ℤ) → own ≡ o → ((word : ℕ) → IsOwn definitions item m word → ⊥) → own ≡ None
    other None e no_one = e
    other (Some z) e no_one = let one = declares z e in absurd (no_one one.0 one.1)

    elsewhere : (at : Declarer) → IsFirstDeclarer definitions m at → (at.item ≡ item → ⊥) → own ≡ None
    elsewhere at h apart = other own refl (λ word k. apart
        (ap (λ a. a.item) (one_first definitions m at k.at h k.first) ∙ k.item_is))

    found : (at : Declarer) → IsFirstDeclarer definitions m at
        → (a b c d : Bool) → nat_lt at.item item ≡ a → nat_lt item at.item ≡ b
        → nat_lt at.item (suc item) ≡ c → nat_lt (suc item) at.item ≡ d
        → number_seen (cond c (Earlier at.kind at.lifted (meaning_at (result_at results) at))
        (cond d (Later at.kind at.lifted) (Own at.kind at.lifted))) None
        ≡ option_or (number_seen (cond a (Earlier at.kind at.lifted (meaning_at (result_at results) at))
        (cond b (Later at.kind at.lifted) (Own at.kind at.lifted))) None) own
    found at h true b true d p q r s =
        let none = elsewhere at h (λ e. absurd (let lt : at.item < item = grind (arith, nat_tests) in omega
        (arith, lt, e))) in
        or_none (number_seen (Earlier at.kind at.lifted (meaning_at (result_at results) at)) None)
        ∙ ap (option_or (number_seen (Earlier at.kind at.lifted (meaning_at (result_at results) at)) None))
        (sym none)
    found at h true b false d p q r s = absurd (let lt : at.item < item = grind
        (arith, nat_tests) in let ge : suc item ≤ at.item = grind (arith, nat_tests) in omega (arith, lt, ge))
    found at h false b true d p q r s =
        let same : at.item ≡ item = (let ge : item ≤ at.item = grind
        (arith, nat_tests) in let lt : at.item < suc item = grind (arith, nat_tests) in omega
        (arith, ge, lt)) in
        means at h same ∙ later_none b
      where
        own_none : (k : NameKind) (l : Bool) → number_seen (Own k l) None ≡ None
        own_none kinds.Constant l = refl
        own_none kinds.Enum l = refl
        own_none kinds.Struct l = refl
        own_none kinds.Union l = refl
        own_none kinds.Typedef l = refl
        own_none kinds.Program l = refl

        later_none : (b : Bool) → own ≡ option_or
            (number_seen (cond b (Later at.kind at.lifted) (Own at.kind at.lifted)) None) own
        later_none true = refl
        later_none false = ap (λ o. option_or o own) (sym (own_none at.kind at.lifted))
    found at h false b false d p q r s =
        let ge : suc item ≤ at.item = grind (arith, nat_tests) in
        let none = elsewhere at h (λ e. absurd (omega (arith, ge, e))) in
        unseen d ∙ sym none ∙ ap (λ o. option_or o own) (sym (unseen b))
      where
        own_none : (k : NameKind) (l : Bool) → number_seen (Own k l) None ≡ None
        own_none kinds.Constant l = refl
        own_none kinds.Enum l = refl
        own_none kinds.Struct l = refl
        own_none kinds.Union l = refl
        own_none kinds.Typedef l = refl
        own_none kinds.Program l = refl

        unseen : (b : Bool) → number_seen (cond b (Later at.kind at.lifted)
            (Own at.kind at.lifted)) None ≡ None
        unseen true = refl
        unseen false = own_none at.kind at.lifted

    by : (b : Bool) → is_beforehand m ≡ b → (o : Option Declarer) → first_from 0 definitions m ≡ o
        → number_seen (view_by no_names definitions (result_at results) (suc item) m) None ≡ option_or
        (number_seen (view_by no_names definitions (result_at results) item m) None) own
    by true e o f =
        ap (λ b. number_seen (cond b (Earlier kinds.Constant false (beforehand_meaning m))
        (view_of (result_at results) (suc item) (first_declarer definitions m))) None) e
        ∙ told (bytes_eq m (codes "TRUE")) true own
        ∙ sym (ap (λ b. option_or (number_seen (cond b (Earlier kinds.Constant false (beforehand_meaning m))
        (view_of (result_at results) item (first_declarer definitions m))) None) own) e)
    by false e None f =
        let nobody : first_declarer definitions m ≡ None = ap
        (λ b. cond b None (first_from 0 definitions m)) e ∙ f in
        let none = other own refl (λ word k. let is = as_found definitions m
        (Some k.at) k.first in absurd cc) in
        ap (λ b. number_seen (cond b (Earlier kinds.Constant false (beforehand_meaning m))
        (view_of (result_at results) (suc item) (first_declarer definitions m))) None) e
        ∙ ap (λ o. number_seen (view_of (result_at results) (suc item) o) None) nobody
        ∙ sym none
        ∙ sym (ap (λ b. option_or (number_seen (cond b (Earlier kinds.Constant false (beforehand_meaning m))
        (view_of (result_at results) item (first_declarer definitions m))) None) own) e
        ∙ ap (λ o. option_or (number_seen (view_of (result_at results) item o) None) own) nobody)
    by false e (Some at) f =
        let h = found_is_first definitions m at f e in
        ap (λ v. number_seen v None) (view_first definitions (result_at results) (suc item) m at h)
        ∙ found at h (nat_lt at.item item) (nat_lt item at.item) (nat_lt at.item (suc item))
        (nat_lt (suc item) at.item) refl refl refl refl
        ∙ sym (ap (λ v. option_or (number_seen v None) own)
        (view_first definitions (result_at results) item m at h))

-- ---- the items

-- a name that the item declares first means its number
own_seen : (definitions : List (Option Definition)) (results : List (Option Outcome)) (item : ℕ)
    (d : Definition) (m : List ℕ) (at : Declarer) → AreResults no_names definitions results
    → AreFaultless results
    → slice_get definitions item ≡ Some (Some d) → IsFirstDeclarer definitions m at → at.item ≡ item
    → ((z : ℤ) → own_number d (sees definitions results item d) m ≡ Some z → (word : ℕ)
    × IsOwn definitions item m word)
    → number_seen (Earlier at.kind at.lifted (meaning_at (result_at results) at)) None ≡ own_number d
    (sees definitions results item d) m
own_seen definitions results item d m at are fine there h same own =
    by at.kind refl (own_meaning definitions results item d m at are fine there same declares)
  where
    is : h.declares.definition ≡ d
    is = same_Some h.declares.definition d (same_Some (Some h.declares.definition) (Some d)
        (sym h.declares.item_is ∙ ap (slice_get definitions) same ∙ there))

    declares : slice_get (declared d) at.place ≡ Some
        (record { name = m; word = at.word; kind = at.kind; lifted = at.lifted })
    declares = ap (λ x. slice_get (declared x) at.place) (sym is) ∙ h.declares.declares

    not_own : (o : Option ℤ) → own_number d (sees definitions results item d) m ≡ o
        → (at.kind ≡ kinds.Constant → ⊥) → None ≡ own_number d (sees definitions results item d) m
    not_own None e no_constant = sym e
    not_own (Some z) e no_constant =
        let one = own z e in
        absurd (no_constant (ap (λ a. a.kind) (one_first definitions m at one.1.at h one.1.first)
        ∙ one.1.kind_is))

    meant : NameKind → Meaning
    meant kind = meaning_of d (sees definitions results item d)
        (record { name = m; word = at.word; kind = kind; lifted = at.lifted })

    by : (kind : NameKind) → at.kind ≡ kind → meaning_at (result_at results) at ≡ meaning_of d
        (sees definitions results item d) (record
        { name = m; word = at.word; kind = at.kind; lifted = at.lifted })
        → number_seen (Earlier at.kind at.lifted (meaning_at (result_at results) at)) None ≡ own_number d
        (sees definitions results item d) m
    by kinds.Constant e k =
        ap (λ x. number_seen (Earlier at.kind at.lifted x) None) k
        ∙ ap (λ c. number_seen (Earlier c at.lifted
        (meaning_of d (sees definitions results item d)
        (record { name = m; word = at.word; kind = c; lifted = at.lifted }))) None) e
        ∙ constant_seen at.lifted (constant_number d (sees definitions results item d) m)
        ∙ own_constant d (sees definitions results item d) m at.place at.word at.kind at.lifted declares
    by kinds.Enum e k = ap (λ c. number_seen (Earlier c at.lifted
        (meaning_at (result_at results) at)) None) e
        ∙ not_own (own_number d (sees definitions results item d) m) refl
        (λ c. let x = sym e ∙ c in absurd cc)
    by kinds.Struct e k = ap (λ c. number_seen (Earlier c at.lifted
        (meaning_at (result_at results) at)) None) e
        ∙ not_own (own_number d (sees definitions results item d) m) refl
        (λ c. let x = sym e ∙ c in absurd cc)
    by kinds.Union e k = ap (λ c. number_seen (Earlier c at.lifted
        (meaning_at (result_at results) at)) None) e
        ∙ not_own (own_number d (sees definitions results item d) m) refl
        (λ c. let x = sym e ∙ c in absurd cc)
    by kinds.Typedef e k = ap (λ c. number_seen (Earlier c at.lifted
        (meaning_at (result_at results) at)) None) e
        ∙ not_own (own_number d (sees definitions results item d) m) refl
        (λ c. let x = sym e ∙ c in absurd cc)
    by kinds.Program e k = ap (λ c. number_seen (Earlier c at.lifted
        (meaning_at (result_at results) at)) None) e
        ∙ not_own (own_number d (sees definitions results item d) m) refl
        (λ c. let x = sym e ∙ c in absurd cc)

-- the numbers are those that an item sees
abbrev AreSeen : List (Option Definition) → List (Option Outcome) → ℕ → Numbers → Type 0
AreSeen definitions results item numbers = (m : List ℕ)
    → lookup (bytes_eq m) numbers ≡ number_seen (view_by no_names definitions (result_at results) item m) None

seen_next : (definitions : List (Option Definition)) (results : List (Option Outcome)) (item : ℕ)
    (d : Option Definition) (numbers : Numbers) → AreResults no_names definitions results
    → AreFaultless results
    → slice_get definitions item ≡ Some d → AreSeen definitions results item numbers
    → AreSeen definitions results (suc item) (with_definition numbers d)
seen_next definitions results item None numbers are fine there h m =
    h m ∙ or_none (number_seen (view_by no_names definitions (result_at results) item m) None)
    ∙ sym (next_seen definitions results item m None (λ z e. absurd cc)
    (λ at k same. absurd (nobody at k same)))
  where
    nobody : (at : Declarer) → IsFirstDeclarer definitions m at → at.item ≡ item → ⊥
    nobody at k same = let x : None ≡ Some k.declares.definition = same_Some None
        (Some k.declares.definition) (sym there ∙ ap (slice_get definitions) (sym same)
        ∙ k.declares.item_is) in absurd cc
seen_next definitions results item (Some d) numbers are fine there h m =
    let known : AtItem definitions results item d numbers = record
    { are = are; fine = fine; there = there; seen_numbers = h } in
    let adds = definition_adds definitions results item d numbers known in
    ap (lookup (bytes_eq m)) (definition_fold numbers d)
    ∙ adds.both m
    ∙ ap (λ o. option_or o (own_number d (sees definitions results item d) m)) (h m)
    ∙ sym (next_seen definitions results item m (own_number d (sees definitions results item d) m)
    (adds.declared m)
    (λ at k same. own_seen definitions results item d m at are fine there k same (adds.declared m)))

seen_all : (definitions : List (Option Definition)) (results : List (Option Outcome)) (item : ℕ)
    (ds : List (Option Definition)) (numbers : Numbers) → AreResults no_names definitions results
    → AreFaultless results
    → ((k : ℕ) → slice_get definitions (item + k) ≡ slice_get ds k)
    → AreSeen definitions results item numbers
    → AreSeen definitions results (item + length ds) (with_definitions numbers ds)
seen_all definitions results item [] numbers are fine rest h = let at : item ≡ item + 0 = omega arith in
    subst (λ k. AreSeen definitions results k numbers) at h
seen_all definitions results item (d ∷ ds) numbers are fine rest h =
    let at : item + 0 ≡ item = omega arith in
    let there : slice_get definitions item ≡ Some d = sym (ap (slice_get definitions) at) ∙ rest 0 in
    let end : suc item + length ds ≡ item + suc (length ds) = omega arith in
    subst (λ k. AreSeen definitions results k (with_definitions (with_definition numbers d) ds)) end
    (seen_all definitions results (suc item) ds (with_definition numbers d) are fine
    (λ k. let e : suc item + k ≡ item + suc k = omega arith in ap (slice_get definitions) e
    ∙ rest (suc k))
    (seen_next definitions results item d numbers are fine there h))

-- before all items those that are declared beforehand
seen_first : (definitions : List (Option Definition)) (results : List (Option Outcome))
    → AreSeen definitions results 0 beforehand
seen_first definitions results m = by (bytes_eq m (codes "TRUE")) (bytes_eq m (codes "FALSE"))
    (first_declarer definitions m)
  where
    early : (at : Declarer) (a b : Bool) → nat_lt at.item 0 ≡ a
        → None ≡ number_seen (cond a (Earlier at.kind at.lifted (meaning_at (result_at results) at))
        (cond b (Later at.kind at.lifted) (Own at.kind at.lifted))) None
    early at true b e = absurd (let lt : at.item < 0 = grind (arith, nat_tests) in omega (arith, lt))
    early at false true e = refl
    early at false false e = own at.kind
      where
        own : (k : NameKind) → None ≡ number_seen (Own k at.lifted) None
        own kinds.Constant = refl
        own kinds.Enum = refl
        own kinds.Struct = refl
        own kinds.Union = refl
        own kinds.Typedef = refl
        own kinds.Program = refl

    by : (a b : Bool) (o : Option Declarer)
        → cond a (Some (pos 1)) (cond b (Some (pos 0)) None) ≡ number_seen
        (cond (a || b) (Earlier kinds.Constant false (cond a (Constant (pos 1)) (Constant (pos 0))))
        (view_of (result_at results) 0 o)) None
    by true b o = refl
    by false true o = refl
    by false false None = refl
    by false false (Some at) = early at (nat_lt at.item 0) (nat_lt 0 at.item) refl

-- ---- the law

pub schema_numbers : (definitions : List (Option Definition)) (results : List (Option Outcome))
    → AreResults no_names definitions results → AreFaultless results
    → (name : List ℕ) → lookup (bytes_eq name)
    (numbers_of definitions) ≡ number_meant definitions results name
schema_numbers definitions results are fine name =
    let all = seen_all definitions results 0 definitions beforehand are fine
    (λ k. let e : 0 + k ≡ k = omega arith in ap (slice_get definitions) e)
    (seen_first definitions results) name in
    let end : 0 + length definitions ≡ length definitions = omega arith in
    all ∙ ap (λ k. number_seen (view_by no_names definitions (result_at results) k name) None) end
