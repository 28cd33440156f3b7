-- The numbers of an item's constants are those that the rules give them.
use Rattle.std.proofs.Common.{◌≡◌, ◌<◌, ◌≤◌, ℕ, suc, ◌+◌, ℤ, Bool, true, false, ◌||◌, cond, is_some, map}
use Rattle.std.proofs.Common.{List, [], ◌∷◌, ◌++◌, Option, None, Some, refl, sym, ap, subst, ◌∙◌, arith}
use Rattle.std.specs.Prelude.{slice_get, nat_lt}
use Rattle.std.specs.Map.{lookup}
use Rattle.std.specs.Option.{option_or}
use Rattle.std.specs.Str.{bytes_eq}
use Rattle.std.proofs.lemmas.Bool.Decides.{nat_tests}
use Rattle.std.proofs.lemmas.Slice.Eq.{bytes_eq-Decides}
use Rattle.x_numbers.proofs.Lookups.{lookup_more, or_none}
use Rattle.x_trees.specs.Tree as tree
use Rattle.x_trees.specs.Tree.{Definition}
use Rattle.x_trees.specs.Gloss.{Gloss, Role, Mentions, gloss, told_of}
use Rattle.x_trees.specs.Names.{declared}
use Rattle.x_trees.specs.Mentions.{Mention, mentioned, mentioned_at}
use Rattle.x_trees.specs.Seen.{names_of}
use Rattle.x_trees.specs.declared.names.declared_name.NameKind.TheVariants as kinds
use Rattle.x_names.specs.Declarers.{IsFirstDeclarer, first_declarer}
use Rattle.x_names.specs.declared.names.Declarer.{Declarer}
use Rattle.x_names.proofs.DeclarerLaws.{as_found, one_first}
use Rattle.x_outline.specs.Bodies.{EnumeratorAt, enumerators}
use Rattle.x_rules.specs.Constants.{Known, known_with, knowns, number_before, number_given, number_named}
use Rattle.x_rules.specs.Constants.{enumerator_number, number_seen}
use Rattle.x_rules.specs.Results.{Outcome, AreResults, result_at, view_by, view_of, meaning_at}
use Rattle.x_rules.specs.Results.{beforehand_meaning, no_names}
use Rattle.x_rules.specs.Views.{View, Earlier, Own, Later, seen}
use Rattle.x_schema.specs.SchemaOf.{Numbers, with_number}
use Rattle.x_laws.specs.Meant.{AreFaultless, sees}
use Rattle.x_laws.proofs.EnumWords.{AllTold, Ascends, GivenIn, given_used, IsTold, enums_told, told_declared}
use Rattle.x_laws.proofs.EnumWords.{words_use, roles_use}
use Rattle.x_laws.proofs.Faultless.{is_listed, listed_rear, only_declarer, view_seen}
use Rattle.x_laws.proofs.NumberFold.{fold, given_number, number_behind}

-- ---- an item's own constants

-- the item declares the name first, at the word, as a constant
pub record IsOwn (definitions : List (Option Definition)) (item : ℕ) (name : List ℕ) (word : ℕ) : Type 0 where
  pub at : Declarer
  pub first : IsFirstDeclarer definitions name at
  pub item_is : at.item ≡ item
  pub word_is : at.word ≡ word
  pub kind_is : at.kind ≡ kinds.Constant

pub own_word : (definitions : List (Option Definition)) (item : ℕ) (name : List ℕ) (v w : ℕ)
    → IsOwn definitions item name v → IsOwn definitions item name w → v ≡ w
own_word definitions item name v w h k = sym h.word_is
    ∙ ap (λ a. a.word) (one_first definitions name h.at k.at h.first k.first) ∙ k.word_is

-- what an item sees of a name, by the first declarer
pub view_first : (definitions : List (Option Definition)) (read : ℕ → Option Outcome) (item : ℕ)
    (name : List ℕ) (at : Declarer) → IsFirstDeclarer definitions name at
    → view_by no_names definitions read item name ≡ view_of read item (Some at)
view_first definitions read item name at h =
    ap (λ b. cond b (Earlier kinds.Constant false (beforehand_meaning name))
    (view_of read item (first_declarer definitions name))) h.not_beforehand
    ∙ ap (view_of read item) (sym (as_found definitions name (Some at) h))

own_view : (definitions : List (Option Definition)) (read : ℕ → Option Outcome) (item : ℕ) (name : List ℕ)
    (word : ℕ) → (h : IsOwn definitions item name word)
    → view_by no_names definitions read item name ≡ Own kinds.Constant h.at.lifted
own_view definitions read item name word h =
    let item_is = h.item_is in
    let before : nat_lt h.at.item item ≡ false = grind (arith, nat_tests) in
    let behind : nat_lt item h.at.item ≡ false = grind (arith, nat_tests) in
    view_first definitions read item name h.at h.first
    ∙ (λ i. cond (before i) (Earlier h.at.kind h.at.lifted (meaning_at read h.at))
    (cond (behind i) (Later h.at.kind h.at.lifted) (Own h.at.kind h.at.lifted)))
    ∙ ap (λ k. Own k h.at.lifted) h.kind_is

-- ---- enumerators that are known

abbrev pub name_in : List Known → List ℕ → Bool
name_in [] m = false
name_in (k ∷ ks) m = bytes_eq m k.enumerator.name || name_in ks m

pub more_named : (ks : List Known) (k : Known) (m : List ℕ)
    → number_named (ks ++ k ∷ []) m ≡ cond (name_in ks m) (number_named ks m)
    (cond (bytes_eq m k.enumerator.name) k.number None)
more_named [] k m = refl
more_named (x ∷ xs) k m = by (bytes_eq m x.enumerator.name) (more_named xs k m)
  where
    by : (b : Bool) → number_named (xs ++ k ∷ []) m ≡ cond (name_in xs m) (number_named xs m)
        (cond (bytes_eq m k.enumerator.name) k.number None)
        → cond b x.number (number_named (xs ++ k ∷ []) m) ≡ cond (b || name_in xs m)
        (cond b x.number (number_named xs m)) (cond (bytes_eq m k.enumerator.name) k.number None)
    by true e = refl
    by false e = e

more_names : (ks : List Known) (k : Known) (m : List ℕ)
    → name_in (ks ++ k ∷ []) m ≡ name_in ks m || (bytes_eq m k.enumerator.name || false)
more_names [] k m = refl
more_names (x ∷ xs) k m = by (bytes_eq m x.enumerator.name) (more_names xs k m)
  where
    by : (b : Bool) → name_in (xs ++ k ∷ []) m ≡ name_in xs m || (bytes_eq m k.enumerator.name || false)
        → b || name_in (xs ++ k ∷ []) m ≡ (b || name_in xs m) || (bytes_eq m k.enumerator.name || false)
    by true e = refl
    by false e = e

none_named : (ks : List Known) (m : List ℕ) → name_in ks m ≡ false → number_named ks m ≡ None
none_named [] m h = refl
none_named (k ∷ ks) m h = by (bytes_eq m k.enumerator.name) h (λ e. none_named ks m e)
  where
    by : (b : Bool) → b || name_in ks m ≡ false → (name_in ks m ≡ false → number_named ks m ≡ None)
        → cond b k.number (number_named ks m) ≡ None
    by true e more = absurd cc
    by false e more = more e

pub named_in : (ks : List Known) (m : List ℕ) (z : ℤ) → number_named ks m ≡ Some z → name_in ks m ≡ true
named_in ks m z h = by (name_in ks m) refl
  where
    by : (b : Bool) → name_in ks m ≡ b → name_in ks m ≡ true
    by true e = e
    by false e = let none = none_named ks m e in absurd cc

-- the words of all of them stand before this one
abbrev AllBelow : List Known → ℕ → Type 0
AllBelow [] low = Unit {0}
AllBelow (k ∷ ks) low = (k.enumerator.word < low) × AllBelow ks low

below_more : (ks : List Known) (k : Known) (low high : ℕ) → low ≤ high → k.enumerator.word < high
    → AllBelow ks low → AllBelow (ks ++ k ∷ []) high
below_more [] k low high le lt h = (lt, tt)
below_more (x ∷ xs) k low high le lt h = let one = h.0 in
    (omega (arith, one, le), below_more xs k low high le lt h.1)

before_all : (ks : List Known) (low limit : ℕ) (m : List ℕ) → low ≤ limit → AllBelow ks low
    → number_before ks limit m ≡ number_named ks m
before_all [] low limit m le h = refl
before_all (k ∷ ks) low limit m le h =
    let lt = h.0 in
    let before : nat_lt k.enumerator.word limit ≡ true = grind (arith, nat_tests) in
    let rest = before_all ks low limit m le h.1 in
    λ i. cond (bytes_eq m k.enumerator.name) (cond (before i) k.number None) (rest i)

-- ---- values

-- what a name is used as a number for, by its view and by what the item has of it itself
own_or_seen : (v : View) (x : Option ℤ) (lifted : Bool) (own : Bool)
    → (own ≡ true → v ≡ Own kinds.Constant lifted) → (own ≡ false → x ≡ None)
    → option_or (number_seen v None) x ≡ number_seen v x
own_or_seen v x lifted true h k = let e = h refl in ap (λ w. option_or (number_seen w None) x) e
    ∙ ap (λ w. number_seen w x) (sym e)
own_or_seen v x lifted false h k = let e = k refl in ap (option_or (number_seen v None)) e
    ∙ sym (or_none (number_seen v None)) ∙ ap (number_seen v) (sym e)

used_listed : (n : List ℕ) (at : ℕ) (gs : List Gloss) → words_use n gs ≡ true
    → is_listed n (map (λ m. m.name) (told_of mentioned_at at gs)) ≡ true
used_listed n at gs h = sym (of_words at gs) ∙ h
  where
    or_assoc : (a b c : Bool) → a || (b || c) ≡ (a || b) || c
    or_assoc true b c = refl
    or_assoc false b c = refl

    both : (xs ys : List Mention) → is_listed n (map (λ m. m.name) (xs ++ ys)) ≡ is_listed n
        (map (λ m. m.name) xs) || is_listed n (map (λ m. m.name) ys)
    both [] ys = refl
    both (x ∷ xs) ys = ap (λ b. bytes_eq n x.name || b) (both xs ys)
        ∙ or_assoc (bytes_eq n x.name) (is_listed n (map (λ m. m.name) xs))
        (is_listed n (map (λ m. m.name) ys))

    of_roles : (at : ℕ) (roles : List Role) → roles_use n roles ≡ is_listed n
        (map (λ m. m.name) (mentioned_at at roles))
    of_roles at [] = refl
    of_roles at (Mentions name usage tag ∷ roles) = ap (λ b. bytes_eq n name || b) (of_roles at roles)
    of_roles at (role ∷ roles) = of_roles at roles

    of_words : (at : ℕ) (gs : List Gloss) → words_use n gs ≡ is_listed n
        (map (λ m. m.name) (told_of mentioned_at at gs))
    of_words at [] = refl
    of_words at (g ∷ gs) =
        let first = of_roles at g.roles in
        let rest = of_words (at + 1) gs in
        (λ i. first i || rest i) ∙ sym (both (mentioned_at at g.roles) (told_of mentioned_at (at + 1) gs))

-- what an item sees of a name that it uses
used_seen : (d : Definition) (see : List ℕ → View) (n : List ℕ) → words_use n (gloss d) ≡ true
    → seen d (map see (names_of d)) n ≡ see n
used_seen d see n h = view_seen d see n (listed_rear n (map (λ x. x.name) (declared d))
    (map (λ m. m.name) (mentioned d)) (used_listed n 0 (gloss d) h))

-- ---- a constant more

abbrev no_number : Option ℤ
no_number = None

-- the numbers are these, with those that are known of the item
abbrev pub HasBoth : Numbers → Numbers → List Known → Type 0
HasBoth numbers now ks = (m : List ℕ) → lookup (bytes_eq m) now ≡ option_or (lookup (bytes_eq m) numbers)
    (number_named ks m)

-- the names of those that are known are the item's own, declared before the word
abbrev pub AreOwn : List (Option Definition) → ℕ → List Known → ℕ → Type 0
AreOwn definitions item ks low = (m : List ℕ) → name_in ks m ≡ true → (word : ℕ) × (word < low)
    × IsOwn definitions item m word

or_both : (a x y : Option ℤ) → x ≡ None → option_or (option_or a x) y ≡ option_or a y
or_both None x y e = ap (λ o. option_or o y) e
or_both (Some z) x y e = refl

pub one_more : (numbers now : Numbers) (ks : List Known) (e : EnumeratorAt) (z : Option ℤ)
    → name_in ks e.name ≡ false → lookup (bytes_eq e.name) numbers ≡ None
    → HasBoth numbers now ks → HasBoth numbers (with_number now e.name z)
    (ks ++ record { enumerator = e; number = z } ∷ [])
one_more numbers now ks e None fresh free h m = h m
    ∙ ap (option_or (lookup (bytes_eq m) numbers))
    (by (name_in ks m) refl ∙ sym (more_named ks (record { enumerator = e; number = None }) m))
  where
    nothing : (b : Bool) → cond b no_number no_number ≡ no_number
    nothing true = refl
    nothing false = refl

    by : (b : Bool) → name_in ks m ≡ b → number_named ks m ≡ cond (name_in ks m) (number_named ks m)
        (cond (bytes_eq m e.name) None None)
    by true k = sym (ap (λ b. cond b (number_named ks m) (cond (bytes_eq m e.name) None None)) k)
    by false k = none_named ks m k ∙ sym (nothing (bytes_eq m e.name))
        ∙ sym (ap (λ b. cond b (number_named ks m) (cond (bytes_eq m e.name) None None)) k)
one_more numbers now ks e (Some z) fresh free h m =
    ap (lookup (bytes_eq m)) added ∙ lookup_more (bytes_eq m) now e.name z
    ∙ ap (λ o. option_or o (cond (bytes_eq m e.name) (Some z) None)) (h m)
    ∙ by (name_in ks m) refl (bytes_eq m e.name) refl
    ∙ ap (option_or (lookup (bytes_eq m) numbers))
    (sym (more_named ks (record { enumerator = e; number = Some z }) m))
  where
    absent : lookup (bytes_eq e.name) now ≡ None
    absent = h e.name ∙ (λ i. option_or (free i) (none_named ks e.name fresh i))

    added : with_number now e.name (Some z) ≡ now ++ (e.name, z) ∷ []
    added = ap (λ o. cond (is_some o) now (now ++ (e.name, z) ∷ [])) absent

    by : (a : Bool) → name_in ks m ≡ a → (b : Bool) → bytes_eq m e.name ≡ b
        → option_or (option_or (lookup (bytes_eq m) numbers) (number_named ks m))
        (cond (bytes_eq m e.name) (Some z) None)
        ≡ option_or (lookup (bytes_eq m) numbers)
        (cond (name_in ks m) (number_named ks m) (cond (bytes_eq m e.name) (Some z) None))
    by true k true j = let same =
        (bytes_eq-Decides m e.name).0 j in let known : name_in ks e.name ≡ true = ap (name_in ks) (sym same)
        ∙ k in absurd cc
    by true k false j =
        ap (λ b. option_or (option_or (lookup (bytes_eq m) numbers) (number_named ks m))
        (cond b (Some z) None)) j
        ∙ sym (or_none (option_or (lookup (bytes_eq m) numbers) (number_named ks m)))
        ∙ sym (ap (λ b. option_or (lookup (bytes_eq m) numbers)
        (cond b (number_named ks m) (cond (bytes_eq m e.name) (Some z) None))) k)
    by false k b j =
        or_both (lookup (bytes_eq m) numbers) (number_named ks m) (cond (bytes_eq m e.name) (Some z) None)
        (none_named ks m k)
        ∙ sym (ap (λ b. option_or (lookup (bytes_eq m) numbers)
        (cond b (number_named ks m) (cond (bytes_eq m e.name) (Some z) None))) k)

-- ---- the enumerators of an item

-- what is known of the item
pub record AtItem (definitions : List (Option Definition)) (results : List (Option Outcome)) (item : ℕ)
    (d : Definition) (numbers : Numbers) : Type 0 where
  pub are : AreResults no_names definitions results
  pub fine : AreFaultless results
  pub there : slice_get definitions item ≡ Some (Some d)
  -- the numbers are those that the item sees
  pub seen_numbers : (m : List ℕ) → lookup (bytes_eq m) numbers ≡ number_seen
      (view_by no_names definitions (result_at results) item m) None

pub own_at : (definitions : List (Option Definition)) (results : List (Option Outcome)) (item : ℕ)
    (d : Definition) (numbers : Numbers) (name : List ℕ) (word place : ℕ)
    → AtItem definitions results item d numbers
    → slice_get (declared d) place ≡ Some (record
    { name = name; word = word; kind = kinds.Constant; lifted = false })
    → IsOwn definitions item name word
own_at definitions results item d numbers name word place h there =
    let at : Declarer = record
    { item = item; word = word; place = place; kind = kinds.Constant; lifted = false } in
    record {
      at = at;
      first = only_declarer definitions results name at h.are h.fine
          (record { definition = d; item_is = h.there; declares = there });
      item_is = refl;
      word_is = refl;
      kind_is = refl;
    }

own_told : (definitions : List (Option Definition)) (results : List (Option Outcome)) (item : ℕ)
    (d : Definition) (numbers : Numbers) (e : EnumeratorAt) → AtItem definitions results item d numbers
    → IsTold (gloss d) 0 e → IsOwn definitions item e.name e.word
own_told definitions results item d numbers e h told =
    let at = told_declared d e told in
    own_at definitions results item d numbers e.name e.word at.place h at.there

-- no number is known of an own constant before it
pub own_free : (definitions : List (Option Definition)) (results : List (Option Outcome)) (item : ℕ)
    (d : Definition) (numbers : Numbers) (name : List ℕ) (word : ℕ)
    → AtItem definitions results item d numbers
    → IsOwn definitions item name word → lookup (bytes_eq name) numbers ≡ None
own_free definitions results item d numbers name word h own =
    h.seen_numbers name ∙ ap (λ v. number_seen v None)
    (own_view definitions (result_at results) item name word own)

-- the number of a name that the item uses
pub same_named_number : (definitions : List (Option Definition)) (results : List (Option Outcome)) (item : ℕ)
    (d : Definition) (numbers now : Numbers) (ks : List Known) (low limit : ℕ) (n : List ℕ)
    → AtItem definitions results item d numbers → HasBoth numbers now ks → AreOwn definitions item ks low
    → AllBelow ks low → low ≤ limit → words_use n (gloss d) ≡ true
    → lookup (bytes_eq n) now ≡ number_seen (sees definitions results item d n) (number_before ks limit n)
same_named_number definitions results item d numbers now ks low limit n h both own below le used =
    both n
    ∙ ap (λ o. option_or o (number_named ks n)) (h.seen_numbers n)
    ∙ by (name_in ks n) refl
    ∙ ap (λ v. number_seen v (number_named ks n))
    (sym (used_seen d (view_by no_names definitions (result_at results) item) n used))
    ∙ ap (number_seen (sees definitions results item d n)) (sym (before_all ks low limit n le below))
  where
    by : (b : Bool) → name_in ks n ≡ b
        → option_or (number_seen (view_by no_names definitions (result_at results) item n) None)
        (number_named ks n) ≡ number_seen (view_by no_names definitions (result_at results) item n)
        (number_named ks n)
    by true k =
        let one = own n k in
        own_or_seen (view_by no_names definitions (result_at results) item n)
        (number_named ks n) one.2.at.lifted true
        (λ e. own_view definitions (result_at results) item n one.0 one.2) (λ e. absurd cc)
    by false k = own_or_seen (view_by no_names definitions (result_at results) item n)
        (number_named ks n) false false (λ e. absurd cc) (λ e. none_named ks n k)

same_given : (definitions : List (Option Definition)) (results : List (Option Outcome)) (item : ℕ)
    (d : Definition) (numbers now : Numbers) (ks : List Known) (low word : ℕ) (before : Option ℤ)
    (is_first : Bool) (v : Option tree.Value) → AtItem definitions results item d numbers
    → HasBoth numbers now ks → AreOwn definitions item ks low → AllBelow ks low → low ≤ word
    → GivenIn (gloss d) v
    → given_number now before is_first v ≡ number_given
    (sees definitions results item d) ks before word is_first v
same_given definitions results item d numbers now ks low word before true None h both own below le used = refl
same_given definitions results item d numbers now ks low word before false None h both own below le used =
    refl
same_given definitions results item d numbers now ks low word before is_first
    (Some (tree.Number text)) h both own below le used = refl
same_given definitions results item d numbers now ks low word before is_first
    (Some (tree.Named n)) h both own below le used =
    same_named_number definitions results item d numbers now ks low word n h both own below le used

-- what is known once all enumerators are
pub record AreKnown (definitions : List (Option Definition)) (item : ℕ) (numbers now : Numbers)
    (ks : List Known) : Type 0 where
  pub both : HasBoth numbers now ks
  pub own : (m : List ℕ) → name_in ks m ≡ true → (word : ℕ) × IsOwn definitions item m word

pub own_more : (definitions : List (Option Definition)) (item : ℕ) (ks : List Known) (k : Known)
    (low high : ℕ) → low ≤ high → k.enumerator.word < high
    → IsOwn definitions item k.enumerator.name k.enumerator.word
    → AreOwn definitions item ks low → AreOwn definitions item (ks ++ k ∷ []) high
own_more definitions item ks k low high le lt own h m e = by (name_in ks m) refl
    (bytes_eq m k.enumerator.name) refl (sym (more_names ks k m) ∙ e)
  where
    by : (a : Bool) → name_in ks m ≡ a → (b : Bool) → bytes_eq m k.enumerator.name ≡ b
        → a || (b || false) ≡ true → (word : ℕ) × (word < high) × IsOwn definitions item m word
    by true x b y k' = let one = h m x in let before = one.1 in (one.0, omega (arith, before, le), one.2)
    by false x true y k' = let same = (bytes_eq-Decides m k.enumerator.name).0 y in
        (k.enumerator.word, lt, subst (λ n. IsOwn definitions item n k.enumerator.word) (sym same) own)
    by false x false y k' = absurd cc

enums_known : (definitions : List (Option Definition)) (results : List (Option Outcome)) (item : ℕ)
    (d : Definition) (numbers now : Numbers) (ks : List Known) (low : ℕ) (before : Option ℤ)
    (es : List EnumeratorAt)
    → AtItem definitions results item d numbers → HasBoth numbers now ks → AreOwn definitions item ks low
    → AllBelow ks low → AllTold (gloss d) 0 es → Ascends low es
    → AreKnown definitions item numbers (fold now before es)
    (known_with (sees definitions results item d) ks before es)
enums_known definitions results item d numbers now ks low before [] h both own below told up = record
    { both = both; own = λ m e. let one = own m e in (one.0, one.2) }
enums_known definitions results item d numbers now ks low before (e ∷ es) h both own below told up =
    let see = sees definitions results item d in
    let here = own_told definitions results item d numbers e h told.0 in
    let low_word = up.0 in
    let z : number_behind now before e ≡ enumerator_number see ks before e =
    same_given definitions results item d numbers now ks low e.word before e.is_first e.given h both own
    below up.0 (given_used (gloss d) (told.0.index + 2) e.given told.0.value) in
    let next : Known = record { enumerator = e; number = enumerator_number see ks before e } in
    let both' : HasBoth numbers (with_number now e.name (enumerator_number see ks before e))
    (ks ++ next ∷ []) =
    one_more numbers now ks e (enumerator_number see ks before e) (fresh (name_in ks e.name) refl here)
    (own_free definitions results item d numbers e.name e.word h here) both in
    let rest = enums_known definitions results item d numbers
    (with_number now e.name (enumerator_number see ks before e)) (ks ++ next ∷ []) (suc e.word)
    (enumerator_number see ks before e) es h both'
    (own_more definitions item ks next low (suc e.word) (omega (arith, low_word)) (omega arith) here own)
    (below_more ks next low (suc e.word) (omega (arith, low_word)) (omega arith) below) told.1 up.1 in
    subst (λ y. AreKnown definitions item numbers (fold (with_number now e.name y) y es)
    (known_with see (ks ++ next ∷ []) (enumerator_number see ks before e) es)) (sym z) rest
  where
    fresh : (b : Bool) → name_in ks e.name ≡ b → IsOwn definitions item e.name e.word
        → name_in ks e.name ≡ false
    fresh false k here = k
    fresh true k here =
        let one = own e.name k in
        let same = own_word definitions item e.name one.0 e.word one.2 here in
        let before' = one.1 in
        let low_word = up.0 in
        absurd (omega (arith, same, before', low_word))

pub all_known : (definitions : List (Option Definition)) (results : List (Option Outcome)) (item : ℕ)
    (d : Definition) (numbers : Numbers) → AtItem definitions results item d numbers
    → AreKnown definitions item numbers (fold numbers None (enumerators d))
    (knowns (sees definitions results item d) (enumerators d))
all_known definitions results item d numbers h =
    let told = enums_told d in
    enums_known definitions results item d numbers numbers [] 0 None (enumerators d) h
    (λ m. or_none (lookup (bytes_eq m) numbers)) (λ m e. absurd cc) tt told.all told.ascend
