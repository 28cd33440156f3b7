-- A text of sound definitions with distinct names has no fault.
use Rattle.std.proofs.Common.{◌≡◌, ◌⊎◌, inl, inr, ℕ, zero, suc, ◌+◌, ◌<◌, Bool, true, false, cond, List, []}
use Rattle.std.proofs.Common.{◌∷◌, ◌++◌, map, Option, Some, None, arith, refl, sym, ap, subst, ◌∙◌}
use Rattle.std.specs.Prelude.{◌||◌, codes, nat_lt, slice_get}
use Rattle.std.specs.List.{IsAmong}
use Rattle.std.specs.Str.{bytes_eq}
use Rattle.std.proofs.lemmas.Bool.Decides.{nat_tests}
use Rattle.std.proofs.lemmas.List.{append_cancel_right}
use Rattle.std.proofs.lemmas.Slice.Eq.{bytes_eq-Decides}
use Rattle.x_lex.specs.declared.kind.Kind.{Kind}
use Rattle.x_trees.specs.Tree.{Definition}
use Rattle.x_trees.specs.Mentions.{mentioned}
use Rattle.x_trees.specs.Names.{Declared, declared}
use Rattle.x_trees.specs.Seen.{names_of}
use Rattle.x_trees.specs.Spell.{spell}
use Rattle.x_trees.specs.Words.{words_of}
use Rattle.x_trees.specs.declared.names.declared_name.NameKind.TheVariants as kinds
use Rattle.x_trees.proofs.AmongLemmas.{among_first, among_front, among_more}
use Rattle.x_item.specs.Parse.{Def, Fault, Nothing, Parse}
use Rattle.x_item.proofs.ParseLaws.{one_parse}
use Rattle.x_names.specs.Declarers.{IsDeclarer, first_declarer, first_from, is_beforehand}
use Rattle.x_names.specs.declared.names.Declarer.{Declarer}
use Rattle.x_names.proofs.DeclarerLaws.{found_is_first}
use Rattle.x_rules.specs.Found.{is_earlier_name}
use Rattle.x_rules.specs.Results.{AreResultsFrom, IsResult, KnownNames, Outcome, beforehand_meaning, known_or}
use Rattle.x_rules.specs.Results.{meaning_at, result_at, view_by, view_of}
use Rattle.x_rules.specs.Views.{Earlier, Later, Own, View, seen}
use Rattle.x_compile.specs.Compile.{AreParses, IsCompilation, Item, at_token, definitions_of, faults_at}
use Rattle.x_compile.specs.Compile.{faults_from, faults_of, item_faults, parsed_definition, placed}
use Rattle.x_compile.specs.Compile.{rule_faults}
use Rattle.x_compile.specs.Known.{KnownText, known_names}
use Rattle.x_prelude_laws.proofs.Distinct.{Distinct, distinct_at}
use Rattle.x_prelude_laws.proofs.Found.{item_words, words_are}
use Rattle.x_prelude_laws.proofs.Lacks.{at_index}
use Rattle.x_prelude_laws.proofs.Lines.{is_longer, longer_is}
use Rattle.x_prelude_laws.proofs.Listed.{AreOf, OfAt, of_at}
use Rattle.x_prelude_laws.proofs.Made.{IsPlain}
use Rattle.x_prelude_laws.proofs.Named.{among_map}
use Rattle.x_prelude_laws.proofs.Nothing.{no_elements}
use Rattle.x_prelude_laws.proofs.Shapes.{longer_name}
use Rattle.x_prelude_laws.proofs.Sound.{AreFree, IsSound}
use Rattle.x_prelude_laws.proofs.SoundLines.{IsOwn}
use Rattle.x_prelude_laws.proofs.Unknown.{view_among}
use Rattle.x_prelude_laws.proofs.Wholes.{Whole}

-- ---- what the items parse to

parses_are : (is : List Item) (ds : List Definition) (ns : List (List ℕ)) → AreParses is → AreOf ds ns
    → item_words is ≡ map spell ds ++ [] ∷ [] → map (λ i. i.parse) is ≡ map Def ds ++ Nothing ∷ []
parses_are [] [] ns h k e = absurd (cc)
parses_are [] (d ∷ ds) ns h k e = absurd (cc)
parses_are (i ∷ []) [] ns h k e =
    let none : words_of i.tokens ≡ [] = cc in
    ap (λ p. p ∷ []) (one_parse i.tokens i.parse Nothing h.0 none)
parses_are (i ∷ j ∷ is) [] ns h k e = absurd (cc)
parses_are (i ∷ is) (d ∷ ds) [] h k e = absurd k
parses_are (i ∷ is) (d ∷ ds) (n ∷ ns) h k e =
    let words : words_of i.tokens ≡ spell d = cc in
    let rest : item_words is ≡ map spell ds ++ [] ∷ [] = cc in
    let first = one_parse i.tokens i.parse (Def d) h.0 (k.0.limits, sym words) in
    let others = parses_are is ds ns h.1 k.1 rest in
    λ m. first m ∷ others m

by_parses : (is : List Item) → definitions_of is ≡ map parsed_definition (map (λ i. i.parse) is)
by_parses [] = refl
by_parses (i ∷ is) = ap (λ l. parsed_definition i.parse ∷ l) (by_parses is)

all_parsed : (ds : List Definition)
    → map parsed_definition (map Def ds ++ Nothing ∷ []) ≡ map Some ds ++ None ∷ []
all_parsed [] = refl
all_parsed (d ∷ ds) = ap (λ l. Some d ∷ l) (all_parsed ds)

-- no parse is a fault
abbrev IsGood : Parse → Type 0
IsGood (Fault token code) = ⊥
IsGood parse = Unit {0}

abbrev AreGood : List Parse → Type 0
AreGood [] = Unit {0}
AreGood (p ∷ ps) = IsGood p × AreGood ps

good_all : (ds : List Definition) → AreGood (map Def ds ++ Nothing ∷ [])
good_all [] = (tt, tt)
good_all (d ∷ ds) = (tt, good_all ds)

-- the definition at a place
defined_at : (ds : List Definition) (index : ℕ) (d : Definition)
    → slice_get (map Some ds ++ None ∷ []) index ≡ Some (Some d)
    → slice_get ds index ≡ Some d
defined_at [] zero d e = absurd (cc)
defined_at [] (suc index) d e = absurd (cc)
defined_at (x ∷ ds) zero d e = cc
defined_at (x ∷ ds) (suc index) d e = defined_at ds index d e

-- ---- faults

no_rule_fault : (known : KnownNames) (defs : List (Option Definition)) (read : ℕ → Option Outcome) (item : ℕ)
    (d : Option Definition) (o : Option Outcome) → IsResult known defs read item d o
    → ((e : Definition) → d ≡ Some e
    → IsSound e × AreFree (seen e (map (view_by known defs read item) (names_of e))) (declared e))
    → rule_faults o ≡ []
no_rule_fault known defs read item None None h sound = refl
no_rule_fault known defs read item None (Some o) h sound = absurd h
no_rule_fault known defs read item (Some d) None h sound = absurd h
no_rule_fault known defs read item (Some d) (Some o) h sound =
    let own = sound d refl in
    no_elements o.faults
    (λ f k. own.0.faultless (seen d (map (view_by known defs read item) (names_of d))) own.1 f.word f.code
    (h.are_faults.are_faults f k))

no_item_fault : (text : List ℕ) (index : ℕ) (i : Item) → IsGood i.parse → rule_faults i.result ≡ []
    → item_faults text index i ≡ []
no_item_fault text index i good none = by i.parse good
  where
    by : (p : Parse) → IsGood p → map (placed text index i.tokens)
        (faults_at i.tokens p (rule_faults i.result)) ≡ []
    by Nothing g = ap (λ l. map (placed text index i.tokens) (map (at_token i.tokens) l)) none
    by (Def d) g = ap (λ l. map (placed text index i.tokens) (map (at_token i.tokens) l)) none
    by (Fault token code) g = absurd g

-- each definition is sound, and its names are declared by no earlier item
abbrev AreSoundIn : KnownNames → List (Option Definition) → (ℕ → Option Outcome) → ℕ
    → List (Option Definition) → Type 0
AreSoundIn known defs read n ds = (index : ℕ) (d : Definition) → slice_get ds index ≡ Some (Some d)
    → IsSound d × AreFree (seen d (map (view_by known defs read (n + index)) (names_of d))) (declared d)

no_faults_from : (known : KnownNames) (defs : List (Option Definition)) (read : ℕ → Option Outcome)
    (text : List ℕ)
    (n : ℕ) (is : List Item) → AreResultsFrom known defs read n (definitions_of is) (map (λ i. i.result) is)
    → AreGood (map (λ i. i.parse) is) → AreSoundIn known defs read n (definitions_of is)
    → faults_from text n is ≡ []
no_faults_from known defs read text n [] h good sound = refl
no_faults_from known defs read text n (i ∷ is) h good sound =
    let first = no_item_fault text n i good.0
    (no_rule_fault known defs read n (parsed_definition i.parse) i.result h.0 here) in
    let rest = no_faults_from known defs read text (suc n) is h.1 good.1 there in
    λ k. first k ++ rest k
  where
    here : (e : Definition) → parsed_definition i.parse ≡ Some e
        → IsSound e × AreFree (seen e (map (view_by known defs read n) (names_of e))) (declared e)
    here e is =
        let at : n + 0 ≡ n = omega arith in
        subst (λ m. IsSound e × AreFree (seen e (map (view_by known defs read m) (names_of e)))
        (declared e)) at
        (sound 0 e (ap Some is))

    there : AreSoundIn known defs read (suc n) (definitions_of is)
    there index d e =
        let at : n + suc index ≡ suc n + index = omega arith in
        subst (λ m. IsSound d × AreFree (seen d (map (view_by known defs read m) (names_of d)))
        (declared d)) at
        (sound (suc index) d e)

-- ---- views

not_earlier : (known : KnownNames) (defs : List (Option Definition)) (read : ℕ → Option Outcome) (item : ℕ)
    (name : List ℕ) → is_beforehand name ≡ false → known name ≡ None
    → ((at : Declarer) → first_declarer defs name ≡ Some at → at.item < item → ⊥)
    → is_earlier_name (view_by known defs read item name) ≡ false
not_earlier known defs read item name free none late =
    ap (λ b. is_earlier_name (cond b (Earlier kinds.Constant false (beforehand_meaning name))
    (known_or (known name) (view_of read item (first_declarer defs name))))) free
    ∙ ap (λ o. is_earlier_name (known_or o (view_of read item (first_declarer defs name)))) none
    ∙ by (first_declarer defs name) refl
  where
    tested : (a b : ℕ) → nat_lt a b ≡ true → a < b
    tested a b h = grind (arith, nat_tests)

    at_test : (at : Declarer) → first_declarer defs name ≡ Some at → (x y : Bool) → nat_lt at.item item ≡ x
        → is_earlier_name (cond x (Earlier at.kind at.lifted (meaning_at read at))
        (cond y (Later at.kind at.lifted) (Own at.kind at.lifted))) ≡ false
    at_test at f true y e = absurd (late at f (tested at.item item e))
    at_test at f false true e = refl
    at_test at f false false e = refl

    by : (o : Option Declarer) → first_declarer defs name ≡ o → is_earlier_name (view_of read item o) ≡ false
    by None f = refl
    by (Some at) f = at_test at f (nat_lt at.item item) (nat_lt item at.item) refl

-- ---- names

-- the names of all definitions: distinct, plain, and not declared beforehand
pub record AreNames (ns : List (List ℕ)) : Type 0 where
  pub distinct : Distinct ns
  pub plain : (n : List ℕ) → IsAmong ns n → IsPlain n
  pub free : (n : List ℕ) → IsAmong ns n → is_beforehand n ≡ false

longer_free : (n : List ℕ) → is_beforehand (longer_name n) ≡ false
longer_free n = by (bytes_eq (longer_name n) (codes "TRUE"))
    (bytes_eq (longer_name n) (codes "FALSE")) refl refl
  where
    differs : (w : List ℕ) → is_longer w ≡ false → longer_name n ≡ w → ⊥
    differs w not same = absurd (let both : is_longer w ≡ true = ap is_longer (sym same) ∙ longer_is n in cc)

    by : (x y : Bool) → bytes_eq (longer_name n) (codes "TRUE") ≡ x
        → bytes_eq (longer_name n) (codes "FALSE") ≡ y
        → (x || y) ≡ false
    by true y e f = absurd
        (differs (codes "TRUE") refl ((bytes_eq-Decides (longer_name n) (codes "TRUE")).0 e))
    by false true e f =
        absurd (differs (codes "FALSE") refl ((bytes_eq-Decides (longer_name n) (codes "FALSE")).0 f))
    by false false e f = refl

own_free : (ns : List (List ℕ)) (n name : List ℕ) → AreNames ns → IsAmong ns n
    → (name ≡ n) ⊎ (name ≡ longer_name n)
    → is_beforehand name ≡ false
own_free ns n name h k (inl e) = ap is_beforehand e ∙ h.free n k
own_free ns n name h k (inr e) = ap is_beforehand e ∙ longer_free n

-- two definitions declare no name in common
apart : (ns : List (List ℕ)) (i j : ℕ) (n m name : List ℕ) → AreNames ns → slice_get ns i ≡ Some n
    → slice_get ns j ≡ Some m
    → i < j → (name ≡ n) ⊎ (name ≡ longer_name n) → (name ≡ m) ⊎ (name ≡ longer_name m) → ⊥
apart ns i j n m name h e f lt (inl a) (inl b) = distinct_at ns i j n m h.distinct e f lt (sym a ∙ b)
apart ns i j n m name h e f lt (inl a) (inr b) = h.plain n (at_index ns i n e) m (sym a ∙ b)
apart ns i j n m name h e f lt (inr a) (inl b) = h.plain m (at_index ns j m f) n (sym b ∙ a)
apart ns i j n m name h e f lt (inr a) (inr b) =
    distinct_at ns i j n m h.distinct e f lt (append_cancel_right n m (codes "__") (sym a ∙ b))

-- ---- the whole text

-- the items of the text, whose definitions are these
pub record HasItems (is : List Item) (ds : List Definition) (ns : List (List ℕ)) : Type 0 where
  pub definitions : definitions_of is ≡ map Some ds ++ None ∷ []
  pub are : AreOf ds ns
  pub names : AreNames ns

-- a name that an item declares is declared by none before it
none_before : (is : List Item) (ds : List Definition) (ns : List (List ℕ)) (item : ℕ) (n name : List ℕ)
    (at : Declarer)
    → HasItems is ds ns → slice_get ns item ≡ Some n → (name ≡ n) ⊎ (name ≡ longer_name n)
    → is_beforehand name ≡ false → first_declarer (definitions_of is) name ≡ Some at → at.item < item → ⊥
none_before is ds ns item n name at h e own free found lt =
    let first : first_from 0 (definitions_of is) name ≡ Some at =
    sym (ap (λ b. cond b None (first_from 0 (definitions_of is) name)) free) ∙ found in
    let by : IsDeclarer (definitions_of is) name at =
    (found_is_first (definitions_of is) name at first free).declares in
    let there = defined_at ds at.item by.definition (sym (ap (λ l. slice_get l at.item) h.definitions)
    ∙ by.item_is) in
    let other = of_at ds ns at.item by.definition h.are there in
    let x : Declared = record { name = name; word = at.word; kind = at.kind; lifted = at.lifted } in
    let theirs = other.of.names x (at_index (declared by.definition) at.place x by.declares) in
    apart ns at.item item other.name n name h.names other.is e lt theirs own

sound_at : (known : KnownNames) (is : List Item) (ds : List Definition) (ns : List (List ℕ))
    (read : ℕ → Option Outcome)
    (item : ℕ) (d : Definition) → ((name : List ℕ) → known name ≡ None) → HasItems is ds ns
    → slice_get (definitions_of is) item ≡ Some (Some d)
    → IsSound d × AreFree (seen d (map (view_by known (definitions_of is) read item) (names_of d)))
    (declared d)
sound_at known is ds ns read item d none h e = (own.of.sound, free (declared d) (λ x k. k))
  where
    own : OfAt ns item d
    own = of_at ds ns item d h.are (defined_at ds item d (sym (ap (λ l. slice_get l item) h.definitions) ∙ e))

    see : List ℕ → View
    see = view_by known (definitions_of is) read item

    one : (x : Declared) → IsAmong (declared d) x → is_earlier_name
        (seen d (map see (names_of d)) x.name) ≡ false
    one x k =
        let is_own : IsOwn own.name x = own.of.names x k in
        let free = own_free ns own.name x.name h.names (at_index ns item own.name own.is) is_own in
        let listed = among_front (map (λ y. y.name) (declared d)) (map (λ m. m.name) (mentioned d)) x.name
        (among_map (λ (y : Declared). y.name) (declared d) x k) in
        ap is_earlier_name (view_among see (names_of d) x.name listed)
        ∙ not_earlier known (definitions_of is) read item x.name free (none x.name)
        (λ at f lt. none_before is ds ns item own.name x.name at h own.is is_own free f lt)

    free : (xs : List Declared) → ((x : Declared) → IsAmong xs x → IsAmong (declared d) x)
        → AreFree (seen d (map see (names_of d))) xs
    free [] all = tt
    free (x ∷ xs) all = (one x (all x (among_first x xs)), free xs (λ y k. all y (among_more x y xs k)))

pub no_faults : (known : KnownText) (text : List ℕ) (tokens : List (Kind × ℕ)) (is : List Item)
    (ds : List Definition)
    (ns : List (List ℕ)) → ((name : List ℕ) → known_names known name ≡ None) → Whole text (map spell ds)
    → AreOf ds ns → AreNames ns → IsCompilation known text tokens is → faults_of text is ≡ []
no_faults known text tokens is ds ns none w are names h =
    no_faults_from (known_names known) (definitions_of is) (result_at
    (map (λ i. i.result) is)) text 0 is h.are_results good
    (λ index d e.
    let at : index ≡ 0 + index = omega arith in
    subst (λ m. IsSound d × AreFree (seen d (map (view_by (known_names known) (definitions_of is)
    (result_at (map (λ i. i.result) is)) m) (names_of d))) (declared d)) at
    (sound_at (known_names known) is ds ns (result_at (map (λ i. i.result) is)) index d none all e))
  where
    parses : map (λ i. i.parse) is ≡ map Def ds ++ Nothing ∷ []
    parses = parses_are is ds ns h.are_parses are (words_are known text (map spell ds) tokens is w h)

    good : AreGood (map (λ i. i.parse) is)
    good = subst AreGood (sym parses) (good_all ds)

    all : HasItems is ds ns
    all = record {
      definitions = by_parses is ∙ ap (map parsed_definition) parses ∙ all_parsed ds;
      are = are;
      names = names;
    }
