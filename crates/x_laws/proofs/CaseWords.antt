-- In a text without a fault each case of a union has a word, which no other has.
use Rattle.std.proofs.Common.{◌≡◌, ◌≢◌, ◌↔◌, ◌<◌, ◌⊎◌, inl, inr, ℕ, zero, suc, ◌+◌, ℤ, pos, Bool, true, false}
use Rattle.std.proofs.Common.{cond, map, List, [], ◌∷◌, ◌++◌, Option, None, Some, IsSome, is_some, refl}
use Rattle.std.proofs.Common.{sym, ap, subst, ◌∙◌, arith}
use Rattle.std.specs.Prelude.{slice_get, nat_lt, nat_eq, option_map, option_and_then, codes}
use Rattle.std.specs.List.{IsAmong}
use Rattle.std.specs.Option.{option_map_or}
use Rattle.std.specs.Str.{bytes_eq}
use Rattle.std.proofs.lemmas.Bool.Decides.{nat_tests}
use Rattle.std.proofs.lemmas.Option.{same_Some}
use Rattle.std.proofs.lemmas.Slice.Eq.{bytes_eq-Decides}
use Rattle.x_trees.specs.Tree as tree
use Rattle.x_trees.specs.Tree.{Definition}
use Rattle.x_trees.specs.Declarations.{name_of}
use Rattle.x_trees.specs.Gloss.{AsDiscriminant, CaseValue, Inside, VoidDeclaration, body_kind}
use Rattle.x_trees.specs.Gloss.{gloss}
use Rattle.x_trees.specs.Seen.{names_of}
use Rattle.x_trees.specs.declared.trees.declaration.Tag.{Tag}
use Rattle.x_trees.specs.declared.names.declared_name.NameKind.{NameKind}
use Rattle.x_trees.specs.declared.names.declared_name.NameKind.TheVariants as kinds
use Rattle.x_trees.proofs.AmongLemmas.{among_cases, among_first, among_more, among_none}
use Rattle.x_trees.proofs.AmongLemmas.{among_front, among_parted, among_rear}
use Rattle.x_names.specs.Declarers.{IsDeclarer, IsFirstDeclarer, first_declarer, first_from, is_beforehand}
use Rattle.x_names.specs.declared.names.Declarer.{Declarer}
use Rattle.x_names.proofs.DeclarerLaws.{found_is_first, one_first}
use Rattle.x_outline.specs.Bodies.{BodyAt, EnumeratorAt, ValueAt, bodies, cases_of, enumerators}
use Rattle.x_outline.specs.Bodies.{enumerators_from, enumerators_in, enumerators_of}
use Rattle.x_rules.specs.Constants.{Known, knowns, number_at, number_named}
use Rattle.x_rules.specs.Mentioned.{suits}
use Rattle.x_rules.specs.Results.{AreResults, Outcome, beforehand_meaning, meaning_as, meaning_at, no_names}
use Rattle.x_rules.specs.Results.{result_at, type_defined, type_named, type_of, view_by, view_of}
use Rattle.x_rules.specs.Rules.{Breaks, HasRole, IsBadCase, IsBadDiscriminant, IsOutside, IsSwitch}
use Rattle.x_rules.specs.Rules.{IsRepeatedCase, IsVoidPlace}
use Rattle.x_rules.specs.Types.{Sight, basic_class, body_class, body_height, declaration_class, enum_class}
use Rattle.x_rules.specs.Types.{enum_number}
use Rattle.x_rules.specs.Types.{held_height, if_all, number_set, type_seen}
use Rattle.x_rules.specs.Views.{Bad, Class, Constant, Earlier, Enumeration, Later, Meaning, OfType, Other}
use Rattle.x_rules.specs.Views.{Own}
use Rattle.x_rules.specs.Views.{Program, Undeclared, View, view_in}
use Rattle.x_rules.specs.declared.fault.RuleCode.{RuleCode}
use Rattle.x_rules.specs.declared.fault.RuleCode.TheVariants as rule_codes
use Rattle.x_schema.specs.Schema.{Schema, form_at, name_at, named_type, type_id}
use Rattle.x_schema.specs.SchemaOf.{IsBody, IsDeclared, IsEnum, case_word, if_legal, number_in}
use Rattle.x_schema.specs.SchemaOf.{Numbers, numbers_of}
use Rattle.x_schema.specs.SchemaOf.{place_named, typedefs, word_by}
use Rattle.x_schema.specs.Schemas.{IsSchemaOf}
use Rattle.x_schema.specs.Sound.{is_legal}
use Rattle.x_schema.specs.declared.form.Form.{Form}
use Rattle.x_schema.specs.declared.schema.NamedType.{NamedType}
use Rattle.x_laws.specs.Meant.{AreFaultless, HasWord, IsUnionIn, class_seen, number_meant, sees, whole}
use Rattle.x_laws.specs.Meant.{words_meant}
use Rattle.x_laws.proofs.BodyNames.{one_body}
use Rattle.x_laws.proofs.ClassFits.{Fits, fits_basic, fits_numbers, nat_same, no_other, one_by}
use Rattle.x_laws.proofs.ClassFits.{words_alike}
use Rattle.x_laws.proofs.EachNumber.{each_value, told_at}
use Rattle.x_laws.proofs.EnumNumbers.{AtText, enum_numbers, own_told}
use Rattle.x_laws.proofs.EnumWords.{enums_told, in_order}
use Rattle.x_laws.proofs.Faultless.{only_declarer}
use Rattle.x_laws.proofs.GoodNumbers.{IsFine, no_fault}
use Rattle.x_laws.proofs.Mentioned.{suits_any}
use Rattle.x_laws.proofs.NumberMeant.{view_first}
use Rattle.x_laws.proofs.SchemaNumbers.{own_meaning}
use Rattle.x_laws.proofs.SchemaTargets.{as_declared}
use Rattle.x_laws.proofs.SchemaTypes.{schema_types}
use Rattle.x_laws.proofs.TypeMeanings.{IsKnown, body_known, enumerator_at, held_known}
use Rattle.x_laws.proofs.TypedefWords.{DeclaresAt, HasInline, IsMade, IsSwitchAt, as_defined, case_role}
use Rattle.x_laws.proofs.TypedefWords.{declared_place, of_body, switch_at, switch_inline, switch_name}
use Rattle.x_laws.proofs.TypedefWords.{switch_role, switch_tagged, typedef_inline, typedef_made, void_role}
use Rattle.x_laws.proofs.UsedNumbers.{own_meant, value_number}

-- ---- an enum

-- the numbers of an enum's names are those that these mean
own_number : (definitions : List (Option Definition)) (results : List (Option Outcome)) (item : ℕ)
    (d : Definition) → AtText definitions results item d → (e : EnumeratorAt) → IsAmong (enumerators d) e
    → number_meant definitions results e.name
    ≡ number_named (knowns (sees definitions results item d) (enumerators d)) e.name
own_number definitions results item d h e among =
    let told = told_at (gloss d) 0 (enumerators d) e (enums_told d).all among in
    let here = own_told definitions results item d e h told in
    own_meant definitions results item d e.name here.at h.are h.fine h.there here.first here.item_is
    here.kind_is
    ∙ h.own e.name

-- an enumerator of a body of a definition is one of the definition's
enum_among : (d : Definition) (b : BodyAt) (es : List tree.Enumerator) (e : tree.Enumerator)
    → IsAmong (bodies d) b → b.body ≡ tree.Enum es → IsAmong es e
    → (x : EnumeratorAt) × IsAmong (enumerators d) x × (x.name ≡ e.name)
enum_among d b es e among is k =
    let parts = among_parted (bodies d) b among in
    let own : enumerators_of b ≡ enumerators_from true (b.at + 1) es =
    λ i. enumerators_of (record { named = b.named; at = b.at; body = is i }) in
    let all : enumerators d
    ≡ enumerators_in parts.front ++ (enumerators_from true (b.at + 1) es ++ enumerators_in parts.rear) =
    ap enumerators_in parts.parts
    ∙ in_order parts.front (b ∷ parts.rear)
    ∙ ap (λ l. enumerators_in parts.front ++ (l ++ enumerators_in parts.rear)) own in
    let one = enumerator_at true (b.at + 1) es e k in
    let there =
    among_rear (enumerators_in parts.front)
    (enumerators_from true (b.at + 1) es ++ enumerators_in parts.rear) one.at
    (among_front (enumerators_from true (b.at + 1) es) (enumerators_in parts.rear) one.at one.among) in
    (one.at, subst (λ l. IsAmong l one.at) (sym all) there, one.is)

-- a definition with an enumerator is no `const`
at_text : (definitions : List (Option Definition)) (results : List (Option Outcome)) (item : ℕ)
    (d : Definition) (e : EnumeratorAt) → IsFine definitions results item d → IsAmong (enumerators d) e
    → AtText definitions results item d
at_text definitions results item (tree.Const name value) e h among = absurd (among_none e among)
at_text definitions results item (tree.Typedef d) e h among =
    record { are = h.are; fine = h.fine; there = h.there; own = λ m. refl }
at_text definitions results item (tree.NewType name body) e h among =
    record { are = h.are; fine = h.fine; there = h.there; own = λ m. refl }
at_text definitions results item (tree.Program name versions number) e h among = absurd (among_none e among)

enum_fits : (definitions : List (Option Definition)) (results : List (Option Outcome)) (s : Schema) (item : ℕ)
    (d : Definition) (b : BodyAt) (es : List tree.Enumerator) (place : ℕ) (class : Class)
    → IsFine definitions results item d → IsAmong (bodies d) b → b.body ≡ tree.Enum es
    → enum_class (knowns (sees definitions results item d) (enumerators d)) es ≡ Some class
    → IsEnum s (numbers_of definitions) es place → Fits class (form_at s place)
enum_fits definitions results s item d b es place class h among is e enum =
    by (if_all (map (λ x. enum_number (meant x.name)) es)) refl e
  where
    meant : List ℕ → Option ℤ
    meant name = number_named (knowns (sees definitions results item d) (enumerators d)) name

    alike : (x : tree.Enumerator) → IsAmong es x → number_meant definitions results x.name ≡ meant x.name
    alike x k =
        let one = enum_among d b es x among is k in
        subst (λ n. number_meant definitions results n ≡ meant n) one.2
        (own_number definitions results item d (at_text definitions results item d one.0 h one.1) one.0 one.1)

    words : map (λ x. (x.0, name_at s x.1)) enum.names ≡ words_meant meant [] es
    words =
        enum.first
        ∙ enum_numbers definitions results h.are h.fine item d h.there b es among is
        ∙ words_alike (number_meant definitions results) meant [] es alike

    by : (o : Option (List ℤ)) → if_all (map (λ x. enum_number (meant x.name)) es) ≡ o
        → option_map (λ zs. Enumeration (number_set zs)) o ≡ Some class → Fits class (form_at s place)
    by None f k = absurd cc
    by (Some zs) f k =
        let same : Enumeration (number_set zs) ≡ class = same_Some (Enumeration (number_set zs)) class k in
        subst (λ c. Fits c (form_at s place)) same
        (subst (Fits (Enumeration (number_set zs))) (sym enum.form)
        (fits_numbers meant es zs enum.names (name_at s) f words))

-- ---- a type that is seen

-- what an item sees as a type is one of an earlier item
record IsSeen (definitions : List (Option Definition)) (results : List (Option Outcome)) (item : ℕ)
    (n : List ℕ) (class : Class) : Type 0 where
  at : Declarer
  first : IsFirstDeclarer definitions n at
  before : at.item < item
  suit : suits None at.kind ≡ true
  height : ℕ
  meaning : meaning_at (result_at results) at ≡ OfType class height

-- a view of a type of the class
record IsTypeView (view : View) (class : Class) : Type 0 where
  kind : NameKind
  lifted : Bool
  height : ℕ
  suit : suits None kind ≡ true
  is : view ≡ Earlier kind lifted (OfType class height)

abbrev class_of : Option Sight → Option Class
class_of sight = option_map (λ (s : Sight). s.class) sight

type_view : (view : View) (tag : Option Tag) (class : Class) → class_of (type_seen view tag) ≡ Some class
    → IsTypeView view class
type_view Undeclared tag class h = absurd cc
type_view (Own kind lifted) tag class h = absurd cc
type_view (Later kind lifted) tag class h = absurd cc
type_view (Earlier kind lifted (Constant z)) tag class h = absurd cc
type_view (Earlier kind lifted Program) tag class h = absurd cc
type_view (Earlier kind lifted Bad) tag class h = absurd cc
type_view (Earlier kind lifted (OfType c height)) tag class h = by (suits tag kind) refl h
  where
    by : (b : Bool) → suits tag kind ≡ b
        → class_of (cond b (Some (record { class = c; height = height })) None) ≡ Some class
        → IsTypeView (Earlier kind lifted (OfType c height)) class
    by true e k = record {
      kind = kind;
      lifted = lifted;
      height = height;
      suit = suits_any tag kind e;
      is = ap (λ x. Earlier kind lifted (OfType x height)) (same_Some c class k);
    }
    by false e k = absurd cc

-- an item sees a name as it is viewed, or not at all
seen_or_not : (see : List ℕ → View) (names : List (List ℕ)) (n : List ℕ)
    → (view_in names (map see names) n ≡ see n) ⊎ (view_in names (map see names) n ≡ Undeclared)
seen_or_not see [] n = inr refl
seen_or_not see (m ∷ ms) n = by (bytes_eq n m) refl (seen_or_not see ms n)
  where
    by : (b : Bool) → bytes_eq n m ≡ b
        → (view_in ms (map see ms) n ≡ see n) ⊎ (view_in ms (map see ms) n ≡ Undeclared)
        → (cond b (see m) (view_in ms (map see ms) n) ≡ see n)
        ⊎ (cond b (see m) (view_in ms (map see ms) n) ≡ Undeclared)
    by true e rest = inl (ap see (sym ((bytes_eq-Decides n m).0 e)))
    by false e rest = rest

by_declarer : (definitions : List (Option Definition)) (results : List (Option Outcome)) (item : ℕ)
    (n : List ℕ) (class : Class) (at : Declarer) → IsFirstDeclarer definitions n at
    → IsTypeView (view_of (result_at results) item (Some at)) class
    → IsSeen definitions results item n class
by_declarer definitions results item n class at first v = by (nat_lt at.item item) refl
    (nat_lt item at.item) v.is
  where
    by : (a : Bool) → nat_lt at.item item ≡ a → (b : Bool)
        → cond a (Earlier at.kind at.lifted (meaning_at (result_at results) at))
        (cond b (Later at.kind at.lifted) (Own at.kind at.lifted))
        ≡ Earlier v.kind v.lifted (OfType class v.height) → IsSeen definitions results item n class
    by true e b k =
        let kind : at.kind ≡ v.kind = cc in
        let is : meaning_at (result_at results) at ≡ OfType class v.height = cc in
        record {
          at = at;
          first = first;
          before = grind (arith, nat_tests);
          suit = ap (suits None) kind ∙ v.suit;
          height = v.height;
          meaning = is;
        }
    by false e true k = absurd cc
    by false e false k = absurd cc

by_view : (definitions : List (Option Definition)) (results : List (Option Outcome)) (item : ℕ) (n : List ℕ)
    (class : Class) → IsTypeView (view_by no_names definitions (result_at results) item n) class
    → IsSeen definitions results item n class
by_view definitions results item n class v = by (is_beforehand n) refl (first_from 0 definitions n) refl
  where
    told : (b : Bool)
        → Earlier kinds.Constant false (cond b (Constant (pos 1)) (Constant (pos 0)))
        ≡ Earlier v.kind v.lifted (OfType class v.height) → ⊥
    told true e = cc
    told false e = cc

    by : (b : Bool) → is_beforehand n ≡ b → (o : Option Declarer) → first_from 0 definitions n ≡ o
        → IsSeen definitions results item n class
    by true e o f = absurd
        (told (bytes_eq n (codes "TRUE"))
        (sym
        (ap
        (λ b. cond b (Earlier kinds.Constant false (beforehand_meaning n))
        (view_of (result_at results) item (first_declarer definitions n))) e)
        ∙ v.is))
    by false e None f =
        let nobody : first_declarer definitions n ≡ None =
        ap (λ b. cond b None (first_from 0 definitions n)) e ∙ f in
        let view : view_by no_names definitions (result_at results) item n ≡ Undeclared =
        ap
        (λ b. cond b (Earlier kinds.Constant false (beforehand_meaning n))
        (view_of (result_at results) item (first_declarer definitions n))) e
        ∙ ap (view_of (result_at results) item) nobody in
        let no : Undeclared ≡ Earlier v.kind v.lifted (OfType class v.height) = sym view ∙ v.is in
        absurd cc
    by false e (Some at) f =
        let first = found_is_first definitions n at f e in
        by_declarer definitions results item n class at first
        (subst (λ w. IsTypeView w class) (view_first definitions (result_at results) item n at first) v)

type_is_seen : (definitions : List (Option Definition)) (results : List (Option Outcome)) (item : ℕ)
    (d : Definition) (n : List ℕ) (tag : Option Tag) (class : Class)
    → class_of (type_seen (sees definitions results item d n) tag) ≡ Some class
    → IsSeen definitions results item n class
type_is_seen definitions results item d n tag class h = by (seen_or_not see (names_of d) n)
  where
    see : List ℕ → View
    see = view_by no_names definitions (result_at results) item

    by : (sees definitions results item d n ≡ see n) ⊎ (sees definitions results item d n ≡ Undeclared)
        → IsSeen definitions results item n class
    by (inl e) =
        by_view definitions results item n class
        (subst (λ w. IsTypeView w class) e (type_view (sees definitions results item d n) tag class h))
    by (inr e) =
        let no : class_of (type_seen Undeclared tag) ≡ Some class =
        sym (ap (λ w. class_of (type_seen w tag)) e) ∙ h in
        absurd cc

-- ---- what is declared

-- the types that items before this one declare fit
abbrev FitBefore : List (Option Definition) → List (Option Outcome) → Schema → ℕ → Type 0
FitBefore definitions results s item =
    (n : List ℕ) (class : Class) → IsSeen definitions results item n class
    → Fits class (form_at s (place_named s.types n))

other_fits : (class : Class) (form : Form) → Some Other ≡ Some class → Fits class form
other_fits class form e = subst (λ c. Fits c form) (same_Some Other class e) (no_other form)

body_fits : (definitions : List (Option Definition)) (results : List (Option Outcome)) (s : Schema) (item : ℕ)
    (d : Definition) (b : BodyAt) (body : tree.Body) (place : ℕ) (class : Class)
    → IsFine definitions results item d → IsAmong (bodies d) b → b.body ≡ body
    → body_class (knowns (sees definitions results item d) (enumerators d)) body ≡ Some class
    → IsBody s (whole definitions s) body place → Fits class (form_at s place)
body_fits definitions results s item d b (tree.Enum es) place class h among same e is =
    enum_fits definitions results s item d b es place class h among same e is
body_fits definitions results s item d b (tree.Struct ds) place class h among same e is =
    other_fits class (form_at s place) e
body_fits definitions results s item d b (tree.Union x arms other) place class h among same e is =
    other_fits class (form_at s place) e

declared_fits : (definitions : List (Option Definition)) (results : List (Option Outcome)) (s : Schema)
    (item : ℕ) (d : Definition) (t : tree.Declaration) (place : ℕ) (class : Class)
    → IsFine definitions results item d → FitBefore definitions results s item → HasInline (bodies d) t
    → class_seen definitions results item d t ≡ Some class → IsDeclared s (whole definitions s) t place
    → Fits class (form_at s place)
declared_fits definitions results s item d tree.Void place class h before inline e is = absurd cc
declared_fits definitions results s item d (tree.Of
    (tree.Simple b) name tree.Plain) place class h before inline e is =
    subst (λ c. Fits c (form_at s place)) (same_Some (basic_class b) class e)
    (subst (Fits (basic_class b)) (sym (ap (form_at s) is.1 ∙ is.2)) (fits_basic b))
declared_fits definitions results s item d (tree.Of
    (tree.Name n) name tree.Plain) place class h before inline e is =
    subst (λ p. Fits class (form_at s p)) (sym (is.1 ∙ is.2))
    (before n class (type_is_seen definitions results item d n None class e))
declared_fits definitions results s item d (tree.Of
    (tree.Tagged tag n) name tree.Plain) place class h before inline e is =
    subst (λ p. Fits class (form_at s p)) (sym (is.1 ∙ is.2))
    (before n class (type_is_seen definitions results item d n (Some tag) class e))
declared_fits definitions results s item d (tree.Of
    (tree.Inline body) name tree.Plain) place class h before inline e is =
    subst (λ p. Fits class (form_at s p)) (sym is.1)
    (body_fits definitions results s item d inline.0 body is.0 class h inline.1 inline.2 e is.2)
declared_fits definitions results s item d
    (tree.Of type name tree.Optional) place class h before inline e is =
    other_fits class (form_at s place) e
declared_fits definitions results s item d (tree.Of type name
    (tree.Array l)) place class h before inline e is =
    other_fits class (form_at s place) e
declared_fits definitions results s item d (tree.Opaque name l) place class h before inline e is =
    other_fits class (form_at s place) e
declared_fits definitions results s item d (tree.String name most) place class h before inline e is =
    other_fits class (form_at s place) e

-- ---- what a name means

-- the type of the body that the word names
type_found : (see : List ℕ → View) (known : List Known) (bs : List BodyAt) (b : BodyAt)
    → ((c : BodyAt) → IsAmong bs c → c.named ≡ b.named → c ≡ b) → IsAmong bs b
    → type_named see known bs b.named ≡ type_of (body_class known b.body) (body_height see b.body)
type_found see known [] b only among = absurd (among_none b among)
type_found see known (a ∷ bs) b only among =
    by (nat_eq a.named b.named) refl (among_cases a b bs among)
    (λ k. type_found see known bs b (λ c j. only c (among_more a c bs j)) k)
  where
    type : BodyAt → Meaning
    type x = type_of (body_class known x.body) (body_height see x.body)

    by : (c : Bool) → nat_eq a.named b.named ≡ c → (b ≡ a) ⊎ IsAmong bs b
        → (IsAmong bs b → type_named see known bs b.named ≡ type b)
        → cond c (type a) (type_named see known bs b.named) ≡ type b
    by true e k more =
        let same : a.named ≡ b.named = grind (arith, nat_tests) in ap type (only a (among_first a bs) same)
    by false e (inl same) more =
        let is : nat_eq a.named b.named ≡ true =
        ap (λ x. nat_eq a.named x.named) same ∙ nat_same a.named in
        absurd cc
    by false e (inr k) more = more k

body_meaning : (d : Definition) (see : List ℕ → View) (body : tree.Body) (n : List ℕ) (word : ℕ)
    → meaning_as d see (body_kind body) n word ≡ type_named see (knowns see (enumerators d)) (bodies d) word
body_meaning d see (tree.Enum es) n word = refl
body_meaning d see (tree.Struct ds) n word = refl
body_meaning d see (tree.Union x arms other) n word = refl

-- the word that declares a name is that of its first declarer
first_word : (definitions : List (Option Definition)) (results : List (Option Outcome)) (n : List ℕ)
    (at : Declarer) (word : ℕ) (kind : NameKind) (lifted : Bool) → AreResults no_names definitions results
    → AreFaultless results → (first : IsFirstDeclarer definitions n at)
    → DeclaresAt (gloss first.declares.definition) word n kind lifted → (at.kind ≡ kind) × (at.word ≡ word)
first_word definitions results n at word kind lifted are fine first declares =
    let d = first.declares.definition in
    let there = declared_place d word n kind lifted declares in
    let other : Declarer =
    record { item = at.item; word = word; place = there.0; kind = kind; lifted = lifted } in
    let is : IsDeclarer definitions n other =
    record { definition = d; item_is = first.declares.item_is; declares = there.1 } in
    let same =
    one_first definitions n at other first (only_declarer definitions results n other are fine is) in
    (ap (λ a. a.kind) same, ap (λ a. a.word) same)

-- a name that a typedef has means the type that this declares
typedef_meaning : (definitions : List (Option Definition)) (results : List (Option Outcome)) (n : List ℕ)
    (at : Declarer) (t : tree.Declaration) → AreResults no_names definitions results → AreFaultless results
    → (first : IsFirstDeclarer definitions n at)
    → IsAmong (typedefs (Some first.declares.definition)) t → name_of t ≡ n
    → (height : ℕ) × (meaning_at (result_at results) at
    ≡ type_of (class_seen definitions results at.item first.declares.definition t) height)
typedef_meaning definitions results n at t are fine first among named = by (typedef_made d t among)
  where
    d : Definition
    d = first.declares.definition

    see : List ℕ → View
    see = sees definitions results at.item d

    known : List Known
    known = knowns see (enumerators d)

    own : meaning_at (result_at results) at ≡ meaning_as d see at.kind n at.word
    own =
        own_meaning definitions results at.item d n at are fine first.declares.item_is refl
        first.declares.declares

    by : IsMade d t
        → (height : ℕ) × (meaning_at (result_at results) at ≡ type_of (declaration_class see known t) height)
    by (of_body b there told) =
        let name : told.name ≡ n = sym (ap name_of told.is) ∙ named in
        let word =
        first_word definitions results n at b.named (body_kind b.body) told.lifted are fine first
        (subst (λ m. DeclaresAt (gloss d) b.named m (body_kind b.body) told.lifted) name told.declares) in (
          body_height see b.body,
          own
              ∙ ap (λ k. meaning_as d see k n at.word) word.0
              ∙ ap (meaning_as d see (body_kind b.body) n) word.1
              ∙ body_meaning d see b.body n b.named
              ∙ type_found see known (bodies d) b (λ c k e. one_body d b c there k e) there
              ∙ ap (λ x. type_of (declaration_class see known x) (body_height see b.body)) (sym told.is),
        )
    by (as_defined is word declares) =
        let kind =
        (first_word definitions results n at word kinds.Typedef false are fine first
        (subst (λ m. DeclaresAt (gloss d) word m kinds.Typedef false) named declares)).0 in (
          suc (held_height see t),
          own ∙ ap (λ k. meaning_as d see k n at.word) kind ∙ ap (type_defined see known) is,
        )

type_class : (o : Option Class) (height high : ℕ) (class : Class) → type_of o height ≡ OfType class high
    → o ≡ Some class
type_class None height high class e = absurd cc
type_class (Some c) height high class e = cc

name_fits : (definitions : List (Option Definition)) (results : List (Option Outcome)) (s : Schema)
    (n : List ℕ) (class : Class) (at : Declarer) (height : ℕ) → AreResults no_names definitions results
    → AreFaultless results → IsSchemaOf definitions s → IsFirstDeclarer definitions n at
    → suits None at.kind ≡ true → meaning_at (result_at results) at ≡ OfType class height
    → FitBefore definitions results s at.item → Fits class (form_at s (place_named s.types n))
name_fits definitions results s n class at height are fine h first suit meaning before =
    by (named_type s n) refl
    ((schema_types definitions results s are fine h n).1
    (record { at = at; first = first; is_type = suit }))
  where
    by : (o : Option NamedType) → named_type s n ≡ o → is_some (option_map type_id (named_type s n)) ≡ true
        → Fits class (form_at s (place_named s.types n))
    by None e some =
        let no : is_some (option_map type_id None) ≡ true =
        sym (ap (λ o. is_some (option_map type_id o)) e) ∙ some in
        absurd cc
    by (Some t) e some =
        let declared = as_declared definitions results s are fine h n t e in
        let d = declared.first.declares.definition in
        let same = one_first definitions n declared.at at declared.first first in
        let typedef =
        typedef_meaning definitions results n declared.at declared.declaration are fine declared.first
        declared.is_typedef declared.named in
        let class_is : class_seen definitions results declared.at.item d declared.declaration ≡ Some class =
        type_class (class_seen definitions results declared.at.item d declared.declaration) typedef.0 height
        class (sym typedef.1 ∙ ap (meaning_at (result_at results)) same ∙ meaning) in
        let inline =
        typedef_inline d declared.declaration (typedef_made d declared.declaration declared.is_typedef) in
        let place : place_named s.types n ≡ t.form = ap (λ o. option_map_or (λ x. x.form) o 0) e in
        subst (λ p. Fits class (form_at s p)) (sym place)
        (declared_fits definitions results s declared.at.item d declared.declaration t.form class
        (record { are = are; fine = fine; there = declared.first.declares.item_is })
        (subst (FitBefore definitions results s) (sym (ap (λ a. a.item) same)) before) inline class_is
        declared.declared)

fit_before : (definitions : List (Option Definition)) (results : List (Option Outcome)) (s : Schema)
    → AreResults no_names definitions results → AreFaultless results → IsSchemaOf definitions s → (item : ℕ)
    → FitBefore definitions results s item
fit_before definitions results s are fine h zero n class k = let lt = k.before in absurd (omega (arith, lt))
fit_before definitions results s are fine h (suc item) n class k =
    let lt = k.before in
    name_fits definitions results s n class k.at k.height are fine h k.first k.suit k.meaning
    (λ m c j.
    let less = j.before in
    fit_before definitions results s are fine h item m c
    (record {
      at = j.at;
      first = j.first;
      before = omega (arith, lt, less);
      suit = j.suit;
      height = j.height;
      meaning = j.meaning;
    }))

-- ---- the class of a discriminant

discriminant_known : (definitions : List (Option Definition)) (results : List (Option Outcome)) (item : ℕ)
    (d : Definition) (union : BodyAt) (at : ℕ) (t : tree.Declaration) → IsFine definitions results item d
    → HasInline (bodies d) t → IsSwitchAt d union at t → IsKnown (class_seen definitions results item d t)
discriminant_known definitions results item d union at tree.Void h inline w =
    let bad : IsVoidPlace d at =
    record {
      role = VoidDeclaration (Inside AsDiscriminant w.name);
      has_role = void_role d union at w;
      misplaced = refl;
    } in
    absurd (no_fault definitions results item d at rule_codes.VoidPlace h bad)
discriminant_known definitions results item d union at (tree.Of (tree.Simple b) name tree.Plain) h inline w =
    (basic_class b, refl)
discriminant_known definitions results item d union at (tree.Of (tree.Name n) name tree.Plain) h inline w =
    held_known definitions results item d n at None h (switch_name d union at n name w)
discriminant_known definitions results item d union at
    (tree.Of (tree.Tagged tag n) name tree.Plain) h inline w =
    held_known definitions results item d n (at + 1) (Some tag) h (switch_tagged d union at tag n name w)
discriminant_known definitions results item d union at
    (tree.Of (tree.Inline body) name tree.Plain) h inline w =
    subst (λ x. IsKnown (body_class (knowns (sees definitions results item d) (enumerators d)) x)) inline.2
    (body_known definitions results item d inline.0 h inline.1)
discriminant_known definitions results item d union at (tree.Of type name tree.Optional) h inline w =
    (Other, refl)
discriminant_known definitions results item d union at (tree.Of type name (tree.Array l)) h inline w =
    (Other, refl)
discriminant_known definitions results item d union at (tree.Opaque name l) h inline w = (Other, refl)
discriminant_known definitions results item d union at (tree.String name most) h inline w = (Other, refl)

-- a discriminant is of no other class
not_other : (definitions : List (Option Definition)) (results : List (Option Outcome)) (item : ℕ)
    (d : Definition) (union : BodyAt) (at : ℕ) (discriminant : tree.Declaration) (class : Class)
    → IsFine definitions results item d → IsAmong (bodies d) union → IsSwitch union at discriminant
    → class_seen definitions results item d discriminant ≡ Some class → class ≡ Other → ⊥
not_other definitions results item d union at discriminant class h among is_switch e other =
    let bad : IsBadDiscriminant d (sees definitions results item d) at =
    record {
      discriminant = discriminant;
      has_role = switch_role d union at discriminant (switch_at d union at discriminant among is_switch);
      no_class = e ∙ ap Some other;
    } in
    no_fault definitions results item d at rule_codes.BadDiscriminant h bad

pub each_switch : (definitions : List (Option Definition)) (results : List (Option Outcome))
    → AreResults no_names definitions results → AreFaultless results → (item : ℕ) (d : Definition)
    → slice_get definitions item ≡ Some (Some d) → (union : BodyAt) → IsAmong (bodies d) union → (at : ℕ)
    (discriminant : tree.Declaration) → IsSwitch union at discriminant
    → (class : Class) × (class_seen definitions results item d discriminant ≡ Some class) × (class ≢ Other)
each_switch definitions results are fine item d there union among at discriminant is_switch =
    let h : IsFine definitions results item d = record { are = are; fine = fine; there = there } in
    let known =
    discriminant_known definitions results item d union at discriminant h
    (switch_inline d union at discriminant among is_switch)
    (switch_at d union at discriminant among is_switch) in (
      known.0,
      known.1,
      not_other definitions results item d union at discriminant known.0 h among is_switch known.1,
    )

pub each_class : (definitions : List (Option Definition)) (results : List (Option Outcome)) (s : Schema)
    → AreResults no_names definitions results → AreFaultless results → IsSchemaOf definitions s → (item : ℕ)
    (d : Definition) (union : BodyAt) (discriminant : tree.Declaration) (place : ℕ)
    → IsUnionIn definitions s item d union discriminant place → (class : Class)
    → class_seen definitions results item d discriminant ≡ Some class → (z : ℤ)
    → (IsOutside class z → ⊥) ↔ HasWord (form_at s place) z
each_class definitions results s are fine h item d union discriminant place u class e =
    let good : IsFine definitions results item d =
    record { are = are; fine = fine; there = u.item_is } in
    declared_fits definitions results s item d discriminant place class good
    (fit_before definitions results s are fine h item)
    (switch_inline d union u.at discriminant u.is_body u.is_switch) e u.declared
    (not_other definitions results item d union u.at discriminant class good u.is_body u.is_switch e)

-- ---- the word of a case

-- no word breaks a rule
none_breaks : (definitions : List (Option Definition)) (results : List (Option Outcome)) (item : ℕ)
    (d : Definition) (word : ℕ) (code : RuleCode) → IsFine definitions results item d
    → Breaks d (sees definitions results item d) word code → ⊥
none_breaks definitions results item d word rule_codes.BadCase h breaks = breaks
none_breaks definitions results item d word code h breaks = no_fault definitions results item d word code h
    breaks

pub each_word : (definitions : List (Option Definition)) (results : List (Option Outcome)) (s : Schema)
    → AreResults no_names definitions results → AreFaultless results → IsSchemaOf definitions s → (item : ℕ)
    (d : Definition) (union : BodyAt) (discriminant : tree.Declaration) (place : ℕ)
    → IsUnionIn definitions s item d union discriminant place → (case : ValueAt)
    → IsAmong (cases_of union) case → IsSome (case_word (numbers_of definitions) (form_at s place) case.value)
each_word definitions results s are fine h item d union discriminant place u case among =
    by (number_in (numbers_of definitions) case.value) refl
    (each_value definitions results are fine item d u.item_is case.word (CaseValue case.value) case.value role
    refl)
  where
    see : List ℕ → View
    see = sees definitions results item d

    good : IsFine definitions results item d
    good = record { are = are; fine = fine; there = u.item_is }

    role : HasRole d case.word (CaseValue case.value)
    role = case_role d union u.at discriminant case u.is_body u.is_switch among

    known : (class : Class) × (class_seen definitions results item d discriminant ≡ Some class)
        × (class ≢ Other)
    known =
        each_switch definitions results are fine item d u.item_is union u.is_body u.at discriminant
        u.is_switch

    inside : (z : ℤ) → number_at see (enumerators d) case.word case.value ≡ Some z → IsOutside known.0 z → ⊥
    inside z number outside =
        let bad : IsBadCase d see case.word =
        record {
          union = union;
          is_body = u.is_body;
          at = u.at;
          discriminant = discriminant;
          is_switch = u.is_switch;
          case = case;
          is_case = among;
          word_is = refl;
          number = z;
          number_is = number;
          class = known.0;
          class_is = known.1;
          outside = outside;
          no_fault = λ word code from to breaks.
              none_breaks definitions results item d word code good breaks;
        } in
        no_fault definitions results item d case.word rule_codes.BadCase good bad

    by : (o : Option ℤ) → number_in (numbers_of definitions) case.value ≡ o
        → is_some (number_in (numbers_of definitions) case.value) ≡ true
        → IsSome (case_word (numbers_of definitions) (form_at s place) case.value)
    by None e some = let no : false ≡ true = sym (ap is_some e) ∙ some in absurd cc
    by (Some z) e some =
        let form = form_at s place in
        let number =
        sym
        (value_number definitions results are fine item d u.item_is case.word (CaseValue case.value)
        case.value role refl)
        ∙ e in
        let word =
        (each_class definitions results s are fine h item d union discriminant place u known.0 known.1 z).0
        (inside z number) in
        ap is_some
        (ap (λ o. option_and_then (if_legal form) (option_and_then (word_by form) o)) e
        ∙ ap (option_and_then (if_legal form)) word.1
        ∙ ap (λ b. cond b (Some word.0) None) word.2)

-- ---- one case of a word

-- a word of a case is that of its number
record HasNumberOf (numbers : Numbers) (form : Form) (v : tree.Value) (w : ℕ) : Type 0 where
  number : ℤ
  is : number_in numbers v ≡ Some number
  word : word_by form number ≡ Some w

case_number : (numbers : Numbers) (form : Form) (v : tree.Value) (w : ℕ)
    → case_word numbers form v ≡ Some w → HasNumberOf numbers form v w
case_number numbers form v w e = by (number_in numbers v) refl e
  where
    legal : (x : ℕ) (b : Bool) → cond b (Some x) None ≡ Some w → x ≡ w
    legal x true k = same_Some x w k
    legal x false k = absurd cc

    then : (z : ℤ) → number_in numbers v ≡ Some z → (o : Option ℕ) → word_by form z ≡ o
        → option_and_then (if_legal form) o ≡ Some w → HasNumberOf numbers form v w
    then z n None f k = absurd cc
    then z n (Some x) f k =
        record { number = z; is = n; word = f ∙ ap Some (legal x (is_legal form x) k) }

    by : (o : Option ℤ) → number_in numbers v ≡ o
        → option_and_then (if_legal form) (option_and_then (word_by form) o) ≡ Some w
        → HasNumberOf numbers form v w
    by None n k = absurd cc
    by (Some z) n k = then z n (word_by form z) refl k

pub some_is : {X : Type 0} (o : Option X) → IsSome o → (x : X) × (o ≡ Some x)
some_is None h = absurd cc
some_is (Some x) h = (x, refl)

pub each_once : (definitions : List (Option Definition)) (results : List (Option Outcome)) (s : Schema)
    → AreResults no_names definitions results → AreFaultless results → IsSchemaOf definitions s → (item : ℕ)
    (d : Definition) (union : BodyAt) (discriminant : tree.Declaration) (place : ℕ)
    → IsUnionIn definitions s item d union discriminant place → (front rear : List ValueAt) (here : ValueAt)
    → cases_of union ≡ front ++ here ∷ rear → (other : ValueAt) → IsAmong front other
    → case_word (numbers_of definitions) (form_at s place) other.value
    ≡ case_word (numbers_of definitions) (form_at s place) here.value → ⊥
each_once definitions results s are fine h item d union discriminant place u front rear here parts other
    before same =
    no_fault definitions results item d here.word rule_codes.RepeatedCase
    (record { are = are; fine = fine; there = u.item_is }) bad
  where
    numbers : Numbers
    numbers = numbers_of definitions

    form : Form
    form = form_at s place

    among : (case : ValueAt) → IsAmong (front ++ here ∷ rear) case → IsAmong (cases_of union) case
    among case k = subst (λ l. IsAmong l case) (sym parts) k

    among_here : IsAmong (cases_of union) here
    among_here = among here (among_rear front (here ∷ rear) here (among_first here rear))

    among_other : IsAmong (cases_of union) other
    among_other = among other (among_front front (here ∷ rear) other before)

    word : (w : ℕ) × (case_word numbers form here.value ≡ Some w)
    word =
        some_is (case_word numbers form here.value)
        (each_word definitions results s are fine h item d union discriminant place u here among_here)

    number : HasNumberOf numbers form here.value word.0
    number = case_number numbers form here.value word.0 word.1

    earlier : HasNumberOf numbers form other.value word.0
    earlier = case_number numbers form other.value word.0 (same ∙ word.1)

    -- the number of a case is the one by which the rules go
    told : (case : ValueAt) → IsAmong (cases_of union) case
        → number_at (sees definitions results item d) (enumerators d) case.word case.value
        ≡ number_in numbers case.value
    told case k =
        sym
        (value_number definitions results are fine item d u.item_is case.word (CaseValue case.value)
        case.value (case_role d union u.at discriminant case u.is_body u.is_switch k) refl)

    bad : IsRepeatedCase (number_at (sees definitions results item d) (enumerators d)) (bodies d) here.word
    bad = record {
      union = union;
      is_body = u.is_body;
      front = front;
      here = here;
      rear = rear;
      parts = parts;
      word_is = refl;
      number = number.number;
      number_is = told here among_here ∙ number.is;
      earlier = record {
        other = other;
        among = before;
        same =
            told other among_other
            ∙ earlier.is
            ∙ ap Some (one_by form earlier.number number.number word.0 earlier.word number.word);
      };
    }
