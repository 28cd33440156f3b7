-- A name that a faultless text declares as a type means one.
use Rattle.std.proofs.Common.{◌≡◌, ◌↔◌, ◌⊎◌, inl, inr, ℕ, suc, ◌+◌, ℤ, pos, Bool, true, false, cond, map}
use Rattle.std.proofs.Common.{List, [], ◌∷◌, ◌++◌, length, Option, None, Some, IsSome, refl, sym, ap, subst}
use Rattle.std.proofs.Common.{◌∙◌, arith}
use Rattle.std.specs.Prelude.{slice_get, nat_lt, nat_eq, option_map, codes}
use Rattle.std.specs.List.{IsAmong}
use Rattle.std.specs.Str.{bytes_eq}
use Rattle.std.proofs.lemmas.Bool.Decides.{nat_tests}
use Rattle.std.proofs.lemmas.Slice.Eq.{bytes_eq-Decides}
use Rattle.x_trees.specs.Tree as tree
use Rattle.x_trees.specs.Tree.{Definition}
use Rattle.x_trees.specs.Names.{Declared, declared}
use Rattle.x_trees.specs.Mentions.{Mention, mentioned}
use Rattle.x_trees.specs.declared.trees.declaration.Tag.{Tag}
use Rattle.x_trees.specs.declared.names.declared_name.NameKind.{NameKind}
use Rattle.x_trees.specs.declared.names.declared_name.NameKind.TheVariants as kinds
use Rattle.x_trees.specs.declared.names.mention.Use.TheVariants as uses
use Rattle.x_names.specs.Declarers.{IsFirstDeclarer, is_beforehand, first_declarer, first_from}
use Rattle.x_names.specs.declared.names.Declarer.{Declarer}
use Rattle.x_names.proofs.DeclarerLaws.{found_is_first}
use Rattle.x_trees.proofs.AmongLemmas.{among_cases, among_first, among_front, among_more, among_none}
use Rattle.x_trees.proofs.AmongLemmas.{among_parted, among_rear}
use Rattle.x_outline.specs.Bodies.{BodyAt, EnumeratorAt, bodies, bodies_inside, enumerators, enumerators_from}
use Rattle.x_outline.specs.Bodies.{enumerators_in, enumerators_of, star}
use Rattle.x_rules.specs.Constants.{Known, is_declared_before, knowns, limit_of, number_named}
use Rattle.x_rules.specs.Mentioned.{fault_of_use, is_declared_as, is_of_faulty, is_too_late, suits}
use Rattle.x_rules.specs.Results.{Outcome, AreResults, beforehand_meaning, constant_of, constant_number}
use Rattle.x_rules.specs.Results.{meaning_as, meaning_at, result_at, type_defined, type_named, type_of}
use Rattle.x_rules.specs.Results.{view_by, view_of, no_names}
use Rattle.x_rules.specs.Types.{Sight, basic_class, body_class, body_height, declaration_class, enum_number}
use Rattle.x_rules.specs.Types.{held_height, if_all, number_set, type_seen}
use Rattle.x_rules.specs.Views.{View, Class, Other, Enumeration, Meaning, Constant, OfType, Program, Bad}
use Rattle.x_rules.specs.Views.{Undeclared, Earlier, Own, Later}
use Rattle.x_trees.specs.Spell.{spell_body, spell_enumerator}
use Rattle.x_schema.specs.Schema.{Schema, id_named}
use Rattle.x_schema.specs.Schemas.{IsSchemaOf}
use Rattle.x_laws.specs.Meant.{AreFaultless, IsTypeName, MeansType, sees}
use Rattle.x_laws.proofs.BodyNames.{IsNamedAt, body_of, get_among, is_body_kind}
use Rattle.x_laws.proofs.EnumWords.{in_order}
use Rattle.x_laws.proofs.Faultless.{listed_rear, outcome_of, view_seen}
use Rattle.x_laws.proofs.GoodNumbers.{AllGood, IsFine, IsGood, all_good}
use Rattle.x_laws.proofs.Mentioned.{declared_before, held_good, held_in_time, mentioned_listed}
use Rattle.x_laws.proofs.Mentioned.{no_mention_fault, same_kind, used_type, view_found, viewed}
use Rattle.x_laws.proofs.NoTypedefs.{IsTypedef, typedef, typedef_of}
use Rattle.x_laws.proofs.SchemaNumbers.{own_meaning}
use Rattle.x_laws.proofs.SchemaTypes.{schema_types}
use Rattle.x_laws.proofs.UsedNumbers.{known_enumerators, seen_behind}

-- ---- classes of bodies

-- a class is known
abbrev pub IsKnown : Option Class → Type 0
IsKnown o = (c : Class) × (o ≡ Some c)

-- one of these that has the name of an enumerator has a number that an enum may have
pub named_good : (ks : List Known) (e : EnumeratorAt) → AllGood ks → IsAmong (map (λ k. k.enumerator) ks) e
    → IsGood (number_named ks e.name)
named_good [] e good h = absurd (among_none e h)
named_good (k ∷ ks) e good h = by (bytes_eq e.name k.enumerator.name) refl
    (among_cases k.enumerator e (map (λ x. x.enumerator) ks) h) (λ x. named_good ks e good.1 x)
  where
    by : (b : Bool) → bytes_eq e.name k.enumerator.name ≡ b → (e ≡ k.enumerator)
        ⊎ IsAmong (map (λ x. x.enumerator) ks) e
        → (IsAmong (map (λ x. x.enumerator) ks) e → IsGood (number_named ks e.name))
        → IsGood (cond b k.number (number_named ks e.name))
    by true x c more = good.0
    by false x (inl same) more = let is : bytes_eq e.name k.enumerator.name ≡ true =
        (bytes_eq-Decides e.name k.enumerator.name).1 (ap (λ y. y.name) same) in absurd cc
    by false x (inr y) more = more y

-- an enumerator among those of an enum
pub record IsOf (xs : List EnumeratorAt) (name : List ℕ) : Type 0 where
  pub at : EnumeratorAt
  pub among : IsAmong xs at
  pub is : at.name ≡ name

pub enumerator_at : (first : Bool) (at : ℕ) (es : List tree.Enumerator) (e : tree.Enumerator) → IsAmong es e
    → IsOf (enumerators_from first at es) e.name
enumerator_at first at [] e h = absurd (among_none e h)
enumerator_at first at (x ∷ xs) e h = by (among_cases x e xs h)
    (λ k. enumerator_at false (at + length (spell_enumerator x) + 1) xs e k)
  where
    by : (e ≡ x) ⊎ IsAmong xs e → (IsAmong xs e → IsOf
        (enumerators_from false (at + length (spell_enumerator x) + 1) xs) e.name)
        → IsOf (enumerators_from first at (x ∷ xs)) e.name
    by (inl same) more = record {
      at = record { word = at; name = x.name; given = x.value; is_first = first };
      among = among_first (record { word = at; name = x.name; given = x.value; is_first = first })
          (enumerators_from false (at + length (spell_enumerator x) + 1) xs);
      is = sym (ap (λ y. y.name) same);
    }
    by (inr k) more =
        let one = more k in
        record {
          at = one.at;
          among = among_more (record
              { word = at; name = x.name; given = x.value; is_first = first }) one.at
              (enumerators_from false (at + length (spell_enumerator x) + 1) xs) one.among;
          is = one.is;
        }

-- all numbers are known where each is one that an enum may have
all_numbers : (known : List Known) (es : List tree.Enumerator)
    → ((e : tree.Enumerator) → IsAmong es e → IsGood (number_named known e.name))
    → (zs : List ℤ) × (if_all (map (λ e. enum_number (number_named known e.name)) es) ≡ Some zs)
all_numbers known [] h = ([], refl)
all_numbers known (e ∷ es) h =
    let one = h e (among_first e es) in
    let rest = all_numbers known es (λ x k. h x (among_more e x es k)) in
    let number : enum_number (number_named known e.name) ≡ Some one.0 =
    ap enum_number one.1 ∙ ap (λ b. cond b (Some one.0) None) one.2 in (
      one.0 ∷ rest.0,
      ap (λ o. if_all (o ∷ map (λ x. enum_number (number_named known x.name)) es)) number
          ∙ ap (option_map (λ zs. one.0 ∷ zs)) rest.1,
    )

pub body_known : (definitions : List (Option Definition)) (results : List (Option Outcome)) (item : ℕ)
    (d : Definition) (b : BodyAt) → IsFine definitions results item d → IsAmong (bodies d) b
    → IsKnown (body_class (knowns (sees definitions results item d) (enumerators d)) b.body)
body_known definitions results item d b h among = by b.body refl
  where
    by : (body : tree.Body) → b.body ≡ body → IsKnown
        (body_class (knowns (sees definitions results item d) (enumerators d)) body)
    by (tree.Struct ds) e = (Other, refl)
    by (tree.Union x arms other) e = (Other, refl)
    by (tree.Enum es) e =
        let see = sees definitions results item d in
        let parts = among_parted (bodies d) b among in
        let own : enumerators_of b ≡ enumerators_from true (b.at + 1) es = λ i. enumerators_of
        (record { named = b.named; at = b.at; body = e i }) in
        let all : enumerators d ≡ enumerators_in parts.front
        ++ (enumerators_from true (b.at + 1) es ++ enumerators_in parts.rear) =
        ap enumerators_in parts.parts ∙ in_order parts.front (b ∷ parts.rear)
        ∙ ap (λ l. enumerators_in parts.front ++ (l ++ enumerators_in parts.rear)) own in
        let good : (x : tree.Enumerator) → IsAmong es x
        → IsGood (number_named (knowns see (enumerators d)) x.name) = λ x k.
        let one = enumerator_at true (b.at + 1) es x k in
        let there = among_rear (enumerators_in parts.front)
        (enumerators_from true (b.at + 1) es ++ enumerators_in parts.rear) one.at
        (among_front (enumerators_from true (b.at + 1) es) (enumerators_in parts.rear) one.at one.among) in
        let known : IsAmong (map (λ y. y.enumerator) (knowns see (enumerators d))) one.at =
        subst (λ l. IsAmong l one.at) (sym (known_enumerators see [] None (enumerators d) ∙ all)) there in
        subst (λ n. IsGood (number_named (knowns see (enumerators d)) n)) one.is
        (named_good (knowns see (enumerators d)) one.at (all_good definitions results item d h) known) in
        let numbers = all_numbers (knowns see (enumerators d)) es good in
        (Enumeration (number_set numbers.0), ap (option_map (λ zs. Enumeration (number_set zs))) numbers.1)

-- ---- types

abbrev pub IsType : Meaning → Type 0
IsType m = (class : Class) × (height : ℕ) × (m ≡ OfType class height)

type_known : (o : Option Class) (height : ℕ) → IsKnown o → IsType (type_of o height)
type_known o height k = (k.0, height, ap (λ x. type_of x height) k.1)

same_nat : (n : ℕ) → nat_eq n n ≡ true
same_nat n = grind (arith, nat_tests)

named_known : (see : List ℕ → View) (known : List Known) (bs : List BodyAt) (word : ℕ)
    → ((b : BodyAt) → IsAmong bs b → IsKnown (body_class known b.body)) → IsNamedAt bs word
    → IsType (type_named see known bs word)
named_known see known [] word all h = absurd (among_none h.body h.among)
named_known see known (b ∷ bs) word all h = by (nat_eq b.named word) refl (among_cases b h.body bs h.among)
    (λ k. named_known see known bs word (λ x j. all x (among_more b x bs j)) k)
  where
    by : (c : Bool) → nat_eq b.named word ≡ c → (h.body ≡ b) ⊎ IsAmong bs h.body
        → (IsNamedAt bs word → IsType (type_named see known bs word))
        → IsType (cond c (type_of (body_class known b.body) (body_height see b.body))
        (type_named see known bs word))
    by true e k more = type_known (body_class known b.body) (body_height see b.body)
        (all b (among_first b bs))
    by false e (inl same) more =
        let at : b.named ≡ word = sym (ap (λ x. x.named) same) ∙ h.named in
        let is : nat_eq b.named word ≡ true = ap (nat_eq b.named) (sym at) ∙ same_nat b.named in
        absurd cc
    by false e (inr k) more = more (record { body = h.body; among = k; named = h.named })

-- ---- a type that is held

type_or_bad : (o : Option Class) (height : ℕ) → (type_of o height ≡ Bad) ⊎ IsType (type_of o height)
type_or_bad None height = inl refl
type_or_bad (Some c) height = inr (c, height, refl)

named_or_bad : (see : List ℕ → View) (known : List Known) (bs : List BodyAt) (word : ℕ)
    → (type_named see known bs word ≡ Bad) ⊎ IsType (type_named see known bs word)
named_or_bad see known [] word = inl refl
named_or_bad see known (b ∷ bs) word = by (nat_eq b.named word) (named_or_bad see known bs word)
  where
    by : (c : Bool) → (type_named see known bs word ≡ Bad) ⊎ IsType (type_named see known bs word)
        → (cond c (type_of (body_class known b.body) (body_height see b.body))
        (type_named see known bs word) ≡ Bad)
        ⊎ IsType (cond c (type_of (body_class known b.body) (body_height see b.body))
        (type_named see known bs word))
    by true rest = type_or_bad (body_class known b.body) (body_height see b.body)
    by false rest = rest

defined_or_bad : (see : List ℕ → View) (known : List Known) (d : Definition)
    → (type_defined see known d ≡ Bad) ⊎ IsType (type_defined see known d)
defined_or_bad see known (tree.Typedef d) = type_or_bad (declaration_class see known d)
    (suc (held_height see d))
defined_or_bad see known (tree.Const name value) = inl refl
defined_or_bad see known (tree.NewType name body) = inl refl
defined_or_bad see known (tree.Program name versions number) = inl refl

meant_or_bad : (d : Definition) (see : List ℕ → View) (kind : NameKind) (name : List ℕ) (word : ℕ)
    → suits None kind ≡ true → (meaning_as d see kind name word ≡ Bad)
    ⊎ IsType (meaning_as d see kind name word)
meant_or_bad d see kinds.Typedef name word e = defined_or_bad see (knowns see (enumerators d)) d
meant_or_bad d see kinds.Enum name word e = named_or_bad see (knowns see (enumerators d)) (bodies d) word
meant_or_bad d see kinds.Struct name word e = named_or_bad see (knowns see (enumerators d)) (bodies d) word
meant_or_bad d see kinds.Union name word e = named_or_bad see (knowns see (enumerators d)) (bodies d) word
meant_or_bad d see kinds.Constant name word e = absurd cc
meant_or_bad d see kinds.Program name word e = absurd cc

seen_known : (kind : NameKind) (lifted : Bool) (m : Meaning) (tag : Option Tag) → suits tag kind ≡ true
    → IsType m → IsKnown (option_map (λ (s : Sight). s.class) (type_seen (Earlier kind lifted m) tag))
seen_known kind lifted m tag suit type = (
  type.0,
  ap (λ x. option_map (λ (s : Sight). s.class) (type_seen (Earlier kind lifted x) tag)) type.2
      ∙ ap (λ b. option_map (λ (s : Sight). s.class)
      (cond b (Some (record { class = type.0; height = type.1 })) None)) suit,
)

pub held_known : (definitions : List (Option Definition)) (results : List (Option Outcome)) (item : ℕ)
    (d : Definition) (n : List ℕ) (word : ℕ) (tag : Option Tag) → IsFine definitions results item d
    → IsAmong (mentioned d) (record { name = n; word = word; usage = uses.ByValue; tag = tag })
    → IsKnown (option_map (λ (s : Sight). s.class) (type_seen (sees definitions results item d n) tag))
held_known definitions results item d n word tag h among =
    let m : Mention = record { name = n; word = word; usage = uses.ByValue; tag = tag } in
    let o = outcome_of definitions results item d h.are h.there in
    let no_mention = no_mention_fault d (sees definitions results item d) o.outcome.faults m o.are_faults
    (h.fine item o.outcome o.is) among in
    let view : sees definitions results item d n ≡ view_by no_names definitions (result_at results) item n =
    view_seen d (view_by no_names definitions (result_at results) item) n
    (listed_rear n (map (λ x. x.name) (declared d)) (map (λ x. x.name) (mentioned d))
    (mentioned_listed (mentioned d) m among)) in
    let before = is_declared_before (enumerators d) (limit_of word) n in
    let fault : fault_of_use (view_by no_names definitions (result_at results) item n)
    (is_declared_before (enumerators d) (limit_of word) n) uses.ByValue tag ≡ None =
    sym (ap (λ v. fault_of_use v (is_declared_before (enumerators d)
    (limit_of word) n) uses.ByValue tag) view) ∙ no_mention in
    let known = viewed definitions (result_at results) item n tag
    (used_type (view_by no_names definitions (result_at results) item n) before uses.ByValue tag
    (λ e. absurd cc) fault) in
    let found = view_found definitions (result_at results) item n known in
    let lt = declared_before (result_at results) item known.at before
    (ap (λ v. is_too_late v before uses.ByValue) (sym found)
    ∙ held_in_time (view_by no_names definitions (result_at results) item n) before tag fault) in
    let test : nat_lt known.at.item item ≡ true = grind (arith, nat_tests) in
    let seen : view_by no_names definitions
    (result_at results) item n ≡ Earlier known.at.kind known.at.lifted
    (meaning_at (result_at results) known.at) =
    found ∙ ap (λ b. cond b (Earlier known.at.kind known.at.lifted (meaning_at (result_at results) known.at))
    (cond (nat_lt item known.at.item) (Later known.at.kind known.at.lifted)
    (Own known.at.kind known.at.lifted))) test in
    let suit = same_kind (result_at results) item known.at tag
    (ap (λ v. is_declared_as (suits tag) v) (sym found)
    ∙ used_type (view_by no_names definitions (result_at results) item n) before uses.ByValue tag
    (λ e. absurd cc) fault) in
    let good : is_of_faulty (Earlier known.at.kind known.at.lifted
    (meaning_at (result_at results) known.at)) uses.ByValue ≡ false =
    ap (λ v. is_of_faulty v uses.ByValue) (sym seen)
    ∙ held_good (view_by no_names definitions (result_at results) item n) before tag fault in
    let declares = known.first.declares in
    let meaning = own_meaning definitions results known.at.item declares.definition n known.at h.are h.fine
    declares.item_is refl declares.declares in
    let type = is_type known.at.kind known.at.lifted (meaning_at (result_at results) known.at) _ meaning
    (meant_or_bad declares.definition
    (sees definitions results known.at.item declares.definition) known.at.kind n known.at.word
    known.is_type) good in
    subst (λ v. IsKnown (option_map (λ (s : Sight). s.class) (type_seen v tag))) (sym (view ∙ seen))
    (seen_known known.at.kind known.at.lifted (meaning_at (result_at results) known.at) tag suit type)
  where
    is_type : (kind : NameKind) (lifted : Bool) (m x : Meaning) → m ≡ x → (x ≡ Bad) ⊎ IsType x
        → is_of_faulty (Earlier kind lifted m) uses.ByValue ≡ false → IsType m
    is_type kind lifted m x e (inl bad) good = let none : true ≡ false = sym (faulty kind lifted)
        ∙ ap (λ y. is_of_faulty (Earlier kind lifted y) uses.ByValue) (sym (e ∙ bad)) ∙ good in absurd cc
      where
        faulty : (kind : NameKind) (lifted : Bool)
            → is_of_faulty (Earlier kind lifted Bad) uses.ByValue ≡ true
        faulty kind lifted = refl
    is_type kind lifted m x e (inr type) good = (type.0, type.1, e ∙ type.2)

-- ---- what a typedef declares

-- the inline type of a typedef
abbrev own_body : tree.Body → BodyAt
own_body body = record { named = 1 + 1 + length (spell_body body) + star tree.Plain; at = 1 + 1; body = body }

defined_known : (definitions : List (Option Definition)) (results : List (Option Outcome)) (item : ℕ)
    (d : tree.Declaration) → IsFine definitions results item (tree.Typedef d) → (d ≡ tree.Void → ⊥)
    → IsKnown (declaration_class (sees definitions results item (tree.Typedef d))
    (knowns (sees definitions results item (tree.Typedef d)) (enumerators (tree.Typedef d))) d)
defined_known definitions results item tree.Void h some = absurd (some refl)
defined_known definitions results item (tree.Of (tree.Simple b) name tree.Plain) h some =
    (basic_class b, refl)
defined_known definitions results item (tree.Of (tree.Name n) name tree.Plain) h some =
    held_known definitions results item (tree.Typedef (tree.Of (tree.Name n) name tree.Plain)) n 1 None h
    (get_among (mentioned (tree.Typedef (tree.Of (tree.Name n) name tree.Plain))) 0
    (record { name = n; word = 1; usage = uses.ByValue; tag = None }) refl)
defined_known definitions results item (tree.Of (tree.Tagged tag n) name tree.Plain) h some =
    held_known definitions results item (tree.Typedef (tree.Of (tree.Tagged tag n) name tree.Plain)) n 2
    (Some tag) h
    (get_among (mentioned (tree.Typedef (tree.Of (tree.Tagged tag n) name tree.Plain))) 0
    (record { name = n; word = 2; usage = uses.ByValue; tag = Some tag }) refl)
defined_known definitions results item (tree.Of (tree.Inline body) name tree.Plain) h some =
    body_known definitions results item (tree.Typedef (tree.Of (tree.Inline body) name tree.Plain))
    (own_body body) h
    (among_rear (bodies_inside 2 body) (own_body body ∷ []) (own_body body) (among_first (own_body body) []))
defined_known definitions results item (tree.Of type name tree.Optional) h some = (Other, refl)
defined_known definitions results item (tree.Of type name (tree.Array l)) h some = (Other, refl)
defined_known definitions results item (tree.Opaque name l) h some = (Other, refl)
defined_known definitions results item (tree.String name most) h some = (Other, refl)

typedef_known : (definitions : List (Option Definition)) (results : List (Option Outcome)) (item : ℕ)
    (d : Definition) (x : Declared) → IsFine definitions results item d → IsAmong (declared d) x → IsTypedef d
    → IsType (type_defined (sees definitions results item d)
    (knowns (sees definitions results item d) (enumerators d)) d)
typedef_known definitions results item d x h among (typedef declaration is) =
    subst (λ y. IsType (type_defined (sees definitions results item y)
    (knowns (sees definitions results item y) (enumerators y)) y)) (sym is)
    (type_known _ _ (defined_known definitions results item declaration
    (subst (IsFine definitions results item) is h)
    (not_void declaration (subst (λ y. IsAmong (declared y) x) is among))))
  where
    not_void : (e : tree.Declaration) → IsAmong (declared (tree.Typedef e)) x → e ≡ tree.Void → ⊥
    not_void e k void = among_none x (subst (λ y. IsAmong (declared (tree.Typedef y)) x) void k)

-- ---- what a name of a type means

kind_means : (definitions : List (Option Definition)) (results : List (Option Outcome)) (item : ℕ)
    (d : Definition) (place : ℕ) (x : Declared) → IsFine definitions results item d
    → slice_get (declared d) place ≡ Some x → (kind : NameKind) → x.kind ≡ kind → suits None kind ≡ true
    → IsType (meaning_as d (sees definitions results item d) kind x.name x.word)
kind_means definitions results item d place x h there kinds.Typedef e suit =
    typedef_known definitions results item d x h (get_among (declared d) place x there)
    (typedef_of d x (get_among (declared d) place x there) e)
kind_means definitions results item d place x h there kinds.Enum e suit =
    named_known (sees definitions results item d) (knowns (sees definitions results item d) (enumerators d))
    (bodies d) x.word (λ b k. body_known definitions results item d b h k)
    (body_of d place x there (ap is_body_kind e))
kind_means definitions results item d place x h there kinds.Struct e suit =
    named_known (sees definitions results item d) (knowns (sees definitions results item d) (enumerators d))
    (bodies d) x.word (λ b k. body_known definitions results item d b h k)
    (body_of d place x there (ap is_body_kind e))
kind_means definitions results item d place x h there kinds.Union e suit =
    named_known (sees definitions results item d) (knowns (sees definitions results item d) (enumerators d))
    (bodies d) x.word (λ b k. body_known definitions results item d b h k)
    (body_of d place x there (ap is_body_kind e))
kind_means definitions results item d place x h there kinds.Constant e suit = absurd cc
kind_means definitions results item d place x h there kinds.Program e suit = absurd cc

first_means : (definitions : List (Option Definition)) (results : List (Option Outcome)) (name : List ℕ)
    (at : Declarer) → AreResults no_names definitions results → AreFaultless results
    → IsFirstDeclarer definitions name at
    → suits None at.kind ≡ true → IsType (meaning_at (result_at results) at)
first_means definitions results name at are fine h suit =
    let declares = h.declares in
    let x : Declared = record { name = name; word = at.word; kind = at.kind; lifted = at.lifted } in
    let meaning = own_meaning definitions results at.item declares.definition name at are fine
    declares.item_is refl declares.declares in
    let type = kind_means definitions results at.item declares.definition at.place x
    (record { are = are; fine = fine; there = declares.item_is }) declares.declares at.kind refl suit in
    (type.0, type.1, meaning ∙ type.2)

-- a name that means a type is declared as one
means_kind : (d : Definition) (see : List ℕ → View) (kind : NameKind) (name : List ℕ) (word : ℕ)
    (m : Meaning) → meaning_as d see kind name word ≡ m → IsType m → suits None kind ≡ true
means_kind d see kinds.Typedef name word m e type = refl
means_kind d see kinds.Enum name word m e type = refl
means_kind d see kinds.Struct name word m e type = refl
means_kind d see kinds.Union name word m e type = refl
means_kind d see kinds.Constant name word m e type = absurd (by (constant_number d see name) (e ∙ type.2))
  where
    by : (o : Option ℤ) → constant_of o ≡ OfType type.0 type.1 → ⊥
    by None k = cc
    by (Some z) k = cc
means_kind d see kinds.Program name word m e type = let no : Program ≡ OfType type.0 type.1 = e
    ∙ type.2 in absurd cc

meant_type : (definitions : List (Option Definition)) (results : List (Option Outcome)) (name : List ℕ)
    → AreResults no_names definitions results → AreFaultless results → MeansType definitions results name
    → IsTypeName definitions name
meant_type definitions results name are fine h = by (is_beforehand name) refl
    (first_from 0 definitions name) refl
  where
    told : (b : Bool) → Earlier kinds.Constant false
        (cond b (Constant (pos 1)) (Constant (pos 0))) ≡ Earlier h.kind h.lifted (OfType h.class h.height) → ⊥
    told true e = cc
    told false e = cc

    by : (b : Bool) → is_beforehand name ≡ b → (o : Option Declarer) → first_from 0 definitions name ≡ o
        → IsTypeName definitions name
    by true e o f =
        absurd (told (bytes_eq name (codes "TRUE"))
        (sym (ap (λ b. cond b (Earlier kinds.Constant false (beforehand_meaning name))
        (view_of (result_at results) (length definitions) (first_declarer definitions name))) e)
        ∙ h.seen))
    by false e None f =
        let nobody : first_declarer definitions name ≡ None = ap
        (λ b. cond b None (first_from 0 definitions name)) e ∙ f in
        let view : view_by no_names definitions (result_at results) (length definitions) name ≡ Undeclared =
        ap (λ b. cond b (Earlier kinds.Constant false (beforehand_meaning name))
        (view_of (result_at results) (length definitions) (first_declarer definitions name))) e
        ∙ ap (view_of (result_at results) (length definitions)) nobody in
        let no : Undeclared ≡ Earlier h.kind h.lifted (OfType h.class h.height) = sym view ∙ h.seen in
        absurd cc
    by false e (Some at) f =
        let first = found_is_first definitions name at f e in
        let declares = first.declares in
        let same : Earlier at.kind at.lifted (meaning_at (result_at results) at) ≡ Earlier h.kind h.lifted
        (OfType h.class h.height) = sym (seen_behind definitions (result_at results) name at first)
        ∙ h.seen in
        let meaning : meaning_at (result_at results) at ≡ OfType h.class h.height = cc in
        let own = own_meaning definitions results at.item declares.definition name at are fine
        declares.item_is refl declares.declares in
        record {
          at = at;
          first = first;
          is_type = means_kind declares.definition
              (sees definitions results at.item declares.definition) at.kind name at.word
              (meaning_at (result_at results) at) (sym own) (h.class, h.height, meaning);
        }

pub schema_meant : (definitions : List (Option Definition)) (results : List (Option Outcome)) (s : Schema)
    → AreResults no_names definitions results → AreFaultless results → IsSchemaOf definitions s
    → (name : List ℕ) → IsSome (id_named s name) ↔ MeansType definitions results name
schema_meant definitions results s are fine h name = (
  (λ some.
      let t = (schema_types definitions results s are fine h name).0 some in
      let type = first_means definitions results name t.at are fine t.first t.is_type in
      record {
        kind = t.at.kind;
        lifted = t.at.lifted;
        class = type.0;
        height = type.1;
        seen = seen_behind definitions (result_at results) name t.at t.first
            ∙ ap (Earlier t.at.kind t.at.lifted) type.2;
      }),
  (λ m. (schema_types definitions results s are fine h name).1
      (meant_type definitions results name are fine m)),
)
