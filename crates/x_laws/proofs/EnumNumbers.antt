-- An enumerator has the number that its name means in the whole text.
use Rattle.std.proofs.Common.{◌≡◌, ◌≤◌, ℕ, suc, ◌+◌, ◌-◌, ℤ, pos, Bool, true, false, ◌||◌, cond, map, List}
use Rattle.std.proofs.Common.{[], ◌∷◌, ◌++◌, length, Option, None, Some, refl, sym, ap, subst, ◌∙◌, arith}
use Rattle.std.proofs.Common.{append_assoc, append-nil}
use Rattle.std.specs.Prelude.{slice_get, nat_lt, option_and_then}
use Rattle.std.specs.List.{IsAmong}
use Rattle.std.specs.Str.{bytes_eq}
use Rattle.std.proofs.lemmas.Bool.Decides.{nat_tests}
use Rattle.std.proofs.lemmas.Slice.Eq.{bytes_eq-Decides}
use Rattle.x_trees.specs.Tree as tree
use Rattle.x_trees.specs.Tree.{Definition}
use Rattle.x_trees.specs.Gloss.{EnumeratorValue, Mentions, gloss, value_roles}
use Rattle.x_trees.specs.Spell.{spell_enumerator}
use Rattle.x_trees.specs.declared.names.declared_name.NameKind.TheVariants as kinds
use Rattle.x_trees.specs.declared.names.mention.Use.TheVariants as uses
use Rattle.x_names.specs.declared.names.Declarer.{Declarer}
use Rattle.x_numbers.specs.Numbers.{next_number}
use Rattle.x_trees.proofs.AmongLemmas.{among_first, among_more, among_parted}
use Rattle.x_outline.specs.Bodies.{BodyAt, EnumeratorAt, bodies, enumerators, enumerators_from}
use Rattle.x_outline.specs.Bodies.{enumerators_in, enumerators_of}
use Rattle.x_rules.specs.Constants.{Known, known_with, knowns, number_before, number_by, number_given}
use Rattle.x_rules.specs.Constants.{number_named, enumerator_number, number_seen}
use Rattle.x_rules.specs.Results.{Outcome, AreResults, no_names}
use Rattle.x_rules.specs.Rules.{HasRole}
use Rattle.x_rules.specs.Views.{View}
use Rattle.x_schema.specs.Schema.{Schema}
use Rattle.x_schema.specs.SchemaOf.{IsBody, IsEnum, Numbers, number_given as number_behind, numbers_of}
use Rattle.x_schema.specs.SchemaOf.{signed_word, with_word, words_from}
use Rattle.x_schema.specs.Schemas.{IsSchemaOf}
use Rattle.x_laws.specs.Meant.{AreFaultless, HasEnum, number_meant, sees, whole, words_meant}
use Rattle.x_laws.proofs.EnumWords.{AllTold, Ascends, GivenAt, IsTold, enums_told, in_order, told_declared}
use Rattle.x_laws.proofs.Faultless.{only_declarer}
use Rattle.x_laws.proofs.NumberFold.{first_given, given_number, other_given}
use Rattle.x_laws.proofs.NumberMeant.{AreOwn, IsOwn, more_named, name_in, own_more, own_word}
use Rattle.x_laws.proofs.SchemaNumbers.{own_number}
use Rattle.x_laws.proofs.UsedNumbers.{own_meant, value_number}

-- ---- what is known behind some

pub record IsKnownBehind (see : List ℕ → View) (ks : List Known) (before : Option ℤ)
    (es : List EnumeratorAt) : Type 0 where
  pub rest : List Known
  pub is : known_with see ks before es ≡ ks ++ rest
  pub names : map (λ k. k.enumerator) rest ≡ es

pub known_behind : (see : List ℕ → View) (ks : List Known) (before : Option ℤ) (es : List EnumeratorAt)
    → IsKnownBehind see ks before es
known_behind see ks before [] = record { rest = []; is = sym (append-nil ks); names = refl }
known_behind see ks before (e ∷ es) =
    let k : Known = record { enumerator = e; number = enumerator_number see ks before e } in
    let more = known_behind see (ks ++ k ∷ []) (enumerator_number see ks before e) es in
    record {
      rest = k ∷ more.rest;
      is = more.is ∙ append_assoc ks (k ∷ []) more.rest;
      names = ap
          (λ l. e ∷ l) more.names;
    }

named_front : (ks rest : List Known) (m : List ℕ) → name_in ks m ≡ true
    → number_named (ks ++ rest) m ≡ number_named ks m
named_front [] rest m h = absurd cc
named_front (k ∷ ks) rest m h = by (bytes_eq m k.enumerator.name) h (λ e. named_front ks rest m e)
  where
    by : (b : Bool) → b || name_in ks m ≡ true → (name_in ks m ≡ true
        → number_named (ks ++ rest) m ≡ number_named ks m)
        → cond b k.number (number_named (ks ++ rest) m) ≡ cond b k.number (number_named ks m)
    by true e more = refl
    by false e more = more e

none_behind : (rest : List Known) (limit low : ℕ) (n : List ℕ) → limit ≤ low
    → Ascends low (map (λ k. k.enumerator) rest) → number_before rest limit n ≡ None
none_behind [] limit low n le h = refl
none_behind (k ∷ ks) limit low n le h =
    let word = h.0 in
    let late : nat_lt k.enumerator.word limit ≡ false = grind (arith, nat_tests) in
    by (bytes_eq n k.enumerator.name) (ap (λ b. cond b k.number None) late)
    (none_behind ks limit (suc k.enumerator.word) n (omega (arith, le, word)) h.1)
  where
    by : (b : Bool) → cond (nat_lt k.enumerator.word limit) k.number None ≡ None
        → number_before ks limit n ≡ None
        → cond b (cond (nat_lt k.enumerator.word limit) k.number None) (number_before ks limit n) ≡ None
    by true e f = e
    by false e f = f

before_front : (ks rest : List Known) (limit : ℕ) (n : List ℕ) → number_before rest limit n ≡ None
    → number_before (ks ++ rest) limit n ≡ number_before ks limit n
before_front [] rest limit n h = h
before_front (k ∷ ks) rest limit n h = ap (λ r. cond (bytes_eq n k.enumerator.name)
    (cond (nat_lt k.enumerator.word limit) k.number None) r) (before_front ks rest limit n h)

-- ---- an enumerator

-- what an item's enumerators are checked by
pub record AtText (definitions : List (Option Definition)) (results : List (Option Outcome)) (item : ℕ)
    (d : Definition) : Type 0 where
  pub are : AreResults no_names definitions results
  pub fine : AreFaultless results
  pub there : slice_get definitions item ≡ Some (Some d)
  -- it is no `const`
  pub own : (m : List ℕ) → own_number d (sees definitions results item d) m ≡ number_named
      (knowns (sees definitions results item d) (enumerators d)) m

pub own_told : (definitions : List (Option Definition)) (results : List (Option Outcome)) (item : ℕ)
    (d : Definition) (e : EnumeratorAt) → AtText definitions results item d → IsTold (gloss d) 0 e
    → IsOwn definitions item e.name e.word
own_told definitions results item d e h told =
    let place = told_declared d e told in
    let at : Declarer = record
    { item = item; word = e.word; place = place.place; kind = kinds.Constant; lifted = false } in
    record {
      at = at;
      first = only_declarer definitions results e.name at h.are h.fine
          (record { definition = d; item_is = h.there; declares = place.there });
      item_is = refl;
      word_is = refl;
      kind_is = refl;
    }

pub value_among : (v : tree.Value) → IsAmong (value_roles (EnumeratorValue v) v) (EnumeratorValue v)
value_among (tree.Number t) = among_first (EnumeratorValue (tree.Number t)) []
value_among (tree.Named t) = among_more (Mentions t uses.Value None) (EnumeratorValue (tree.Named t))
    (EnumeratorValue (tree.Named t) ∷ []) (among_first (EnumeratorValue (tree.Named t)) [])

-- by those that are known before a word the same numbers are named there as by all
pub by_known : (see : List ℕ → View) (all ks rest : List Known) (limit : ℕ) (v : tree.Value) → all ≡ ks
    ++ rest → Ascends limit (map (λ k. k.enumerator) rest)
    → number_by see all limit v ≡ number_by see ks limit v
by_known see all ks rest limit (tree.Number t) is h = refl
by_known see all ks rest limit (tree.Named n) is h =
    ap (λ l. number_seen (see n) (number_before l limit n)) is
    ∙ ap (number_seen (see n)) (before_front ks rest limit n
    (none_behind rest limit limit n (omega arith) h))

given_same : (definitions : List (Option Definition)) (results : List (Option Outcome)) (item : ℕ)
    (d : Definition) (ks rest : List Known) (before : Option ℤ) (index word : ℕ) (is_first : Bool)
    (v : Option tree.Value)
    → AtText definitions results item d → knowns (sees definitions results item d) (enumerators d) ≡ ks
    ++ rest → word ≡ 0 + index → Ascends word (map (λ k. k.enumerator) rest)
    → GivenAt (gloss d) (index + 2) v
    → given_number (numbers_of definitions) before is_first v ≡ number_given
    (sees definitions results item d) ks before word is_first v
given_same definitions results item d ks rest before index word true None h is at up told = refl
given_same definitions results item d ks rest before index word false None h is at up told = refl
given_same definitions results item d ks rest before index word is_first (Some v) h is at up told =
    let role : HasRole d (index + 2) (EnumeratorValue v) = record {
      gloss_at = told.gloss_at;
      word_is = told.there;
      has = subst (λ rs. IsAmong rs (EnumeratorValue v))
          (sym told.roles) (value_among v);
    } in
    let limit : index + 2 - 2 ≡ word = omega (arith, at) in
    value_number definitions results h.are h.fine item d h.there (index + 2) (EnumeratorValue v) v role refl
    ∙ ap (λ l. number_by (sees definitions results item d)
    (knowns (sees definitions results item d) (enumerators d)) l v) limit
    ∙ by_known (sees definitions results item d) (knowns (sees definitions results item d)
    (enumerators d)) ks rest word v is up

-- each enumerator means the number that is given to it behind what the one before means
abbrev Along : Numbers → (List ℕ → Option ℤ) → Option ℤ → List EnumeratorAt → Type 0
Along numbers meant before [] = Unit {0}
Along numbers meant before (e ∷ es) = (given_number numbers before e.is_first e.given ≡ meant e.name)
    × Along numbers meant (meant e.name) es

or_true : (a : Bool) → a || true ≡ true
or_true true = refl
or_true false = refl

along : (definitions : List (Option Definition)) (results : List (Option Outcome)) (item : ℕ)
    (d : Definition) (ks : List Known) (low : ℕ) (before : Option ℤ) (es : List EnumeratorAt)
    → AtText definitions results item d → knowns (sees definitions results item d)
    (enumerators d) ≡ known_with (sees definitions results item d) ks before es
    → AreOwn definitions item ks low
    → AllTold (gloss d) 0 es → Ascends low es → Along (numbers_of definitions)
    (number_meant definitions results) before es
along definitions results item d ks low before [] h same own told up = tt
along definitions results item d ks low before (e ∷ es) h same own told up =
    let see = sees definitions results item d in
    let here = own_told definitions results item d e h told.0 in
    let low_word = up.0 in
    let next : Known = record { enumerator = e; number = enumerator_number see ks before e } in
    let rest = known_behind see ks before (e ∷ es) in
    let is : knowns see (enumerators d) ≡ ks ++ rest.rest = same ∙ rest.is in
    let up_here : Ascends e.word (map (λ k. k.enumerator) rest.rest) = subst (λ l. Ascends e.word l)
    (sym rest.names) (omega arith, up.1) in
    let given = given_same definitions results item d ks rest.rest before told.0.index e.word e.is_first
    e.given h is told.0.word_is up_here told.0.value in
    let last = known_behind see (ks ++ next ∷ []) (enumerator_number see ks before e) es in
    let named : number_named (ks ++ next ∷ []) e.name ≡ enumerator_number see ks before e =
    more_named ks next e.name ∙ (λ i. cond (fresh (name_in ks e.name) refl here i) (number_named ks e.name)
    (cond ((bytes_eq-Decides e.name e.name).1 refl i) (enumerator_number see ks before e) None)) in
    let means : number_meant definitions results e.name ≡ enumerator_number see ks before e =
    own_meant definitions results item d e.name here.at h.are h.fine h.there here.first here.item_is
    here.kind_is
    ∙ h.own e.name
    ∙ ap (λ l. number_named l e.name) (same ∙ last.is)
    ∙ named_front (ks ++ next ∷ []) last.rest e.name
    (in_more ks next e.name ((bytes_eq-Decides e.name e.name).1 refl))
    ∙ named in
    let others = along definitions results item d (ks ++ next ∷ []) (suc e.word)
    (enumerator_number see ks before e) es h same
    (own_more definitions item ks next low (suc e.word) (omega (arith, low_word))
    (omega arith) here own) told.1 up.1 in (
      given ∙ sym means,
      subst (λ z. Along (numbers_of definitions) (number_meant definitions results) z es)
          (sym means) others,
    )
  where
    fresh : (b : Bool) → name_in ks e.name ≡ b → IsOwn definitions item e.name e.word
        → name_in ks e.name ≡ false
    fresh false k here = k
    fresh true k here =
        let one = own e.name k in
        let word = own_word definitions item e.name one.0 e.word one.2 here in
        let before' = one.1 in
        let low_word = up.0 in
        absurd (omega (arith, word, before', low_word))

    in_more : (ks : List Known) (k : Known) (m : List ℕ) → bytes_eq m k.enumerator.name ≡ true
        → name_in (ks ++ k ∷ []) m ≡ true
    in_more [] k m x = ap (λ b. b || false) x
    in_more (y ∷ ys) k m x = ap (λ b. bytes_eq m y.enumerator.name || b) (in_more ys k m x)
        ∙ or_true (bytes_eq m y.enumerator.name)

all_along : (definitions : List (Option Definition)) (results : List (Option Outcome)) (item : ℕ)
    (d : Definition) → AreResults no_names definitions results → AreFaultless results
    → slice_get definitions item ≡ Some (Some d) → Along (numbers_of definitions)
    (number_meant definitions results) None (enumerators d)
all_along definitions results item (tree.Const name value) are fine there = tt
all_along definitions results item (tree.Typedef d) are fine there =
    let told = enums_told (tree.Typedef d) in
    along definitions results item (tree.Typedef d) [] 0 None (enumerators (tree.Typedef d))
    (record { are = are; fine = fine; there = there; own = λ m. refl }) refl
    (λ m e. absurd cc) told.all told.ascend
all_along definitions results item (tree.NewType name body) are fine there =
    let told = enums_told (tree.NewType name body) in
    along definitions results item (tree.NewType name body) [] 0 None (enumerators (tree.NewType name body))
    (record { are = are; fine = fine; there = there; own = λ m. refl }) refl (λ m e. absurd cc)
    told.all told.ascend
all_along definitions results item (tree.Program name versions number) are fine there = tt

-- ---- an enum

record IsAlong (numbers : Numbers) (meant : List ℕ → Option ℤ) (es : List EnumeratorAt) : Type 0 where
  before : Option ℤ
  along : Along numbers meant before es

along_rear : (numbers : Numbers) (meant : List ℕ → Option ℤ) (before : Option ℤ) (xs es : List EnumeratorAt)
    → Along numbers meant before (xs ++ es) → IsAlong numbers meant es
along_rear numbers meant before [] es h = record { before = before; along = h }
along_rear numbers meant before (x ∷ xs) es h = along_rear numbers meant (meant x.name) xs es h.1

others_words : (numbers : Numbers) (meant : List ℕ → Option ℤ) (before : Option ℤ) (at : ℕ)
    (words : List (ℕ × List ℕ)) (es : List tree.Enumerator) (ys : List EnumeratorAt)
    → Along numbers meant before (enumerators_from false at es ++ ys)
    → words_from numbers (next_number before) words es ≡ words_meant meant words es
others_words numbers meant before at words [] ys h = refl
others_words numbers meant before at words (e ∷ es) ys h =
    let z : number_behind numbers
    (next_number before) e.value ≡ meant e.name = other_given numbers before e.value ∙ h.0 in
    ap (λ y. words_from numbers (next_number y) (with_word words (option_and_then signed_word y) e.name) es) z
    ∙ others_words numbers meant (meant e.name) (at + length (spell_enumerator e) + 1)
    (with_word words (option_and_then signed_word (meant e.name)) e.name) es ys h.1

enum_words : (numbers : Numbers) (meant : List ℕ → Option ℤ) (before : Option ℤ) (at : ℕ)
    (es : List tree.Enumerator) (ys : List EnumeratorAt)
    → Along numbers meant before (enumerators_from true at es ++ ys)
    → words_from numbers (Some (pos 0)) [] es ≡ words_meant meant [] es
enum_words numbers meant before at [] ys h = refl
enum_words numbers meant before at (e ∷ es) ys h =
    let z : number_behind numbers (Some (pos 0)) e.value ≡ meant e.name = first_given numbers before e.value
    ∙ h.0 in
    ap (λ y. words_from numbers (next_number y) (with_word [] (option_and_then signed_word y) e.name) es) z
    ∙ others_words numbers meant (meant e.name) (at + length (spell_enumerator e) + 1)
    (with_word [] (option_and_then signed_word (meant e.name)) e.name) es ys h.1

pub enum_numbers : (definitions : List (Option Definition)) (results : List (Option Outcome))
    → AreResults no_names definitions results → AreFaultless results → (item : ℕ) (d : Definition)
    → slice_get definitions item ≡ Some (Some d) → (b : BodyAt) (es : List tree.Enumerator)
    → IsAmong (bodies d) b → b.body ≡ tree.Enum es
    → words_from (numbers_of definitions) (Some (pos 0)) [] es ≡ words_meant
    (number_meant definitions results) [] es
enum_numbers definitions results are fine item d there b es among is =
    let parts = among_parted (bodies d) b among in
    let own : enumerators_of b ≡ enumerators_from true (b.at + 1) es = λ i. enumerators_of
    (record { named = b.named; at = b.at; body = is i }) in
    let all : enumerators d ≡ enumerators_in parts.front
    ++ (enumerators_from true (b.at + 1) es ++ enumerators_in parts.rear) =
    ap enumerators_in parts.parts ∙ in_order parts.front (b ∷ parts.rear)
    ∙ ap (λ l. enumerators_in parts.front ++ (l ++ enumerators_in parts.rear)) own in
    let rear = along_rear (numbers_of definitions) (number_meant definitions results) None
    (enumerators_in parts.front) (enumerators_from true (b.at + 1) es ++ enumerators_in parts.rear)
    (subst (λ l. Along (numbers_of definitions) (number_meant definitions results) None l) all
    (all_along definitions results item d are fine there)) in
    enum_words (numbers_of definitions) (number_meant definitions results) rear.before (b.at + 1) es
    (enumerators_in parts.rear) rear.along

-- where a schema has the enum, the words are those that its names mean
pub enum_in_schema : (definitions : List (Option Definition)) (results : List (Option Outcome)) (s : Schema)
    → AreResults no_names definitions results → AreFaultless results → IsSchemaOf definitions s → (item : ℕ)
    (d : Definition) → slice_get definitions item ≡ Some (Some d) → (b : BodyAt) (es : List tree.Enumerator)
    → IsAmong (bodies d) b → b.body ≡ tree.Enum es → (place : ℕ)
    → IsBody s (whole definitions s) b.body place
    → HasEnum s place (words_meant (number_meant definitions results) [] es)
enum_in_schema definitions results s are fine h item d there b es among is place has =
    let enum : IsEnum s (numbers_of definitions) es place =
    subst (λ body. IsBody s (whole definitions s) body place) is has in
    record {
      names = enum.names;
      form = enum.form;
      words_are = enum.first ∙ enum_numbers definitions results are fine item d there b es among is;
    }
