-- The number by which the rules go at a word is the one that the name means in the whole text.
use Rattle.std.proofs.Common.{◌≡◌, ◌<◌, ◌≤◌, ℕ, zero, suc, ℤ, pos, Bool, true, false, not, cond, map, List}
use Rattle.std.proofs.Common.{[], ◌∷◌, ◌++◌, length, Option, None, Some, refl, sym, ap, subst, ◌∙◌, arith}
use Rattle.std.proofs.Common.{append_assoc, append-nil}
use Rattle.std.specs.Prelude.{slice_get, nat_lt, codes}
use Rattle.std.specs.List.{IsAmong}
use Rattle.std.specs.Str.{bytes_eq}
use Rattle.std.proofs.lemmas.Bool.Decides.{nat_tests}
use Rattle.std.proofs.lemmas.Option.{same_Some}
use Rattle.x_trees.specs.Tree as tree
use Rattle.x_trees.specs.Tree.{Definition}
use Rattle.x_trees.specs.Gloss.{Role}
use Rattle.x_trees.specs.Names.{declared}
use Rattle.x_trees.specs.Mentions.{Mention, mentioned}
use Rattle.x_trees.specs.declared.names.declared_name.NameKind.{NameKind}
use Rattle.x_trees.specs.declared.names.declared_name.NameKind.TheVariants as kinds
use Rattle.x_trees.specs.declared.names.mention.Use.TheVariants as uses
use Rattle.x_names.specs.Declarers.{IsFirstDeclarer, is_beforehand, first_declarer, first_from}
use Rattle.x_names.specs.declared.names.Declarer.{Declarer}
use Rattle.x_names.proofs.DeclarerLaws.{found_is_first}
use Rattle.x_outline.specs.Bodies.{EnumeratorAt, enumerators}
use Rattle.x_rules.specs.Constants.{Known, is_declared_before, known_with, knowns, limit_of, number_at}
use Rattle.x_rules.specs.Constants.{number_before, number_named, enumerator_number, number_seen}
use Rattle.x_rules.specs.Mentioned.{is_constant, is_unknown}
use Rattle.x_rules.specs.Results.{Outcome, AreResults, result_at, view_by, view_of, meaning_at, meaning_of}
use Rattle.x_rules.specs.Results.{beforehand_meaning, constant_number, no_names}
use Rattle.x_rules.specs.Rules.{HasRole, value_role}
use Rattle.x_rules.specs.Views.{View, Meaning, Constant, OfType, Program, Bad, Undeclared, Earlier, Own}
use Rattle.x_rules.specs.Views.{Later}
use Rattle.x_schema.specs.SchemaOf.{number_in, numbers_of}
use Rattle.x_laws.specs.Meant.{AreFaultless, number_meant, sees}
use Rattle.x_laws.proofs.Faultless.{listed_rear, outcome_of, view_seen}
use Rattle.x_laws.proofs.Mentioned.{IsValue, mentioned_listed, no_mention_fault, used_value}
use Rattle.x_laws.proofs.NumberMeant.{view_first}
use Rattle.x_laws.proofs.Paired.{value_mentioned}
use Rattle.x_laws.proofs.SchemaNumbers.{constant_seen, own_constant, own_meaning, own_number, schema_numbers}

-- ---- enumerators before a word

pub known_enumerators : (see : List ℕ → View) (ks : List Known) (before : Option ℤ) (es : List EnumeratorAt)
    → map (λ k. k.enumerator) (known_with see ks before es) ≡ map (λ k. k.enumerator) ks ++ es
known_enumerators see ks before [] = sym (append-nil (map (λ k. k.enumerator) ks))
known_enumerators see ks before (e ∷ es) =
    known_enumerators see (ks ++ record { enumerator = e; number = enumerator_number see ks before e } ∷ [])
    (enumerator_number see ks before e) es
    ∙ ap (λ l. l ++ es) (more ks (record { enumerator = e; number = enumerator_number see ks before e }))
    ∙ append_assoc (map (λ k. k.enumerator) ks) (e ∷ []) es
  where
    more : (ks : List Known) (k : Known) → map (λ x. x.enumerator) (ks ++ k ∷ []) ≡ map
        (λ x. x.enumerator) ks ++ k.enumerator ∷ []
    more [] k = refl
    more (x ∷ xs) k = ap (λ l. x.enumerator ∷ l) (more xs k)

before_named : (ks : List Known) (limit : ℕ) (n : List ℕ)
    → is_declared_before (map (λ k. k.enumerator) ks) limit n ≡ true
    → number_before ks limit n ≡ number_named ks n
before_named [] limit n h = refl
before_named (k ∷ ks) limit n h = by (bytes_eq n k.enumerator.name) h (λ e. before_named ks limit n e)
  where
    by : (b : Bool) → cond b (nat_lt k.enumerator.word limit)
        (is_declared_before (map (λ x. x.enumerator) ks) limit n) ≡ true
        → (is_declared_before (map (λ x. x.enumerator) ks) limit n ≡ true
        → number_before ks limit n ≡ number_named ks n)
        → cond b (cond (nat_lt k.enumerator.word limit) k.number None)
        (number_before ks limit n) ≡ cond b k.number (number_named ks n)
    by true e more = ap (λ b. cond b k.number None) e
    by false e more = more e

enums_before : (d : Definition) (see : List ℕ → View) (limit : ℕ) (n : List ℕ)
    → is_declared_before (enumerators d) limit n ≡ true
    → number_named (knowns see (enumerators d)) n ≡ number_before (knowns see (enumerators d)) limit n
enums_before d see limit n h =
    sym (before_named (knowns see (enumerators d)) limit n
    (ap (λ es. is_declared_before es limit n) (known_enumerators see [] None (enumerators d)) ∙ h))

-- the number of an own constant that is declared before the word
own_before : (d : Definition) (see : List ℕ → View) (limit : ℕ) (n : List ℕ)
    → is_declared_before (enumerators d) limit n ≡ true
    → own_number d see n ≡ number_before (knowns see (enumerators d)) limit n
own_before (tree.Const own value) see limit n h = absurd cc
own_before (tree.Typedef d) see limit n h = enums_before (tree.Typedef d) see limit n h
own_before (tree.NewType name body) see limit n h = enums_before (tree.NewType name body) see limit n h
own_before (tree.Program name versions number) see limit n h = enums_before
    (tree.Program name versions number) see limit n h

-- ---- views

get_within : {X : Type 0} (xs : List X) (i : ℕ) (x : X) → slice_get xs i ≡ Some x → i < length xs
get_within [] i x e = absurd cc
get_within (y ∷ ys) zero x e = omega arith
get_within (y ∷ ys) (suc i) x e = let lt = get_within ys i x e in omega (arith, lt)

earlier_same : (k : NameKind) (l : Bool) (m : Meaning) (x : Option ℤ)
    → number_seen (Earlier k l m) None ≡ number_seen (Earlier k l m) x
earlier_same kinds.Constant l (Constant z) x = refl
earlier_same kinds.Constant l (OfType class height) x = refl
earlier_same kinds.Constant l Program x = refl
earlier_same kinds.Constant l Bad x = refl
earlier_same kinds.Enum l m x = refl
earlier_same kinds.Struct l m x = refl
earlier_same kinds.Union l m x = refl
earlier_same kinds.Typedef l m x = refl
earlier_same kinds.Program l m x = refl

pub constant_kind : (k : NameKind) → is_constant k ≡ true → k ≡ kinds.Constant
constant_kind kinds.Constant e = refl
constant_kind k e = absurd cc

-- an item behind all others sees every first declarer before it
pub seen_behind : (definitions : List (Option Definition)) (read : ℕ → Option Outcome) (n : List ℕ)
    (at : Declarer) → IsFirstDeclarer definitions n at
    → view_by no_names definitions read (length definitions) n ≡ Earlier at.kind at.lifted
    (meaning_at read at)
seen_behind definitions read n at h =
    let within = get_within definitions at.item (Some h.declares.definition) h.declares.item_is in
    let before : nat_lt at.item (length definitions) ≡ true = grind (arith, nat_tests) in
    view_first definitions read (length definitions) n at h
    ∙ ap (λ b. cond b (Earlier at.kind at.lifted (meaning_at read at))
    (cond (nat_lt (length definitions) at.item) (Later at.kind at.lifted) (Own at.kind at.lifted))) before

-- ---- a value by a name

-- an own constant means its own number
pub own_meant : (definitions : List (Option Definition)) (results : List (Option Outcome)) (item : ℕ)
    (d : Definition) (n : List ℕ) (at : Declarer) → AreResults no_names definitions results
    → AreFaultless results
    → slice_get definitions item ≡ Some (Some d) → IsFirstDeclarer definitions n at → at.item ≡ item
    → at.kind ≡ kinds.Constant
    → number_meant definitions results n ≡ own_number d (sees definitions results item d) n
own_meant definitions results item d n at are fine there h same kind =
    ap (λ v. number_seen v None) (seen_behind definitions (result_at results) n at h)
    ∙ ap (λ x. number_seen (Earlier at.kind at.lifted x) None)
    (own_meaning definitions results item d n at are fine there same declares)
    ∙ ap (λ c. number_seen (Earlier c at.lifted (meaning_of d (sees definitions results item d)
    (record { name = n; word = at.word; kind = c; lifted = at.lifted }))) None) kind
    ∙ constant_seen at.lifted (constant_number d (sees definitions results item d) n)
    ∙ own_constant d (sees definitions results item d) n at.place at.word at.kind at.lifted declares
  where
    is : h.declares.definition ≡ d
    is = same_Some h.declares.definition d (same_Some (Some h.declares.definition) (Some d)
        (sym h.declares.item_is ∙ ap (slice_get definitions) same ∙ there))

    declares : slice_get (declared d) at.place ≡ Some
        (record { name = n; word = at.word; kind = at.kind; lifted = at.lifted })
    declares = ap (λ x. slice_get (declared x) at.place) (sym is) ∙ h.declares.declares

by_first : (definitions : List (Option Definition)) (results : List (Option Outcome)) (item : ℕ)
    (d : Definition) (limit : ℕ) (n : List ℕ) (at : Declarer) → AreResults no_names definitions results
    → AreFaultless results
    → slice_get definitions item ≡ Some (Some d) → IsFirstDeclarer definitions n at
    → (a b : Bool) → nat_lt at.item item ≡ a → nat_lt item at.item ≡ b
    → IsValue (cond a (Earlier at.kind at.lifted (meaning_at (result_at results) at))
    (cond b (Later at.kind at.lifted) (Own at.kind at.lifted)))
    (is_declared_before (enumerators d) limit n)
    → number_meant definitions results n
    ≡ number_seen (cond a (Earlier at.kind at.lifted (meaning_at (result_at results) at))
    (cond b (Later at.kind at.lifted) (Own at.kind at.lifted)))
    (number_before (knowns (sees definitions results item d) (enumerators d)) limit n)
by_first definitions results item d limit n at are fine there h true b p q v =
    ap (λ w. number_seen w None) (seen_behind definitions (result_at results) n at h)
    ∙ earlier_same at.kind at.lifted (meaning_at (result_at results) at) _
by_first definitions results item d limit n at are fine there h false true p q v = let late = v.in_time in
    absurd cc
by_first definitions results item d limit n at are fine there h false false p q v =
    let kind = constant_kind at.kind v.constant in
    let same : at.item ≡ item = (let ge : item ≤ at.item = grind
    (arith, nat_tests) in let le : at.item ≤ item = grind (arith, nat_tests) in omega (arith, ge, le)) in
    own_meant definitions results item d n at are fine there h same kind
    ∙ own_before d (sees definitions results item d) limit n
    (before_true (is_declared_before (enumerators d) limit n) v.in_time)
    ∙ ap (λ k. number_seen (Own k at.lifted) (number_before
    (knowns (sees definitions results item d) (enumerators d)) limit n)) (sym kind)
  where
    before_true : (b : Bool) → not b ≡ false → b ≡ true
    before_true true e = refl
    before_true false e = absurd cc

told_beforehand : (b : Bool) (x : Option ℤ)
    → number_seen (Earlier kinds.Constant false (cond b (Constant (pos 1))
    (Constant (pos 0)))) None ≡ number_seen (Earlier kinds.Constant false
    (cond b (Constant (pos 1)) (Constant (pos 0)))) x
told_beforehand true x = refl
told_beforehand false x = refl

by_view : (definitions : List (Option Definition)) (results : List (Option Outcome)) (item : ℕ)
    (d : Definition) (limit : ℕ) (n : List ℕ) → AreResults no_names definitions results → AreFaultless results
    → slice_get definitions item ≡ Some (Some d) → IsValue
    (view_by no_names definitions (result_at results) item n) (is_declared_before (enumerators d) limit n)
    → number_meant definitions results n ≡ number_seen
    (view_by no_names definitions (result_at results) item n)
    (number_before (knowns (sees definitions results item d) (enumerators d)) limit n)
by_view definitions results item d limit n are fine there v = by (is_beforehand n) refl
    (first_from 0 definitions n) refl
  where
    by : (b : Bool) → is_beforehand n ≡ b → (o : Option Declarer) → first_from 0 definitions n ≡ o
        → number_meant definitions results n ≡ number_seen
        (view_by no_names definitions (result_at results) item n)
        (number_before (knowns (sees definitions results item d) (enumerators d)) limit n)
    by true e o f =
        ap (λ b. number_seen (cond b (Earlier kinds.Constant false (beforehand_meaning n))
        (view_of (result_at results) (length definitions) (first_declarer definitions n))) None) e
        ∙ told_beforehand (bytes_eq n (codes "TRUE"))
        (number_before (knowns (sees definitions results item d) (enumerators d)) limit n)
        ∙ sym (ap (λ b. number_seen (cond b (Earlier kinds.Constant false (beforehand_meaning n))
        (view_of (result_at results) item (first_declarer definitions n)))
        (number_before (knowns (sees definitions results item d) (enumerators d)) limit n)) e)
    by false e None f =
        let nobody : first_declarer definitions n ≡ None = ap
        (λ b. cond b None (first_from 0 definitions n)) e ∙ f in
        let view : view_by no_names definitions (result_at results) item n ≡ Undeclared =
        ap (λ b. cond b (Earlier kinds.Constant false (beforehand_meaning n))
        (view_of (result_at results) item (first_declarer definitions n))) e
        ∙ ap (view_of (result_at results) item) nobody in
        let known : is_unknown Undeclared ≡ false = sym (ap is_unknown view) ∙ v.known in
        absurd cc
    by false e (Some at) f =
        let h = found_is_first definitions n at f e in
        let view = view_first definitions (result_at results) item n at h in
        by_first definitions results item d limit n at are fine there h (nat_lt at.item item)
        (nat_lt item at.item) refl refl (subst
        (λ w. IsValue w (is_declared_before (enumerators d) limit n)) view v)
        ∙ ap (λ w. number_seen w (number_before (knowns (sees definitions results item d)
        (enumerators d)) limit n)) (sym view)

used_number : (definitions : List (Option Definition)) (results : List (Option Outcome)) (item : ℕ)
    (d : Definition) (word : ℕ) (n : List ℕ) → AreResults no_names definitions results → AreFaultless results
    → slice_get definitions item ≡ Some (Some d) → IsAmong (mentioned d)
    (record { name = n; word = word; usage = uses.Value; tag = None })
    → number_meant definitions results n ≡ number_seen (sees definitions results item d n)
    (number_before (knowns (sees definitions results item d) (enumerators d)) (limit_of word) n)
used_number definitions results item d word n are fine there among =
    let m : Mention = record { name = n; word = word; usage = uses.Value; tag = None } in
    let o = outcome_of definitions results item d are there in
    let no_fault = no_mention_fault d (sees definitions results item d) o.outcome.faults m o.are_faults
    (fine item o.outcome o.is) among in
    let view : sees definitions results item d n ≡ view_by no_names definitions (result_at results) item n =
    view_seen d (view_by no_names definitions (result_at results) item) n
    (listed_rear n (map (λ x. x.name) (declared d)) (map (λ x. x.name) (mentioned d))
    (mentioned_listed (mentioned d) m among)) in
    let value = used_value (sees definitions results item d n)
    (is_declared_before (enumerators d) (limit_of word) n) no_fault in
    by_view definitions results item d (limit_of word) n are fine there
    (subst (λ w. IsValue w (is_declared_before (enumerators d) (limit_of word) n)) view value)
    ∙ ap (λ w. number_seen w (number_before (knowns (sees definitions results item d) (enumerators d))
    (limit_of word) n)) (sym view)

pub value_number : (definitions : List (Option Definition)) (results : List (Option Outcome))
    → AreResults no_names definitions results → AreFaultless results → (item : ℕ) (d : Definition)
    → slice_get definitions item ≡ Some (Some d) → (word : ℕ) (role : Role) (v : tree.Value)
    → HasRole d word role → value_role role ≡ Some v
    → number_in (numbers_of definitions) v ≡ number_at (sees definitions results item d)
    (enumerators d) word v
value_number definitions results are fine item d there word role (tree.Number text) h e = refl
value_number definitions results are fine item d there word role (tree.Named n) h e =
    schema_numbers definitions results are fine n
    ∙ used_number definitions results item d word n are fine there (value_mentioned d word role n h e)
