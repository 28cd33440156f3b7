-- In a text without a fault a schema's union has each case, with the arm that is declared for it.
use Rattle.std.proofs.Common.{◌≡◌, ◌⊎◌, inl, inr, ℕ, ◌+◌, Bool, true, false, cond, map, List, [], ◌∷◌, ◌++◌}
use Rattle.std.proofs.Common.{Option, None, Some, is_some, refl, sym, ap, subst, ◌∙◌, arith}
use Rattle.std.specs.Prelude.{slice_get, nat_eq, length}
use Rattle.std.specs.Option.{option_or}
use Rattle.std.specs.List.{IsAmong}
use Rattle.std.specs.Map.{lookup}
use Rattle.std.proofs.lemmas.Bool.Decides.{nat_tests}
use Rattle.std.proofs.lemmas.List.{append_assoc}
use Rattle.x_trees.specs.Tree as tree
use Rattle.x_trees.specs.Tree.{Definition}
use Rattle.x_trees.specs.Spell.{spell_cases, spell_declaration}
use Rattle.x_trees.proofs.AmongLemmas.{among_cases, among_first, among_front, among_more, among_none}
use Rattle.x_trees.proofs.AmongLemmas.{among_parted, among_parts, among_rear}
use Rattle.x_outline.specs.Bodies.{BodyAt, ValueAt, arm_cases_from, arms_at, bodies, cases_from, cases_of}
use Rattle.x_numbers.proofs.Lookups.{lookup_more}
use Rattle.x_rules.specs.Results.{AreResults, Outcome, no_names}
use Rattle.x_schema.specs.Choices.{Choice}
use Rattle.x_schema.specs.Schema.{Schema, form_at}
use Rattle.x_schema.specs.SchemaOf.{AreArms, IsArmOf, IsBody, IsDeclared, Known, Numbers, case_word}
use Rattle.x_schema.specs.SchemaOf.{place_in, union_form, with_cases, with_word}
use Rattle.x_schema.specs.Schemas.{IsSchemaOf}
use Rattle.x_schema.specs.declared.form.Arm.{Arm}
use Rattle.x_schema.specs.declared.form.Field.{Field}
use Rattle.x_schema.specs.declared.form.Form.{Form}
use Rattle.x_schema.specs.declared.form.Form.TheVariants as forms
use Rattle.x_laws.specs.Meant.{AreFaultless, HasCase, IsUnionIn, cases_declared, cases_with, whole}
use Rattle.x_laws.proofs.CaseWords.{each_once, each_word, some_is}
use Rattle.x_laws.proofs.ClassFits.{nat_same}

-- ---- one word more

word_keeps : {X : Type 0} (w : ℕ) (es : List (ℕ × X)) (o : Option ℕ) (x a : X)
    → lookup (nat_eq w) es ≡ Some a → lookup (nat_eq w) (with_word es o x) ≡ Some a
word_keeps w es None x a h = h
word_keeps w es (Some k) x a h = by (is_some (lookup (nat_eq k) es))
  where
    by : (b : Bool) → lookup (nat_eq w) (cond b es (es ++ (k, x) ∷ [])) ≡ Some a
    by true = h
    by false = lookup_more (nat_eq w) es k x ∙ ap (λ o. option_or o (cond (nat_eq w k) (Some x) None)) h

-- a word that is not there is not there behind another
word_apart : {X : Type 0} (w : ℕ) (es : List (ℕ × X)) (o : Option ℕ) (x : X) → (o ≡ Some w → ⊥)
    → lookup (nat_eq w) es ≡ None → lookup (nat_eq w) (with_word es o x) ≡ None
word_apart w es None x other h = h
word_apart w es (Some k) x other h = by (is_some (lookup (nat_eq k) es))
  where
    differs : (b : Bool) → nat_eq w k ≡ b → cond b (Some x) None ≡ None
    differs true e = absurd (other (ap Some (grind (arith, nat_tests, e))))
    differs false e = refl

    by : (b : Bool) → lookup (nat_eq w) (cond b es (es ++ (k, x) ∷ [])) ≡ None
    by true = h
    by false =
        lookup_more (nat_eq w) es k x
        ∙ ap (λ o. option_or o (cond (nat_eq w k) (Some x) None)) h
        ∙ differs (nat_eq w k) refl

-- a word that is not there is there with this, or is not
word_new : {X : Type 0} (w : ℕ) (es : List (ℕ × X)) (o : Option ℕ) (x : X) → lookup (nat_eq w) es ≡ None
    → (lookup (nat_eq w) (with_word es o x) ≡ Some x) ⊎ (lookup (nat_eq w) (with_word es o x) ≡ None)
word_new w es None x h = inr h
word_new w es (Some k) x h = by (is_some (lookup (nat_eq k) es))
  where
    then : (b : Bool) → nat_eq w k ≡ b
        → (lookup (nat_eq w) (es ++ (k, x) ∷ []) ≡ Some x) ⊎ (lookup (nat_eq w) (es ++ (k, x) ∷ []) ≡ None)
    then true e =
        inl
        (lookup_more (nat_eq w) es k x
        ∙ ap (λ o. option_or o (cond (nat_eq w k) (Some x) None)) h
        ∙ ap (λ b. cond b (Some x) None) e)
    then false e =
        inr
        (lookup_more (nat_eq w) es k x
        ∙ ap (λ o. option_or o (cond (nat_eq w k) (Some x) None)) h
        ∙ ap (λ b. cond b (Some x) None) e)

    by : (b : Bool) → (lookup (nat_eq w) (cond b es (es ++ (k, x) ∷ [])) ≡ Some x)
        ⊎ (lookup (nat_eq w) (cond b es (es ++ (k, x) ∷ [])) ≡ None)
    by true = inr h
    by false = then (nat_eq w k) refl

word_there : {X : Type 0} (w : ℕ) (es : List (ℕ × X)) (x : X) → lookup (nat_eq w) es ≡ None
    → lookup (nat_eq w) (with_word es (Some w) x) ≡ Some x
word_there w es x h =
    ap (λ o. lookup (nat_eq w) (cond (is_some o) es (es ++ (w, x) ∷ []))) h
    ∙ lookup_more (nat_eq w) es w x
    ∙ ap (λ o. option_or o (cond (nat_eq w w) (Some x) None)) h
    ∙ ap (λ b. cond b (Some x) None) (nat_same w)

-- ---- the cases of an arm

cases_keep : (numbers : Numbers) (form : Form) (es : List (ℕ × Arm)) (vs : List tree.Value) (x : Arm) (w : ℕ)
    (a : Arm) → lookup (nat_eq w) es ≡ Some a
    → lookup (nat_eq w) (with_cases numbers form es vs x) ≡ Some a
cases_keep numbers form es [] x w a h = h
cases_keep numbers form es (v ∷ vs) x w a h =
    cases_keep numbers form (with_word es (case_word numbers form v) x) vs x w a
    (word_keeps w es (case_word numbers form v) x a h)

cases_apart : (numbers : Numbers) (form : Form) (es : List (ℕ × Arm)) (vs : List tree.Value) (x : Arm) (w : ℕ)
    → ((v : tree.Value) → IsAmong vs v → case_word numbers form v ≡ Some w → ⊥)
    → lookup (nat_eq w) es ≡ None → lookup (nat_eq w) (with_cases numbers form es vs x) ≡ None
cases_apart numbers form es [] x w other h = h
cases_apart numbers form es (v ∷ vs) x w other h =
    cases_apart numbers form (with_word es (case_word numbers form v) x) vs x w
    (λ u k. other u (among_more v u vs k))
    (word_apart w es (case_word numbers form v) x (other v (among_first v vs)) h)

-- a case has the arm, if its word is not there before
cases_there : (numbers : Numbers) (form : Form) (es : List (ℕ × Arm)) (vs : List tree.Value) (x : Arm) (w : ℕ)
    (v : tree.Value) → IsAmong vs v → case_word numbers form v ≡ Some w → lookup (nat_eq w) es ≡ None
    → lookup (nat_eq w) (with_cases numbers form es vs x) ≡ Some x
cases_there numbers form es [] x w v among e h = absurd (among_none v among)
cases_there numbers form es (u ∷ us) x w v among e h =
    by (among_cases u v us among) (word_new w es (case_word numbers form u) x h)
    (λ k none. cases_there numbers form next us x w v k e none)
  where
    next : List (ℕ × Arm)
    next = with_word es (case_word numbers form u) x

    by : (v ≡ u) ⊎ IsAmong us v
        → (lookup (nat_eq w) next ≡ Some x) ⊎ (lookup (nat_eq w) next ≡ None)
        → (IsAmong us v → lookup (nat_eq w) next ≡ None
        → lookup (nat_eq w) (with_cases numbers form next us x) ≡ Some x)
        → lookup (nat_eq w) (with_cases numbers form next us x) ≡ Some x
    by (inl same) n more =
        cases_keep numbers form next us x w x
        (ap (λ o. lookup (nat_eq w) (with_word es o x)) (ap (case_word numbers form) (sym same) ∙ e)
        ∙ word_there w es x h)
    by (inr k) (inl there) more = cases_keep numbers form next us x w x there
    by (inr k) (inr none) more = more k none

arms_keep : (s : Schema) (known : Known) (form : Form) (as' : tree.Arms) (before cases : List (ℕ × Arm))
    (w : ℕ) (a : Arm) → AreArms s known form as' before cases → lookup (nat_eq w) before ≡ Some a
    → lookup (nat_eq w) cases ≡ Some a
arms_keep s known form tree.no_arm before cases w a h there = ap (lookup (nat_eq w)) h ∙ there
arms_keep s known form (tree.arm values d rest) before cases w a h there =
    arms_keep s known form rest (with_cases known.numbers form before values h.0) cases w a h.3
    (cases_keep known.numbers form before values h.0 w a there)

-- ---- cases at their words

case_at : (at : ℕ) (vs : List tree.Value) (v : tree.Value) → IsAmong vs v
    → (c : ValueAt) × IsAmong (cases_from at vs) c × (c.value ≡ v)
case_at at [] v h = absurd (among_none v h)
case_at at (u ∷ us) v h = by (among_cases u v us h) (λ k. case_at (at + 3) us v k)
  where
    first : ValueAt
    first = record { word = at + 1; value = u }

    by : (v ≡ u) ⊎ IsAmong us v
        → (IsAmong us v → (c : ValueAt) × IsAmong (cases_from (at + 3) us) c × (c.value ≡ v))
        → (c : ValueAt) × IsAmong (first ∷ cases_from (at + 3) us) c × (c.value ≡ v)
    by (inl e) more = (first, among_first first (cases_from (at + 3) us), sym e)
    by (inr k) more =
        let m = more k in (m.0, among_more first m.0 (cases_from (at + 3) us) m.1, m.2)

-- the cases of an arm that declares this
abbrev with_same : tree.Declaration → List tree.Value → List (tree.Value × tree.Declaration)
with_same d vs = map (λ v. (v, d)) vs

of_arm : (vs : List tree.Value) (d : tree.Declaration) (v : tree.Value) (declaration : tree.Declaration)
    → IsAmong (with_same d vs) (v, declaration) → IsAmong vs v × (declaration ≡ d)
of_arm [] d v declaration h = absurd (among_none (v, declaration) h)
of_arm (u ∷ us) d v declaration h =
    by (among_cases (u, d) (v, declaration) (with_same d us) h) (λ k. of_arm us d v declaration k)
  where
    both : tree.Value → tree.Declaration → tree.Value × tree.Declaration
    both x y = (x, y)

    by : (both v declaration ≡ both u d) ⊎ IsAmong (with_same d us) (v, declaration)
        → (IsAmong (with_same d us) (v, declaration) → IsAmong us v × (declaration ≡ d))
        → IsAmong (u ∷ us) v × (declaration ≡ d)
    by (inl e) more =
        (subst (λ z. IsAmong (u ∷ us) z) (sym (ap (λ p. p.0) e)) (among_first u us), ap (λ p. p.1) e)
    by (inr k) more = let m = more k in (among_more u v us m.0, m.1)

case_of_arms : (at : ℕ) (as' : tree.Arms) (v : tree.Value) (declaration : tree.Declaration)
    → IsAmong (cases_with as') (v, declaration)
    → (c : ValueAt) × IsAmong (arm_cases_from at as') c × (c.value ≡ v)
case_of_arms at tree.no_arm v declaration h = absurd (among_none (v, declaration) h)
case_of_arms at (tree.arm values d rest) v declaration h =
    by (among_parts (with_same d values) (cases_with rest) (v, declaration) h)
    (λ k. case_of_arms behind rest v declaration k)
  where
    behind : ℕ
    behind = at + length (spell_cases values) + length (spell_declaration d) + 1

    here : List ValueAt
    here = cases_from at values

    others : List ValueAt
    others = arm_cases_from behind rest

    by : IsAmong (with_same d values) (v, declaration) ⊎ IsAmong (cases_with rest) (v, declaration)
        → (IsAmong (cases_with rest) (v, declaration)
        → (c : ValueAt) × IsAmong others c × (c.value ≡ v))
        → (c : ValueAt) × IsAmong (here ++ others) c × (c.value ≡ v)
    by (inl k) more =
        let m = case_at at values v (of_arm values d v declaration k).0 in
        (m.0, among_front here others m.0 m.1, m.2)
    by (inr k) more = let m = more k in (m.0, among_rear here others m.0 m.1, m.2)

-- ---- words that no two cases have

abbrev AreOnce : Numbers → Form → List ValueAt → Type 0
AreOnce numbers form cs =
    (front rear : List ValueAt) (here : ValueAt) → cs ≡ front ++ here ∷ rear → (other : ValueAt)
    → IsAmong front other → case_word numbers form other.value ≡ case_word numbers form here.value → ⊥

once_rest : (numbers : Numbers) (form : Form) (xs ys : List ValueAt) → AreOnce numbers form (xs ++ ys)
    → AreOnce numbers form ys
once_rest numbers form xs ys once front rear here parts other before =
    once (xs ++ front) rear here
    (ap (λ l. xs ++ l) parts ∙ sym (append_assoc xs front (here ∷ rear))) other
    (among_rear xs front other before)

once_apart : (numbers : Numbers) (form : Form) (xs ys : List ValueAt) (x y : ValueAt)
    → AreOnce numbers form (xs ++ ys) → IsAmong xs x → IsAmong ys y
    → case_word numbers form x.value ≡ case_word numbers form y.value → ⊥
once_apart numbers form xs ys x y once in_front in_rear =
    let p = among_parted ys y in_rear in
    once (xs ++ p.front) p.rear y
    (ap (λ l. xs ++ l) p.parts ∙ sym (append_assoc xs p.front (y ∷ p.rear))) x
    (among_front xs p.front x in_front)

-- ---- the arm of a case

record IsReached (s : Schema) (known : Known) (cases : List (ℕ × Arm)) (w : ℕ)
    (declaration : tree.Declaration) : Type 0 where
  arm : Arm
  found : lookup (nat_eq w) cases ≡ Some arm
  is_arm : IsArmOf s declaration arm
  declared : IsDeclared s known declaration (place_in arm)

reached : (s : Schema) (known : Known) (form : Form) (as' : tree.Arms) (before cases : List (ℕ × Arm))
    (at : ℕ) (v : tree.Value) (declaration : tree.Declaration) (w : ℕ)
    → AreArms s known form as' before cases → IsAmong (cases_with as') (v, declaration)
    → case_word known.numbers form v ≡ Some w → lookup (nat_eq w) before ≡ None
    → AreOnce known.numbers form (arm_cases_from at as') → IsReached s known cases w declaration
reached s known form tree.no_arm before cases at v declaration w h among e none once =
    absurd (among_none (v, declaration) among)
reached s known form (tree.arm values d rest) before cases at v declaration w h among e none once =
    by (among_parts (with_same d values) (cases_with rest) (v, declaration) among)
    (λ k apart. reached s known form rest next cases behind v declaration w h.3 k e
    (cases_apart known.numbers form before values h.0 w apart none)
    (once_rest known.numbers form here others once))
  where
    behind : ℕ
    behind = at + length (spell_cases values) + length (spell_declaration d) + 1

    here : List ValueAt
    here = cases_from at values

    others : List ValueAt
    others = arm_cases_from behind rest

    next : List (ℕ × Arm)
    next = with_cases known.numbers form before values h.0

    Apart : Type 0
    Apart = (u : tree.Value) → IsAmong values u → case_word known.numbers form u ≡ Some w → ⊥

    apart : IsAmong (cases_with rest) (v, declaration) → Apart
    apart k u in_front same =
        let x = case_at at values u in_front in
        let y = case_of_arms behind rest v declaration k in
        once_apart known.numbers form here others x.0 y.0 once x.1 y.1
        (ap (case_word known.numbers form) x.2
        ∙ same
        ∙ sym (ap (case_word known.numbers form) y.2 ∙ e))

    by : IsAmong (with_same d values) (v, declaration) ⊎ IsAmong (cases_with rest) (v, declaration)
        → (IsAmong (cases_with rest) (v, declaration) → Apart → IsReached s known cases w declaration)
        → IsReached s known cases w declaration
    by (inl k) more =
        let o = of_arm values d v declaration k in
        record {
          arm = h.0;
          found =
              arms_keep s known form rest next cases w h.0 h.3
              (cases_there known.numbers form before values h.0 w v o.0 e none);
          is_arm = subst (λ x. IsArmOf s x h.0) (sym o.1) h.1;
          declared = subst (λ x. IsDeclared s known x (place_in h.0)) (sym o.1) h.2;
        }
    by (inr k) more = more k (apart k)

-- a union with a case is one
union_made : (discriminant : Field) (choice : Choice) (w : ℕ) (a : Arm)
    → lookup (nat_eq w) choice.cases ≡ Some a
    → union_form discriminant choice ≡ forms.Union discriminant choice
union_made discriminant choice w a h = by choice.cases refl h
  where
    by : (cs : List (ℕ × Arm)) → choice.cases ≡ cs → lookup (nat_eq w) cs ≡ Some a
        → union_form discriminant choice ≡ forms.Union discriminant choice
    by [] e k = absurd cc
    by (c ∷ cs) e k = made
      where
        made : union_form discriminant choice ≡ forms.Union discriminant choice
        made =
            subst
            (λ l. union_form discriminant (record { cases = l; default = choice.default })
            ≡ forms.Union discriminant (record { cases = l; default = choice.default })) (sym e) refl

pub each_arm : (definitions : List (Option Definition)) (results : List (Option Outcome)) (s : Schema)
    → AreResults no_names definitions results → AreFaultless results → IsSchemaOf definitions s → (item : ℕ)
    (d : Definition) → slice_get definitions item ≡ Some (Some d) → (union : BodyAt)
    → IsAmong (bodies d) union → (place : ℕ) → IsBody s (whole definitions s) union.body place
    → (case : tree.Value) (declaration : tree.Declaration)
    → IsAmong (cases_declared union.body) (case, declaration)
    → HasCase s (whole definitions s) place case declaration
each_arm definitions results s are fine h item d there union among place is_body case declaration is_case =
    by union.body refl is_body is_case
  where
    known : Known
    known = whole definitions s

    by : (body : tree.Body) → union.body ≡ body → IsBody s known body place
        → IsAmong (cases_declared body) (case, declaration) → HasCase s known place case declaration
    by (tree.Enum es) e b k = absurd (among_none (case, declaration) k)
    by (tree.Struct ds) e b k = absurd (among_none (case, declaration) k)
    by (tree.Union on as' other) e b k = record {
      discriminant = b.0;
      choice = b.1;
      form_is = b.2 ∙ union_made b.0 b.1 word.0 arm.arm arm.found;
      word = word.0;
      word_is = word.1;
      arm = arm.arm;
      found = arm.found;
      is_arm = arm.is_arm;
      declared = arm.declared;
    }
      where
        form : Form
        form = form_at s b.0.form

        at : ℕ
        at = arms_at union.at on

        u : IsUnionIn definitions s item d union on b.0.form
        u = record {
          item_is = there;
          is_body = among;
          at = union.at + 2;
          is_switch = record { arms = as'; other = other; body_is = e; at_is = refl };
          declared = b.4;
        }

        cases : cases_of union ≡ arm_cases_from at as'
        cases = ap (λ y. cases_of (record { named = union.named; at = union.at; body = y })) e

        told : (c : ValueAt) × IsAmong (arm_cases_from at as') c × (c.value ≡ case)
        told = case_of_arms at as' case declaration k

        word : (w : ℕ) × (case_word known.numbers form case ≡ Some w)
        word =
            some_is (case_word known.numbers form case)
            (subst (λ v. is_some (case_word known.numbers form v) ≡ true) told.2
            (each_word definitions results s are fine h item d union on b.0.form u told.0
            (subst (λ l. IsAmong l told.0) (sym cases) told.1)))

        once : AreOnce known.numbers form (arm_cases_from at as')
        once front rear here parts =
            each_once definitions results s are fine h item d union on b.0.form u front rear here
            (cases ∙ parts)

        arm : IsReached s known b.1.cases word.0 declaration
        arm = reached s known form as' [] b.1.cases at case declaration word.0 b.5 k word.1 refl once
