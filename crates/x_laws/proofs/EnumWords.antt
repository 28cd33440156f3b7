-- The enumerators of a definition as its words tell them, in their order.
use Rattle.std.proofs.Common.{◌≡◌, ◌<◌, ◌≤◌, ℕ, zero, suc, ◌+◌, Bool, true, false, ◌||◌, List, [], ◌∷◌, ◌++◌}
use Rattle.std.proofs.Common.{length, Option, None, Some, refl, sym, ap, subst, ◌∙◌, arith, append_assoc}
use Rattle.std.proofs.Common.{append-nil}
use Rattle.std.specs.Prelude.{slice_get}
use Rattle.std.proofs.lemmas.List.{length-append}
use Rattle.std.proofs.lemmas.Option.{same_Some}
use Rattle.std.specs.Str.{bytes_eq}
use Rattle.std.proofs.lemmas.Slice.Eq.{bytes_eq-Decides}
use Rattle.x_lex.specs.declared.mark.Mark.TheVariants.{Semicolon, Comma}
use Rattle.x_trees.specs.Tree as tree
use Rattle.x_trees.specs.Words.{Word, Fixed, Name}
use Rattle.x_trees.specs.Gloss.{spell_value, value_roles, EnumeratorValue, Position, AsField, AsDiscriminant}
use Rattle.x_trees.specs.Gloss.{AsArm, InTypedef, Inside, Role, Declares, EnumeratorName, Mentions, Gloss}
use Rattle.x_trees.specs.Gloss.{glossed, gloss, leading_roles, lifted_name, use_by, given_by, enumerator_by}
use Rattle.x_trees.specs.Gloss.{other_enumerators_by, enumerators_by, cases_by, type_by, body_by}
use Rattle.x_trees.specs.Gloss.{declaration_by, declarations_by, arms_by, default_by, told_of}
use Rattle.x_trees.specs.Names.{Declared, declared, declared_at}
use Rattle.x_trees.specs.Spell.{spell_arms, spell_cases, spell_declaration, spell_enumerator}
use Rattle.x_trees.specs.declared.names.declared_name.NameKind.TheVariants as kinds
use Rattle.x_trees.proofs.GlossLemmas.{long_as, words_cases, words_declaration, words_enumerator}
use Rattle.x_outline.specs.Bodies.{BodyAt, EnumeratorAt, arms_at, bodies_inside, bodies_of_arms}
use Rattle.x_outline.specs.Bodies.{bodies_of_declaration, bodies_of_default, bodies_of_fields, bodies_of_type}
use Rattle.x_outline.specs.Bodies.{default_at, enumerators, enumerators_from, enumerators_in, enumerators_of}
use Rattle.x_outline.specs.Bodies.{star}

-- ---- what words tell of enumerators

abbrev pub role_uses : List ℕ → Role → Bool
role_uses n (Mentions name usage tag) = bytes_eq n name
role_uses n role = false

abbrev pub roles_use : List ℕ → List Role → Bool
roles_use n [] = false
roles_use n (r ∷ rs) = role_uses n r || roles_use n rs

-- one of the words uses the name
abbrev pub words_use : List ℕ → List Gloss → Bool
words_use n [] = false
words_use n (g ∷ gs) = roles_use n g.roles || words_use n gs

-- the value of an enumerator is a word of its own
pub record IsValueAt (gs : List Gloss) (index : ℕ) (v : tree.Value) : Type 0 where
  pub gloss_at : Gloss
  pub there : slice_get gs index ≡ Some gloss_at
  pub roles : gloss_at.roles ≡ value_roles (EnumeratorValue v) v

-- the value of an enumerator, if it has one, stands there
abbrev pub GivenAt : List Gloss → ℕ → Option tree.Value → Type 0
GivenAt gs index None = Unit {0}
GivenAt gs index (Some v) = IsValueAt gs index v

-- a name that is the value of an enumerator is used by one of the words
abbrev pub GivenIn : List Gloss → Option tree.Value → Type 0
GivenIn gs None = Unit {0}
GivenIn gs (Some (tree.Number text)) = Unit {0}
GivenIn gs (Some (tree.Named n)) = words_use n gs ≡ true

-- the words, of which the first has the number `at`, declare the enumerator at its word
pub record IsTold (gs : List Gloss) (at : ℕ) (e : EnumeratorAt) : Type 0 where
  pub index : ℕ
  pub within : index < length gs
  pub word_is : e.word ≡ at + index
  pub gloss_at : Gloss
  pub there : slice_get gs index ≡ Some gloss_at
  pub rest : List Role
  pub roles : gloss_at.roles ≡ Declares e.name kinds.Constant false ∷ rest
  pub value : GivenAt gs (index + 2) e.given

abbrev pub AllTold : List Gloss → ℕ → List EnumeratorAt → Type 0
AllTold gs at [] = Unit {0}
AllTold gs at (e ∷ es) = IsTold gs at e × AllTold gs at es

-- each stands at the word or behind it, and behind those before it
abbrev pub Ascends : ℕ → List EnumeratorAt → Type 0
Ascends low [] = Unit {0}
Ascends low (e ∷ es) = (low ≤ e.word) × Ascends (suc e.word) es

pub record Told (gs : List Gloss) (at : ℕ) (es : List EnumeratorAt) : Type 0 where
  pub all : AllTold gs at es
  pub ascend : Ascends at es

-- ---- parts

or_assoc : (a b c : Bool) → a || (b || c) ≡ (a || b) || c
or_assoc true b c = refl
or_assoc false b c = refl

or_left : (a b : Bool) → a ≡ true → a || b ≡ true
or_left true b e = refl
or_left false b e = absurd cc

or_right : (a b : Bool) → b ≡ true → a || b ≡ true
or_right true b e = refl
or_right false b e = e

use_append : (n : List ℕ) (xs ys : List Gloss) → words_use n (xs ++ ys) ≡ words_use n xs || words_use n ys
use_append n [] ys = refl
use_append n (g ∷ gs) ys = ap (λ b. roles_use n g.roles || b) (use_append n gs ys)
    ∙ or_assoc (roles_use n g.roles) (words_use n gs) (words_use n ys)

pub get_front : {X : Type 0} (xs ys : List X) (i : ℕ) (x : X) → slice_get xs i ≡ Some x
    → slice_get (xs ++ ys) i ≡ Some x
get_front [] ys i x h = absurd cc
get_front (y ∷ xs) ys zero x h = h
get_front (y ∷ xs) ys (suc i) x h = get_front xs ys i x h

pub get_rear : {X : Type 0} (xs ys : List X) (i j : ℕ) (x : X) → j ≡ length xs + i → slice_get ys i ≡ Some x
    → slice_get (xs ++ ys) j ≡ Some x
get_rear [] ys i j x e h = let same : j ≡ i = omega (arith, e) in ap (slice_get ys) same ∙ h
get_rear (y ∷ xs) ys i zero x e h = absurd (omega (arith, e))
get_rear (y ∷ xs) ys i (suc j) x e h = get_rear xs ys i j x (omega (arith, e)) h

given_front : (xs ys : List Gloss) (index : ℕ) (v : Option tree.Value) → GivenAt xs index v
    → GivenAt (xs ++ ys) index v
given_front xs ys index None h = tt
given_front xs ys index (Some v) h = record
    { gloss_at = h.gloss_at; there = get_front xs ys index h.gloss_at h.there; roles = h.roles }

given_rear : (xs ys : List Gloss) (index behind : ℕ) (v : Option tree.Value) → behind ≡ length xs + index
    → GivenAt ys index v → GivenAt (xs ++ ys) behind v
given_rear xs ys index behind None e h = tt
given_rear xs ys index behind (Some v) e h = record
    { gloss_at = h.gloss_at; there = get_rear xs ys index behind h.gloss_at e h.there; roles = h.roles }

value_used : (n : List ℕ) (gs : List Gloss) (index : ℕ) (g : Gloss) → slice_get gs index ≡ Some g
    → roles_use n g.roles ≡ true → words_use n gs ≡ true
value_used n [] index g there used = absurd cc
value_used n (x ∷ gs) zero g there used = or_left (roles_use n x.roles) (words_use n gs)
    (ap (λ y. roles_use n y.roles) (same_Some x g there) ∙ used)
value_used n (x ∷ gs) (suc index) g there used = or_right (roles_use n x.roles) (words_use n gs)
    (value_used n gs index g there used)

pub given_used : (gs : List Gloss) (index : ℕ) (v : Option tree.Value) → GivenAt gs index v → GivenIn gs v
given_used gs index None h = tt
given_used gs index (Some (tree.Number text)) h = tt
given_used gs index (Some (tree.Named n)) h =
    value_used n gs index h.gloss_at h.there (ap (roles_use n) h.roles
    ∙ or_left (bytes_eq n n) false ((bytes_eq-Decides n n).1 refl))

front_told : (xs ys : List Gloss) (at : ℕ) (e : EnumeratorAt) → IsTold xs at e → IsTold (xs ++ ys) at e
front_told xs ys at e h = record {
  index = h.index;
  within = (let lt = h.within in let long = length-append xs ys in omega (arith, lt, long));
  word_is = h.word_is;
  gloss_at = h.gloss_at;
  there = get_front xs ys h.index h.gloss_at h.there;
  rest = h.rest;
  roles = h.roles;
  value = given_front xs ys (h.index + 2) e.given h.value;
}

rear_told : (xs ys : List Gloss) (at behind : ℕ) (e : EnumeratorAt) → behind ≡ at + length xs
    → IsTold ys behind e → IsTold (xs ++ ys) at e
rear_told xs ys at behind e b h = record {
  index = length xs + h.index;
  within = (let lt = h.within in let long = length-append xs ys in omega (arith, lt, long));
  word_is = (let w = h.word_is in omega (arith, w, b));
  gloss_at = h.gloss_at;
  there = get_rear xs ys h.index (length xs + h.index) h.gloss_at refl h.there;
  rest = h.rest;
  roles = h.roles;
  value = given_rear xs ys (h.index + 2) (length xs + h.index + 2) e.given (omega arith) h.value;
}

all_front : (xs ys : List Gloss) (at : ℕ) (es : List EnumeratorAt) → AllTold xs at es
    → AllTold (xs ++ ys) at es
all_front xs ys at [] h = tt
all_front xs ys at (e ∷ es) h = (front_told xs ys at e h.0, all_front xs ys at es h.1)

all_rear : (xs ys : List Gloss) (at behind : ℕ) (es : List EnumeratorAt) → behind ≡ at + length xs
    → AllTold ys behind es → AllTold (xs ++ ys) at es
all_rear xs ys at behind [] b h = tt
all_rear xs ys at behind (e ∷ es) b h = (rear_told xs ys at behind e b h.0, all_rear xs ys at behind es b h.1)

all_both : (gs : List Gloss) (at : ℕ) (es fs : List EnumeratorAt) → AllTold gs at es → AllTold gs at fs
    → AllTold gs at (es ++ fs)
all_both gs at [] fs h k = k
all_both gs at (e ∷ es) fs h k = (h.0, all_both gs at es fs h.1 k)

lower : (low high : ℕ) (es : List EnumeratorAt) → low ≤ high → Ascends high es → Ascends low es
lower low high [] le h = tt
lower low high (e ∷ es) le h = let at = h.0 in (omega (arith, le, at), h.1)

ascend_both : (xs : List Gloss) (at low high : ℕ) (es fs : List EnumeratorAt) → at + length xs ≤ high
    → low ≤ high → AllTold xs at es → Ascends low es → Ascends high fs → Ascends low (es ++ fs)
ascend_both xs at low high [] fs end le told h k = lower low high fs le k
ascend_both xs at low high (e ∷ es) fs end le told h k =
    let one = told.0.within in
    let word = told.0.word_is in
    (h.0, ascend_both xs at (suc e.word) high es fs end (omega (arith, one, word, end)) told.1 h.1 k)

-- words one behind another, with the enumerators that each part tells
join : (xs ys : List Gloss) (at behind : ℕ) (es fs : List EnumeratorAt) → behind ≡ at + length xs
    → Told xs at es → Told ys behind fs → Told (xs ++ ys) at (es ++ fs)
join xs ys at behind es fs b h k = record {
  all = all_both (xs ++ ys) at es fs (all_front xs ys at es h.all) (all_rear xs ys at behind fs b k.all);
  ascend = ascend_both xs at at behind es fs (omega (arith, b)) (omega (arith, b)) h.all h.ascend k.ascend;
}

none : (gs : List Gloss) (at : ℕ) → Told gs at []
none gs at = record { all = tt; ascend = tt }

in_front : (xs ys : List Gloss) (at : ℕ) (es : List EnumeratorAt) → Told xs at es → Told (xs ++ ys) at es
in_front xs ys at es h = record { all = all_front xs ys at es h.all; ascend = h.ascend }

behind_all : (xs ys : List Gloss) (at behind : ℕ) (es : List EnumeratorAt) → behind ≡ at + length xs
    → Told ys behind es → Told (xs ++ ys) at es
behind_all xs ys at behind es b h = record
    { all = all_rear xs ys at behind es b h.all; ascend = lower at behind es (omega (arith, b)) h.ascend }

-- one word in front
next : (g : Gloss) (gs : List Gloss) (at behind : ℕ) (es : List EnumeratorAt) → behind ≡ at + 1
    → Told gs behind es → Told (g ∷ gs) at es
next g gs at behind es b h = behind_all (g ∷ []) gs at behind es b h

pub in_order : (as' bs : List BodyAt) → enumerators_in (as' ++ bs) ≡ enumerators_in as' ++ enumerators_in bs
in_order [] bs = refl
in_order (a ∷ as') bs = ap (λ l. enumerators_of a ++ l) (in_order as' bs)
    ∙ sym (append_assoc (enumerators_of a) (enumerators_in as') (enumerators_in bs))

join_bodies : (xs ys : List Gloss) (at behind : ℕ) (as' bs : List BodyAt) → behind ≡ at + length xs
    → Told xs at (enumerators_in as') → Told ys behind (enumerators_in bs)
    → Told (xs ++ ys) at (enumerators_in (as' ++ bs))
join_bodies xs ys at behind as' bs b h k = subst (λ l. Told (xs ++ ys) at l) (sym (in_order as' bs))
    (join xs ys at behind (enumerators_in as') (enumerators_in bs) b h k)

-- ---- enums

given_told : (roles : List Role) (word : Word) (v : Option tree.Value)
    → GivenAt (glossed word roles ∷ given_by glossed true v) 2 v
given_told roles word None = tt
given_told roles word (Some v) = record {
  gloss_at = glossed (spell_value v)
      (value_roles (EnumeratorValue v) v);
  there = refl;
  roles = refl;
}

enumerator_told : (first : Bool) (at : ℕ) (e : tree.Enumerator)
    → Told (enumerator_by glossed true e) at (record
    { word = at; name = e.name; given = e.value; is_first = first } ∷ [])
enumerator_told first at e = record {
  all = (
    record {
      index = 0;
      within = omega arith;
      word_is = omega arith;
      gloss_at = glossed (Name e.name) (Declares e.name kinds.Constant false ∷ EnumeratorName e.name ∷ []);
      there = refl;
      rest = EnumeratorName e.name ∷ [];
      roles = refl;
      value = given_told (Declares e.name kinds.Constant false ∷ EnumeratorName e.name ∷ [])
          (Name e.name) e.value;
    },
    tt,
  );
  ascend = (omega arith, tt);
}

enumerator_long : (e : tree.Enumerator) → length (enumerator_by glossed true e) ≡ length (spell_enumerator e)
enumerator_long e = long_as (enumerator_by glossed true e) (words_enumerator true e)

others_told : (at behind : ℕ) (es : List tree.Enumerator) → behind ≡ at + 1
    → Told (other_enumerators_by glossed true es) at (enumerators_from false behind es)
others_told at behind [] b = none [] at
others_told at behind (e ∷ es) b =
    let long = enumerator_long e in
    let rest = others_told (behind + length (spell_enumerator e))
    (behind + length (spell_enumerator e) + 1) es refl in
    next (glossed (Fixed Comma) []) (enumerator_by glossed true e
    ++ other_enumerators_by glossed true es) at behind (enumerators_from false behind (e ∷ es)) b
    (join (enumerator_by glossed true e) (other_enumerators_by glossed true es) behind
    (behind + length (spell_enumerator e))
    (record { word = behind; name = e.name; given = e.value; is_first = false } ∷ [])
    (enumerators_from false (behind + length (spell_enumerator e) + 1) es)
    (omega (arith, long)) (enumerator_told false behind e) rest)

enumerators_told : (at : ℕ) (es : List tree.Enumerator)
    → Told (enumerators_by glossed true es) at (enumerators_from true at es)
enumerators_told at [] = none [] at
enumerators_told at (e ∷ es) =
    let long = enumerator_long e in
    let rest = others_told (at + length (spell_enumerator e))
    (at + length (spell_enumerator e) + 1) es refl in
    join (enumerator_by glossed true e) (other_enumerators_by glossed true es) at
    (at + length (spell_enumerator e))
    (record { word = at; name = e.name; given = e.value; is_first = true } ∷ [])
    (enumerators_from false (at + length (spell_enumerator e) + 1) es)
    (omega (arith, long)) (enumerator_told true at e) rest

-- ---- bodies

-- the enumerators of a body and of those inside it
abbrev pub own_enumerators : ℕ → tree.Body → List EnumeratorAt
own_enumerators at (tree.Enum es) = enumerators_from true (at + 1) es
own_enumerators at body = enumerators_in (bodies_inside at body)

pub inline_enumerators : (before at : ℕ) (body : tree.Body)
    → enumerators_in (bodies_of_type before at (tree.Inline body)) ≡ own_enumerators (at + 1) body
inline_enumerators before at (tree.Enum es) = append-nil (enumerators_from true (at + 1 + 1) es)
inline_enumerators before at (tree.Struct ds) = in_order (bodies_inside (at + 1) (tree.Struct ds)) _
    ∙ append-nil (enumerators_in (bodies_inside (at + 1) (tree.Struct ds)))
inline_enumerators before at (tree.Union d arms other) =
    in_order (bodies_inside (at + 1) (tree.Union d arms other)) _
    ∙ append-nil (enumerators_in (bodies_inside (at + 1) (tree.Union d arms other)))

pub new_enumerators : (body : tree.Body) → enumerators_in
    (record { named = 1; at = 2; body = body } ∷ bodies_inside 2 body) ≡ own_enumerators 2 body
new_enumerators (tree.Enum es) = append-nil (enumerators_from true (2 + 1) es)
new_enumerators (tree.Struct ds) = refl
new_enumerators (tree.Union d arms other) = refl

abbrev words_inside : Position → List ℕ → tree.Declaration → List Gloss
words_inside position around d = declaration_by glossed (Some (Inside position around)) d

declaration_long : (position : Position) (around : List ℕ) (d : tree.Declaration)
    → length (words_inside position around d) ≡ length (spell_declaration d)
declaration_long position around d = long_as (words_inside position around d)
    (words_declaration (Some (Inside position around)) d)

pub arms_long : (around : List ℕ) (as' : tree.Arms)
    → length (arms_by glossed (Some around) as') ≡ length (spell_arms as')
arms_long around tree.no_arm = refl
arms_long around (tree.arm values d rest) =
    let cases = long_as (cases_by glossed true values) (words_cases true values) in
    let declaration = declaration_long AsArm around d in
    let others = arms_long around rest in
    length-append (cases_by glossed true values) (words_inside AsArm around d
    ++ glossed (Fixed Semicolon) [] ∷ arms_by glossed (Some around) rest)
    ∙ (let inner = length-append (words_inside AsArm around d)
    (glossed (Fixed Semicolon) [] ∷ arms_by glossed (Some around) rest) in
    let outer = length-append (spell_cases values)
    (spell_declaration d ++ Fixed Semicolon ∷ spell_arms rest) in
    let last = length-append (spell_declaration d) (Fixed Semicolon ∷ spell_arms rest) in
    omega (arith, cases, declaration, others, inner, outer, last))

mutual
  body_told : (at : ℕ) (around : List ℕ) (body : tree.Body)
      → Told (body_by glossed (Some around) body) at (own_enumerators at body)
  body_told at around (tree.Enum es) =
      next _ _ at (at + 1) (enumerators_from true (at + 1) es) refl
      (in_front (enumerators_by glossed true es) _ (at + 1) (enumerators_from true (at + 1) es)
      (enumerators_told (at + 1) es))
  body_told at around (tree.Struct ds) =
      next _ _ at (at + 1) (enumerators_in (bodies_of_fields (at + 1) ds)) refl
      (in_front (declarations_by glossed (Some around) ds) _ (at + 1)
      (enumerators_in (bodies_of_fields (at + 1) ds)) (fields_told (at + 1) around ds))
  body_told at around (tree.Union d as' other) =
      let long = declaration_long AsDiscriminant around d in
      let all_arms = arms_long around as' in
      let inside = bodies_of_arms (arms_at at d) as' ++ bodies_of_default (default_at at d as') other in
      let rest = join_bodies (arms_by glossed (Some around) as') (default_by glossed (Some around) other)
      (arms_at at d) (default_at at d as')
      (bodies_of_arms (arms_at at d) as') (bodies_of_default (default_at at d as') other)
      (omega (arith, all_arms))
      (arms_told (arms_at at d) around as') (default_told (default_at at d as') around other) in
      let behind = next _ _ (at + 2 + length (spell_declaration d))
      (at + 2 + length (spell_declaration d) + 1) (enumerators_in inside) refl
      (next _ _ (at + 2 + length (spell_declaration d) + 1) (arms_at at d) (enumerators_in inside)
      (omega arith) rest) in
      next _ _ at (at + 1) (enumerators_in (bodies_of_declaration (at + 2) d ++ inside)) refl
      (next _ _ (at + 1) (at + 2) (enumerators_in (bodies_of_declaration (at + 2) d ++ inside)) (omega arith)
      (join_bodies (words_inside AsDiscriminant around d) _ (at + 2) (at + 2 + length (spell_declaration d))
      (bodies_of_declaration (at + 2) d) inside (omega (arith, long))
      (declaration_told (at + 2) AsDiscriminant around d) behind))

  type_told : (at : ℕ) (first : List Role) (shape : tree.Shape) (lifted : List ℕ) (type : tree.DataType)
      → Told (type_by glossed first (Some (use_by shape)) (Some lifted) type) at
      (enumerators_in (bodies_of_type (star shape) at type))
  type_told at first shape lifted (tree.Simple b) = none _ at
  type_told at first shape lifted (tree.Name t) = none _ at
  type_told at first shape lifted (tree.Tagged tag t) = none _ at
  type_told at first shape lifted (tree.Inline body) =
      subst (λ l. Told (type_by glossed first (Some (use_by shape)) (Some lifted) (tree.Inline body)) at l)
      (sym (inline_enumerators (star shape) at body))
      (next _ (body_by glossed (Some lifted) body) at (at + 1) (own_enumerators (at + 1) body) refl
      (body_told (at + 1) lifted body))

  declaration_told : (at : ℕ) (position : Position) (around : List ℕ) (d : tree.Declaration)
      → Told (words_inside position around d) at (enumerators_in (bodies_of_declaration at d))
  declaration_told at position around tree.Void = none _ at
  declaration_told at position around (tree.Of type name shape) =
      let first = leading_roles (Some (Inside position around)) (tree.Of type name shape) in
      in_front (type_by glossed first (Some (use_by shape)) (Some (lifted_name around name)) type) _ at
      (enumerators_in (bodies_of_type (star shape) at type))
      (type_told at first shape (lifted_name around name) type)
  declaration_told at position around (tree.Opaque name length) = none _ at
  declaration_told at position around (tree.String name most) = none _ at

  fields_told : (at : ℕ) (around : List ℕ) (ds : tree.Declarations)
      → Told (declarations_by glossed (Some around) ds) at (enumerators_in (bodies_of_fields at ds))
  fields_told at around tree.none = none _ at
  fields_told at around (tree.more d ds) =
      let long = declaration_long AsField around d in
      join_bodies (words_inside AsField around d) _ at (at + length (spell_declaration d))
      (bodies_of_declaration at d) (bodies_of_fields (at + length (spell_declaration d) + 1) ds)
      (omega (arith, long))
      (declaration_told at AsField around d)
      (next _ _ (at + length (spell_declaration d)) (at + length (spell_declaration d) + 1)
      (enumerators_in (bodies_of_fields (at + length (spell_declaration d) + 1) ds)) refl
      (fields_told (at + length (spell_declaration d) + 1) around ds))

  arms_told : (at : ℕ) (around : List ℕ) (as' : tree.Arms)
      → Told (arms_by glossed (Some around) as') at (enumerators_in (bodies_of_arms at as'))
  arms_told at around tree.no_arm = none _ at
  arms_told at around (tree.arm values d rest) =
      let cases = long_as (cases_by glossed true values) (words_cases true values) in
      let long = declaration_long AsArm around d in
      let start = at + length (spell_cases values) in
      behind_all (cases_by glossed true values) _ at (at + length (spell_cases values))
      (enumerators_in (bodies_of_arms at (tree.arm values d rest))) (omega (arith, cases))
      (join_bodies (words_inside AsArm around d) _ (at + length (spell_cases values))
      (at + length (spell_cases values) + length (spell_declaration d))
      (bodies_of_declaration (at + length (spell_cases values)) d)
      (bodies_of_arms (at + length (spell_cases values) + length (spell_declaration d) + 1) rest)
      (omega (arith, long))
      (declaration_told (at + length (spell_cases values)) AsArm around d)
      (next _ _ (at + length (spell_cases values) + length (spell_declaration d))
      (at + length (spell_cases values) + length (spell_declaration d) + 1)
      (enumerators_in (bodies_of_arms (at + length (spell_cases values) + length
      (spell_declaration d) + 1) rest)) refl
      (arms_told (at + length (spell_cases values) + length (spell_declaration d) + 1) around rest)))

  default_told : (at : ℕ) (around : List ℕ) (other : tree.Default)
      → Told (default_by glossed (Some around) other) at (enumerators_in (bodies_of_default at other))
  default_told at around tree.no_default = none _ at
  default_told at around (tree.default d) =
      next _ _ at (at + 1) (enumerators_in (bodies_of_declaration (at + 2) d)) refl
      (next _ _ (at + 1) (at + 2) (enumerators_in (bodies_of_declaration (at + 2) d)) (omega arith)
      (in_front (words_inside AsArm around d) _ (at + 2) (enumerators_in (bodies_of_declaration (at + 2) d))
      (declaration_told (at + 2) AsArm around d)))

typedef_told : (at : ℕ) (d : tree.Declaration) → Told (declaration_by glossed (Some InTypedef) d) at
    (enumerators_in (bodies_of_declaration at d))
typedef_told at tree.Void = none _ at
typedef_told at (tree.Of type name shape) =
    in_front (type_by glossed [] (Some (use_by shape)) (Some (lifted_name name name)) type) _ at
    (enumerators_in (bodies_of_type (star shape) at type))
    (type_told at [] shape (lifted_name name name) type)
typedef_told at (tree.Opaque name length) = none _ at
typedef_told at (tree.String name most) = none _ at

-- the words of a definition tell its enumerators
pub enums_told : (d : tree.Definition) → Told (gloss d) 0 (enumerators d)
enums_told (tree.Const name value) = none _ 0
enums_told (tree.Typedef d) =
    next _ _ 0 1 (enumerators_in (bodies_of_declaration 1 d)) refl
    (in_front (declaration_by glossed (Some InTypedef) d) _ 1 (enumerators_in (bodies_of_declaration 1 d))
    (typedef_told 1 d))
enums_told (tree.NewType name body) =
    subst (λ l. Told (gloss (tree.NewType name body)) 0 l) (sym (new_enumerators body))
    (next _ _ 0 1 (own_enumerators 2 body) refl (next _ _ 1 2 (own_enumerators 2 body) refl
    (in_front (body_by glossed (Some name) body) _ 2 (own_enumerators 2 body) (body_told 2 name body))))
enums_told (tree.Program name versions number) = none _ 0

-- ---- as declared names

-- a name among those that words declare
pub record IsDeclaredAt (xs : List Declared) (name : List ℕ) (word : ℕ) : Type 0 where
  pub place : ℕ
  pub there : slice_get xs place ≡ Some
      (record { name = name; word = word; kind = kinds.Constant; lifted = false })

word_declares : (at index : ℕ) (gs : List Gloss) (g : Gloss) (name : List ℕ) (rest : List Role)
    → slice_get gs index ≡ Some g → g.roles ≡ Declares name kinds.Constant false ∷ rest
    → IsDeclaredAt (told_of declared_at at gs) name (at + index)
word_declares at index [] g name rest h e = absurd cc
word_declares at zero (x ∷ gs) g name rest h e =
    let roles : x.roles ≡ Declares name kinds.Constant false ∷ rest = ap (λ y. y.roles) (same_Some x g h)
    ∙ e in
    let zero_more : at ≡ at + 0 = omega arith in
    subst (λ w. IsDeclaredAt (told_of declared_at at (x ∷ gs)) name w) zero_more
    (subst (λ rs. IsDeclaredAt (declared_at at rs ++ told_of declared_at (at + 1) gs) name at) (sym roles)
    (record { place = 0; there = refl }))
word_declares at (suc index) (x ∷ gs) g name rest h e =
    let more = word_declares (at + 1) index gs g name rest h e in
    let word : at + 1 + index ≡ at + suc index = omega arith in
    record {
      place = length (declared_at at x.roles) + more.place;
      there = get_rear (declared_at at x.roles) (told_of declared_at (at + 1) gs) more.place
          (length (declared_at at x.roles) + more.place) _ refl more.there
          ∙ ap (λ w. Some (record { name = name; word = w; kind = kinds.Constant; lifted = false })) word;
    }

pub told_declared : (d : tree.Definition) (e : EnumeratorAt) → IsTold (gloss d) 0 e
    → IsDeclaredAt (declared d) e.name e.word
told_declared d e h =
    let word : 0 + h.index ≡ e.word = let w = h.word_is in omega (arith, w) in
    subst (λ w. IsDeclaredAt (declared d) e.name w) word
    (word_declares 0 h.index (gloss d) h.gloss_at e.name h.rest h.there h.roles)
