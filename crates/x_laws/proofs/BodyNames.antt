-- A word that declares the name of an enum, a struct or a union names one of the bodies of its definition.
use Rattle.std.proofs.Common.{◌≡◌, ◌≤◌, ◌⊎◌, inl, inr, ℕ, zero, suc, ◌+◌, Bool, true, false, ◌||◌, cond, map}
use Rattle.std.proofs.Common.{List, [], ◌∷◌, ◌++◌, length, Some, refl, sym, ap, subst, ◌∙◌, arith, append-nil}
use Rattle.std.specs.Prelude.{slice_get}
use Rattle.std.specs.List.{IsAmong}
use Rattle.std.specs.Str.{bytes_eq}
use Rattle.std.proofs.lemmas.Option.{same_Some}
use Rattle.std.proofs.lemmas.Slice.Eq.{bytes_eq-Decides}
use Rattle.x_lex.specs.declared.mark.Mark.TheVariants.{CloseBrace, CloseParenthesis, OpenBrace, Semicolon}
use Rattle.x_trees.specs.Tree as tree
use Rattle.x_trees.specs.Words.{Fixed}
use Rattle.x_trees.specs.Gloss.{Position, AsField, AsDiscriminant, AsArm, InTypedef, Inside, Role, Declares}
use Rattle.x_trees.specs.Gloss.{FieldName, Gloss, glossed, gloss, basic_marks, body_kind, leading_roles}
use Rattle.x_trees.specs.Gloss.{lifted_name, lifted_roles, use_by, length_by, named_by, enumerators_by}
use Rattle.x_trees.specs.Gloss.{cases_by, type_by, body_by, declaration_by, declarations_by, arms_by}
use Rattle.x_trees.specs.Gloss.{default_by, told_of}
use Rattle.x_trees.specs.Names.{Declared, declared, declared_at}
use Rattle.x_trees.specs.Spell.{spell_body, spell_cases, spell_declaration, spell_type}
use Rattle.x_trees.specs.declared.names.declared_name.NameKind.{NameKind}
use Rattle.x_trees.specs.declared.names.declared_name.NameKind.TheVariants as kinds
use Rattle.x_trees.proofs.CollectLemmas.{told_append}
use Rattle.x_trees.proofs.GlossLemmas.{long_as, words_cases, words_declaration, words_type as type_spelled}
use Rattle.x_trees.proofs.AmongLemmas.{among_cases, among_first, among_more, among_none, among_parts}
use Rattle.x_trees.proofs.AmongLemmas.{among_rear}
use Rattle.x_outline.specs.Bodies.{BodyAt, arms_at, bodies, bodies_inside, bodies_of_arms}
use Rattle.x_outline.specs.Bodies.{bodies_of_declaration, bodies_of_default, bodies_of_fields, bodies_of_type}
use Rattle.x_outline.specs.Bodies.{default_at, star}
use Rattle.x_laws.proofs.EnumWords.{arms_long}
use Rattle.x_laws.proofs.TypeWords.{definition_told, quiet_cases, quiet_enumerators, quiet_leading}
use Rattle.x_laws.proofs.TypeWords.{quiet_length, quiet_marks, roles_type, words_type}

-- ---- words that name bodies

abbrev pub is_body_kind : NameKind → Bool
is_body_kind kinds.Enum = true
is_body_kind kinds.Struct = true
is_body_kind kinds.Union = true
is_body_kind kind = false

abbrev names_body : List Role → Bool
names_body [] = false
names_body (Declares name kind lifted ∷ roles) = is_body_kind kind || names_body roles
names_body (role ∷ roles) = names_body roles

-- the word, if it names a body
abbrev body_word : ℕ → List Role → List ℕ
body_word at roles = cond (names_body roles) (at ∷ []) []

abbrev body_words : ℕ → List Gloss → List ℕ
body_words at gs = told_of body_word at gs

-- the words that name bodies
abbrev named : List BodyAt → List ℕ
named bs = map (λ b. b.named) bs

named_both : (as' bs : List BodyAt) → named (as' ++ bs) ≡ named as' ++ named bs
named_both [] bs = refl
named_both (a ∷ as') bs = ap (λ l. a.named ∷ l) (named_both as' bs)

-- roles that name a body declare a type
record DeclaresType (roles : List Role) : Type 0 where
  name : List ℕ
  is : roles_type name roles ≡ true

or_true : (a : Bool) → a || true ≡ true
or_true true = refl
or_true false = refl

body_declares : (roles : List Role) → names_body roles ≡ true → DeclaresType roles
body_declares [] h = absurd cc
body_declares (Declares name kinds.Enum lifted ∷ roles) h = record
    { name = name; is = ap (λ b. b || roles_type name roles) ((bytes_eq-Decides name name).1 refl) }
body_declares (Declares name kinds.Struct lifted ∷ roles) h = record
    { name = name; is = ap (λ b. b || roles_type name roles) ((bytes_eq-Decides name name).1 refl) }
body_declares (Declares name kinds.Union lifted ∷ roles) h = record
    { name = name; is = ap (λ b. b || roles_type name roles) ((bytes_eq-Decides name name).1 refl) }
body_declares (Declares name kinds.Typedef lifted ∷ roles) h = let rest = body_declares roles h in record {
  name = rest.name;
  is = ap (λ b. bytes_eq rest.name name || b) rest.is
      ∙ or_true (bytes_eq rest.name name);
}
body_declares (Declares name kinds.Constant lifted ∷ roles) h = let rest = body_declares roles h in record
    { name = rest.name; is = rest.is }
body_declares (Declares name kinds.Program lifted ∷ roles) h = let rest = body_declares roles h in record
    { name = rest.name; is = rest.is }
body_declares (role ∷ roles) h = let rest = body_declares roles h in record { name = rest.name; is = rest.is }

-- words that declare no type name no body
none_named : (at : ℕ) (gs : List Gloss) → ((n : List ℕ) → words_type n gs ≡ false) → body_words at gs ≡ []
none_named at [] h = refl
none_named at (g ∷ gs) h = by (names_body g.roles) refl
    (none_named (at + 1) gs (λ n. or_right (roles_type n g.roles) (words_type n gs) (h n)))
  where
    or_right : (a b : Bool) → a || b ≡ false → b ≡ false
    or_right true b e = absurd cc
    or_right false b e = e

    or_left : (a b : Bool) → a || b ≡ false → a ≡ false
    or_left true b e = e
    or_left false b e = refl

    by : (b : Bool) → names_body g.roles ≡ b → body_words (at + 1) gs ≡ []
        → cond (names_body g.roles) (at ∷ []) [] ++ body_words (at + 1) gs ≡ []
    by true e rest =
        let one = body_declares g.roles e in
        let none = or_left (roles_type one.name g.roles) (words_type one.name gs) (h one.name) in
        let is = one.is in
        absurd cc
    by false e rest = ap (λ b. cond b (at ∷ []) [] ++ body_words (at + 1) gs) e ∙ rest

-- ---- bodies

join : (at behind : ℕ) (xs ys : List Gloss) (as' bs : List BodyAt) → behind ≡ at + length xs
    → body_words at xs ≡ named as' → body_words behind ys ≡ named bs
    → body_words at (xs ++ ys) ≡ named (as' ++ bs)
join at behind xs ys as' bs b h k =
    told_append body_word at xs ys ∙ ap (λ w. body_words at xs ++ body_words w ys) (sym b)
    ∙ (λ i. h i ++ k i) ∙ sym (named_both as' bs)

in_front : (at : ℕ) (xs ys : List Gloss) (bs : List BodyAt) → ((n : List ℕ) → words_type n ys ≡ false)
    → body_words at xs ≡ named bs → body_words at (xs ++ ys) ≡ named bs
in_front at xs ys bs quiet h =
    told_append body_word at xs ys ∙ ap (λ l. body_words at xs ++ l) (none_named (at + length xs) ys quiet)
    ∙ append-nil (body_words at xs) ∙ h

abbrev words_inside : Position → List ℕ → tree.Declaration → List Gloss
words_inside position around d = declaration_by glossed (Some (Inside position around)) d

abbrev type_words : List Role → tree.Shape → List ℕ → tree.DataType → List Gloss
type_words first shape lifted type = type_by glossed first (Some (use_by shape)) (Some lifted) type

-- the word of a declaration's name, where it names the inline type of the declaration
name_named : (k : ℕ) (roles : List Role) (name : List ℕ) (shape : tree.Shape)
    → body_words k (named_by glossed true roles name shape) ≡ body_word (k + star shape) roles
name_named k roles name tree.Plain = append-nil (body_word k roles)
    ∙ (let e : k ≡ k + 0 = omega arith in ap (λ w. body_word w roles) e)
name_named k roles name tree.Optional = append-nil (body_word (k + 1) roles)
name_named k roles name (tree.Array l) =
    ap (λ x. body_word k roles ++ x) (none_named (k + 1) (length_by glossed true l) (λ n. quiet_length n l))
    ∙ append-nil (body_word k roles) ∙ (let e : k ≡ k + 0 = omega arith in ap (λ w. body_word w roles) e)

kind_named : (body : tree.Body) → is_body_kind (body_kind body) ≡ true
kind_named (tree.Enum es) = refl
kind_named (tree.Struct ds) = refl
kind_named (tree.Union d arms other) = refl

-- ---- the words of parts

none_word : (k : ℕ) (roles : List Role) → ((n : List ℕ) → roles_type n roles ≡ false) → body_word k roles ≡ []
none_word k roles h = by (names_body roles) refl
  where
    by : (b : Bool) → names_body roles ≡ b → cond (names_body roles) (k ∷ []) [] ≡ []
    by true e = let one = body_declares roles e in let none = h one.name in let is = one.is in absurd cc
    by false e = ap (λ b. cond b (k ∷ []) []) e

behind_quiet : (at behind : ℕ) (xs ys : List Gloss) (bs : List BodyAt) → behind ≡ at + length xs
    → ((n : List ℕ) → words_type n xs ≡ false) → body_words behind ys ≡ named bs
    → body_words at (xs ++ ys) ≡ named bs
behind_quiet at behind xs ys bs b quiet h =
    told_append body_word at xs ys ∙ ap (λ l. l ++ body_words (at + length xs) ys) (none_named at xs quiet)
    ∙ ap (λ w. body_words w ys) (sym b) ∙ h

-- a declaration of a type, of whose words these are known; its name has roles of its own, which name no body
typed : (at : ℕ) (words : List Gloss) (own : List Role) (lifted : List ℕ) (type : tree.DataType)
    (name : List ℕ) (shape : tree.Shape) → ((r : List Role) → names_body (own ++ r) ≡ names_body r)
    → body_words at (words ++ named_by glossed true (own ++ lifted_roles (Some lifted) type) name shape)
    ≡ body_words at words ++ body_word (at + length words + star shape) (lifted_roles (Some lifted) type)
typed at words own lifted type name shape plain =
    told_append body_word at words (named_by glossed true (own ++ lifted_roles (Some lifted) type) name shape)
    ∙ ap (λ l. body_words at words ++ l)
    (name_named (at + length words) (own ++ lifted_roles (Some lifted) type) name shape
    ∙ ap (λ b. cond b ((at + length words + star shape) ∷ []) []) (plain (lifted_roles (Some lifted) type)))

outside : (at : ℕ) (words : List Gloss) → ((n : List ℕ) → words_type n words ≡ false) → body_words at words
    ++ [] ≡ []
outside at words quiet = append-nil (body_words at words) ∙ none_named at words quiet

-- what stands behind the declaration of a discriminant, and behind that of a default
abbrev behind_switch : List Gloss → List Gloss
behind_switch arms = glossed (Fixed CloseParenthesis) [] ∷ glossed (Fixed OpenBrace) [] ∷ arms

abbrev default_end : List Gloss
default_end = glossed (Fixed Semicolon) [] ∷ glossed (Fixed CloseBrace) [] ∷ []

mutual
  body_named : (at : ℕ) (around : List ℕ) (body : tree.Body)
      → body_words at (body_by glossed (Some around) body) ≡ named (bodies_inside at body)
  body_named at around (tree.Enum es) =
      in_front (at + 1) (enumerators_by glossed true es) _ [] (λ n. refl)
      (none_named (at + 1) (enumerators_by glossed true es) (λ n. quiet_enumerators n es))
  body_named at around (tree.Struct ds) = in_front (at + 1) (declarations_by glossed (Some around) ds) _
      (bodies_of_fields (at + 1) ds) (λ n. refl) (fields_named (at + 1) around ds)
  body_named at around (tree.Union d as' other) =
      let long = long_as (words_inside AsDiscriminant around d)
      (words_declaration (Some (Inside AsDiscriminant around)) d) in
      let all_arms = arms_long around as' in
      let rest = join (arms_at at d) (default_at at d as') (arms_by glossed (Some around) as')
      (default_by glossed (Some around) other) (bodies_of_arms (arms_at at d) as')
      (bodies_of_default (default_at at d as') other) (omega (arith, all_arms))
      (arms_named (arms_at at d) around as') (default_named (default_at at d as') around other) in
      let two : at + 1 + 1 ≡ at + 2 = omega arith in
      let behind : at + 2 + length (spell_declaration d) + 1 + 1 ≡ arms_at at d = omega arith in
      ap (λ w. body_words w (words_inside AsDiscriminant around d
      ++ behind_switch (arms_by glossed (Some around) as' ++ default_by glossed (Some around) other))) two
      ∙ join (at + 2) (at + 2 + length (spell_declaration d)) (words_inside AsDiscriminant around d)
      (behind_switch (arms_by glossed (Some around) as' ++ default_by glossed (Some around) other))
      (bodies_of_declaration (at + 2) d)
      (bodies_of_arms (arms_at at d) as' ++ bodies_of_default (default_at at d as') other)
      (omega (arith, long)) (declaration_named (at + 2) AsDiscriminant around d)
      (ap (λ w. body_words w (arms_by glossed (Some around) as'
      ++ default_by glossed (Some around) other)) behind ∙ rest)

  declaration_named : (at : ℕ) (position : Position) (around : List ℕ) (d : tree.Declaration)
      → body_words at (words_inside position around d) ≡ named (bodies_of_declaration at d)
  declaration_named at position around tree.Void = none_named at (words_inside position around tree.Void)
      (λ n. ap (λ b. b || false) (quiet_leading n (Inside position around) tree.Void))
  declaration_named at position around (tree.Of type name shape) =
      typed_named at (leading_roles (Some (Inside position around)) (tree.Of type name shape))
      (FieldName name ∷ []) (lifted_name around name) type name shape (λ r. refl)
      (λ n. quiet_leading n (Inside position around) (tree.Of type name shape))
  declaration_named at position around (tree.Opaque name l) =
      none_named at (words_inside position around (tree.Opaque name l))
      (λ n. let first = quiet_leading n (Inside position around)
      (tree.Opaque name l) in let rest = quiet_length n l in λ i. first i || rest i)
  declaration_named at position around (tree.String name most) =
      none_named at (words_inside position around (tree.String name most))
      (λ n. let first = quiet_leading n (Inside position around)
      (tree.String name most) in let rest = quiet_length n (tree.Variable most) in λ i. first i || rest i)

  typed_named : (at : ℕ) (first own : List Role) (lifted : List ℕ) (type : tree.DataType) (name : List ℕ)
      (shape : tree.Shape) → ((r : List Role) → names_body (own ++ r) ≡ names_body r)
      → ((n : List ℕ) → roles_type n first ≡ false)
      → body_words at (type_words first shape lifted type
      ++ named_by glossed true (own ++ lifted_roles (Some lifted) type) name shape) ≡ named
      (bodies_of_type (star shape) at type)
  typed_named at first own lifted (tree.Simple b) name shape plain quiet =
      typed at (type_words first shape lifted (tree.Simple b)) own lifted (tree.Simple b) name shape plain
      ∙ outside at (type_words first shape lifted (tree.Simple b))
      (λ n. quiet_marks n first (basic_marks b) (quiet n))
  typed_named at first own lifted (tree.Name t) name shape plain quiet =
      typed at (type_words first shape lifted (tree.Name t)) own lifted (tree.Name t) name shape plain
      ∙ outside at (type_words first shape lifted (tree.Name t)) (λ n. ap (λ b. b || false) (quiet n))
  typed_named at first own lifted (tree.Tagged tag t) name shape plain quiet =
      typed at (type_words first shape lifted (tree.Tagged tag t)) own lifted
      (tree.Tagged tag t) name shape plain
      ∙ outside at (type_words first shape lifted (tree.Tagged tag t)) (λ n. ap (λ b. b || false) (quiet n))
  typed_named at first own lifted (tree.Inline body) name shape plain quiet =
      let words = type_words first shape lifted (tree.Inline body) in
      let long : length words ≡ length (spell_type (tree.Inline body)) = long_as
      (type_words first shape lifted (tree.Inline body))
      (type_spelled first (Some (use_by shape)) (Some lifted) (tree.Inline body)) in
      let at_name : at + length words + star shape ≡ at + 1 + length (spell_body body) + star shape = omega
      (arith, long) in
      typed at (type_words first shape lifted (tree.Inline body)) own lifted
      (tree.Inline body) name shape plain
      ∙ ap (λ l. (l ++ body_words (at + 1) (body_by glossed (Some lifted) body))
      ++ body_word (at + length words + star shape) (lifted_roles (Some lifted) (tree.Inline body)))
      (none_word at first quiet)
      ∙ ap (λ l. l ++ body_word (at + length words + star shape)
      (lifted_roles (Some lifted) (tree.Inline body))) (body_named (at + 1) lifted body)
      ∙ ap (λ b. named (bodies_inside (at + 1) body)
      ++ cond (b || false) ((at + length words + star shape) ∷ []) []) (kind_named body)
      ∙ ap (λ w. named (bodies_inside (at + 1) body) ++ w ∷ []) at_name
      ∙ sym (named_both (bodies_inside (at + 1) body)
      (record { named = at + 1 + length (spell_body body) + star shape; at = at + 1; body = body } ∷ []))

  fields_named : (at : ℕ) (around : List ℕ) (ds : tree.Declarations)
      → body_words at (declarations_by glossed (Some around) ds) ≡ named (bodies_of_fields at ds)
  fields_named at around tree.none = refl
  fields_named at around (tree.more d ds) =
      let long = long_as (words_inside AsField around d)
      (words_declaration (Some (Inside AsField around)) d) in
      join at (at + length (spell_declaration d)) (words_inside AsField around d) _
      (bodies_of_declaration at d) (bodies_of_fields (at + length (spell_declaration d) + 1) ds)
      (omega (arith, long))
      (declaration_named at AsField around d) (fields_named (at + length (spell_declaration d) + 1) around ds)

  arms_named : (at : ℕ) (around : List ℕ) (as' : tree.Arms)
      → body_words at (arms_by glossed (Some around) as') ≡ named (bodies_of_arms at as')
  arms_named at around tree.no_arm = refl
  arms_named at around (tree.arm values d rest) =
      let before = long_as (cases_by glossed true values) (words_cases true values) in
      let long = long_as (words_inside AsArm around d) (words_declaration (Some (Inside AsArm around)) d) in
      behind_quiet at (at + length (spell_cases values)) (cases_by glossed true values) _
      (bodies_of_arms at (tree.arm values d rest)) (omega (arith, before)) (λ n. quiet_cases n values)
      (join (at + length (spell_cases values)) (at + length (spell_cases values) + length
      (spell_declaration d)) (words_inside AsArm around d) _
      (bodies_of_declaration (at + length (spell_cases values)) d)
      (bodies_of_arms (at + length (spell_cases values) + length (spell_declaration d) + 1) rest)
      (omega (arith, long))
      (declaration_named (at + length (spell_cases values)) AsArm around d)
      (arms_named (at + length (spell_cases values) + length (spell_declaration d) + 1) around rest))

  default_named : (at : ℕ) (around : List ℕ) (other : tree.Default)
      → body_words at (default_by glossed (Some around) other) ≡ named (bodies_of_default at other)
  default_named at around tree.no_default = refl
  default_named at around (tree.default d) =
      let two : at + 1 + 1 ≡ at + 2 = omega arith in
      ap (λ w. body_words w (words_inside AsArm around d ++ default_end)) two
      ∙ in_front (at + 2) (words_inside AsArm around d) default_end (bodies_of_declaration (at + 2) d)
      (λ n. refl) (declaration_named (at + 2) AsArm around d)

typedef_named : (at : ℕ) (d : tree.Declaration) → body_words at
    (declaration_by glossed (Some InTypedef) d) ≡ named (bodies_of_declaration at d)
typedef_named at tree.Void = refl
typedef_named at (tree.Of type name shape) = typed_named at [] (Declares name kinds.Typedef false ∷ [])
    (lifted_name name name) type name shape (λ r. refl) (λ n. refl)
typedef_named at (tree.Opaque name l) = none_named (at + 1 + 1) (length_by glossed true l)
    (λ n. quiet_length n l)
typedef_named at (tree.String name most) = none_named (at + 1 + 1)
    (length_by glossed true (tree.Variable most)) (λ n. quiet_length n (tree.Variable most))

-- the words of a definition that name bodies are those of its bodies
all_named : (d : tree.Definition) → body_words 0 (gloss d) ≡ named (bodies d)
all_named (tree.Const name value) = none_named 0 (gloss (tree.Const name value))
    (λ n. definition_told n (tree.Const name value))
all_named (tree.Typedef d) = in_front 1 (declaration_by glossed (Some InTypedef) d)
    (glossed (Fixed Semicolon) [] ∷ []) (bodies_of_declaration 1 d) (λ n. refl) (typedef_named 1 d)
all_named (tree.NewType name body) =
    let inside = in_front 2 (body_by glossed (Some name) body) (glossed (Fixed Semicolon) [] ∷ [])
    (bodies_inside 2 body) (λ n. refl) (body_named 2 name body) in
    ap (λ b. cond (b || false) (1 ∷ []) [] ++ body_words 2
    (body_by glossed (Some name) body ++ glossed (Fixed Semicolon) [] ∷ [])) (kind_named body)
    ∙ ap (λ l. 1 ∷ l) inside
all_named (tree.Program name versions number) = none_named 0 (gloss (tree.Program name versions number))
    (λ n. definition_told n (tree.Program name versions number))

-- ---- a declared body

-- one of the bodies has its name at the word
pub record IsNamedAt (bs : List BodyAt) (word : ℕ) : Type 0 where
  pub body : BodyAt
  pub among : IsAmong bs body
  pub named : body.named ≡ word

named_among : (bs : List BodyAt) (word : ℕ) → IsAmong (named bs) word → IsNamedAt bs word
named_among [] word h = absurd (among_none word h)
named_among (b ∷ bs) word h = by (among_cases b.named word (named bs) h) (λ k. named_among bs word k)
  where
    by : (word ≡ b.named) ⊎ IsAmong (named bs) word → (IsAmong (named bs) word → IsNamedAt bs word)
        → IsNamedAt (b ∷ bs) word
    by (inl e) more = record { body = b; among = among_first b bs; named = sym e }
    by (inr k) more = let one = more k in record
        { body = one.body; among = among_more b one.body bs one.among; named = one.named }

-- where one of the names is declared as a body, the word names one
role_names : (at : ℕ) (roles : List Role) (x : Declared) → IsAmong (declared_at at roles) x
    → is_body_kind x.kind ≡ true → (names_body roles ≡ true) × (x.word ≡ at)
role_names at [] x h e = absurd (among_none x h)
role_names at (Declares name kind lifted ∷ roles) x h e =
    by (among_cases (record { name = name; word = at; kind = kind; lifted = lifted }) x
    (declared_at at roles) h) (λ k. role_names at roles x k e)
  where
    by : (x ≡ record { name = name; word = at; kind = kind; lifted = lifted })
        ⊎ IsAmong (declared_at at roles) x
        → (IsAmong (declared_at at roles) x → (names_body roles ≡ true) × (x.word ≡ at))
        → (is_body_kind kind || names_body roles ≡ true) × (x.word ≡ at)
    by (inl same) more = (
      ap (λ b. b || names_body roles) (sym (ap (λ y. is_body_kind y.kind) same) ∙ e),
      ap
          (λ y. y.word) same,
    )
    by (inr k) more = let rest = more k in (
      ap (λ b. is_body_kind kind || b) rest.0
          ∙ or_true (is_body_kind kind),
      rest.1,
    )
role_names at (role ∷ roles) x h e = role_names at roles x h e

word_names : (at : ℕ) (gs : List Gloss) (x : Declared) → IsAmong (told_of declared_at at gs) x
    → is_body_kind x.kind ≡ true → IsAmong (body_words at gs) x.word
word_names at [] x h e = absurd (among_none x h)
word_names at (g ∷ gs) x h e = by (among_parts (declared_at at g.roles)
    (told_of declared_at (at + 1) gs) x h) (λ k. word_names (at + 1) gs x k e)
  where
    by : IsAmong (declared_at at g.roles) x ⊎ IsAmong (told_of declared_at (at + 1) gs) x
        → (IsAmong (told_of declared_at (at + 1) gs) x → IsAmong (body_words (at + 1) gs) x.word)
        → IsAmong (body_word at g.roles ++ body_words (at + 1) gs) x.word
    by (inl k) more =
        let one = role_names at g.roles x k e in
        subst (λ b. IsAmong (cond b (at ∷ []) [] ++ body_words (at + 1) gs) x.word) (sym one.0)
        (subst (λ w. IsAmong (at ∷ body_words (at + 1) gs) w) (sym one.1)
        (among_first at (body_words (at + 1) gs)))
    by (inr k) more = among_rear (body_word at g.roles) (body_words (at + 1) gs) x.word (more k)

pub get_among : {X : Type 0} (xs : List X) (i : ℕ) (x : X) → slice_get xs i ≡ Some x → IsAmong xs x
get_among [] i x e = absurd cc
get_among (y ∷ ys) zero x e = subst (λ z. IsAmong (y ∷ ys) z) (same_Some y x e) (among_first y ys)
get_among (y ∷ ys) (suc i) x e = among_more y x ys (get_among ys i x e)

-- a name that is declared as an enum, a struct or a union names one of the bodies
pub body_of : (d : tree.Definition) (place : ℕ) (x : Declared) → slice_get (declared d) place ≡ Some x
    → is_body_kind x.kind ≡ true → IsNamedAt (bodies d) x.word
body_of d place x h e = named_among (bodies d) x.word
    (subst (λ l. IsAmong l x.word) (all_named d) (word_names 0 (gloss d) x
    (get_among (declared d) place x h) e))

-- ---- one body at a word

-- each is the word or behind it, and behind those before it
abbrev IsUp : ℕ → List ℕ → Type 0
IsUp low [] = Unit {0}
IsUp low (w ∷ ws) = (low ≤ w) × IsUp (suc w) ws

lower : (low high : ℕ) (ws : List ℕ) → low ≤ high → IsUp high ws → IsUp low ws
lower low high [] le h = tt
lower low high (w ∷ ws) le h = let at = h.0 in (omega (arith, le, at), h.1)

words_up : (at : ℕ) (gs : List Gloss) → IsUp at (body_words at gs)
words_up at [] = tt
words_up at (g ∷ gs) = by (names_body g.roles) (words_up (at + 1) gs)
  where
    by : (b : Bool) → IsUp (at + 1) (body_words (at + 1) gs)
        → IsUp at (cond b (at ∷ []) [] ++ body_words (at + 1) gs)
    by true h = (omega arith, lower (suc at) (at + 1) (body_words (at + 1) gs) (omega arith) h)
    by false h = lower at (at + 1) (body_words (at + 1) gs) (omega arith) h

up_from : (low : ℕ) (bs : List BodyAt) (b : BodyAt) → IsUp low (named bs) → IsAmong bs b → low ≤ b.named
up_from low [] b h k = absurd (among_none b k)
up_from low (a ∷ bs) b h k = by (among_cases a b bs k) (λ j. up_from (suc a.named) bs b h.1 j)
  where
    low_word : low ≤ a.named
    low_word = h.0

    by : (b ≡ a) ⊎ IsAmong bs b → (IsAmong bs b → suc a.named ≤ b.named) → low ≤ b.named
    by (inl same) more = let at : b.named ≡ a.named = ap (λ x. x.named) same in omega (arith, at, low_word)
    by (inr j) more = let later = more j in omega (arith, later, low_word)

one_up : (low : ℕ) (bs : List BodyAt) (b c : BodyAt) → IsUp low (named bs) → IsAmong bs b → IsAmong bs c
    → c.named ≡ b.named → c ≡ b
one_up low [] b c up h k e = absurd (among_none b h)
one_up low (a ∷ bs) b c up h k e =
    by (among_cases a b bs h) (among_cases a c bs k) (λ i j. one_up (suc a.named) bs b c up.1 i j e)
  where
    later : (x : BodyAt) → IsAmong bs x → suc a.named ≤ x.named
    later x j = up_from (suc a.named) bs x up.1 j

    by : (b ≡ a) ⊎ IsAmong bs b → (c ≡ a) ⊎ IsAmong bs c → (IsAmong bs b → IsAmong bs c → c ≡ b) → c ≡ b
    by (inl p) (inl q) more = q ∙ sym p
    by (inl p) (inr j) more =
        let at : b.named ≡ a.named = ap (λ x. x.named) p in
        let lt = later c j in
        absurd (omega (arith, at, lt, e))
    by (inr i) (inl q) more =
        let at : c.named ≡ a.named = ap (λ x. x.named) q in
        let lt = later b i in
        absurd (omega (arith, at, lt, e))
    by (inr i) (inr j) more = more i j

-- a word names one of the bodies of a definition
pub one_body : (d : tree.Definition) (b c : BodyAt) → IsAmong (bodies d) b → IsAmong (bodies d) c
    → c.named ≡ b.named → c ≡ b
one_body d b c h k e = one_up 0 (bodies d) b c (subst (IsUp 0) (all_named d) (words_up 0 (gloss d))) h k e
