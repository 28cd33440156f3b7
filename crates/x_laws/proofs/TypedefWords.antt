-- Where the bodies of a definition stand among its words, and which typedefs stand for them.
use Rattle.std.proofs.Common.{◌≡◌, ◌⊎◌, inl, inr, ℕ, zero, suc, ◌+◌, Bool, true, false, List, [], ◌∷◌}
use Rattle.std.proofs.Common.{◌++◌, length, None, Some, refl, sym, ap, subst, ◌∙◌, arith}
use Rattle.std.specs.Prelude.{slice_get}
use Rattle.std.specs.List.{IsAmong}
use Rattle.std.proofs.lemmas.Option.{same_Some}
use Rattle.x_lex.specs.declared.mark.Mark.{Mark}
use Rattle.x_lex.specs.declared.mark.Mark.TheVariants.{CloseBrace, CloseParenthesis, OpenBrace, Semicolon}
use Rattle.x_lex.specs.declared.mark.Mark.TheVariants as marks
use Rattle.x_trees.specs.Tree as tree
use Rattle.x_trees.specs.Declarations.{name_of}
use Rattle.x_trees.specs.Words.{Fixed, Name}
use Rattle.x_trees.specs.Gloss.{Position, AsField, AsDiscriminant, AsArm, InTypedef, Inside, Role}
use Rattle.x_trees.specs.Gloss.{Declares, CaseValue, Discriminant, FieldName, Mentions, VoidDeclaration}
use Rattle.x_trees.specs.Gloss.{Gloss}
use Rattle.x_trees.specs.Gloss.{glossed, gloss, basic_marks, body_kind, body_mark, leading_roles, lifted_name}
use Rattle.x_trees.specs.Gloss.{lifted_roles, marks_by, spell_value, tag_mark, use_by, value_roles, named_by}
use Rattle.x_trees.specs.Gloss.{cases_by, type_by, body_by, declaration_by, declarations_by, arms_by}
use Rattle.x_trees.specs.Gloss.{default_by, told_of}
use Rattle.x_trees.specs.Names.{Declared, declared, declared_at}
use Rattle.x_trees.specs.Mentions.{mentioned}
use Rattle.x_trees.specs.Spell.{spell_body, spell_cases, spell_declaration, spell_type}
use Rattle.x_trees.specs.declared.names.declared_name.NameKind.{NameKind}
use Rattle.x_trees.specs.declared.names.declared_name.NameKind.TheVariants as kinds
use Rattle.x_trees.specs.declared.names.mention.Use.TheVariants as uses
use Rattle.x_trees.specs.declared.trees.declaration.Basic.{Basic}
use Rattle.x_trees.specs.declared.trees.declaration.Basic.TheVariants as basics
use Rattle.x_trees.specs.declared.trees.declaration.Tag.{Tag}
use Rattle.x_trees.proofs.AmongLemmas.{among_cases, among_first, among_front, among_more, among_none}
use Rattle.x_trees.proofs.AmongLemmas.{among_parts, among_rear}
use Rattle.x_trees.proofs.GlossLemmas.{long_as, words_cases, words_declaration, words_type as type_spelled}
use Rattle.x_outline.specs.Bodies.{BodyAt, ValueAt, arm_cases_from, arms_at, bodies, bodies_inside}
use Rattle.x_outline.specs.Bodies.{bodies_of_arms, bodies_of_declaration, bodies_of_default, bodies_of_fields}
use Rattle.x_outline.specs.Bodies.{bodies_of_type, cases_from, cases_of, default_at, star}
use Rattle.x_rules.specs.Rules.{HasRole, IsSwitch}
use Rattle.x_schema.specs.SchemaOf.{as_typedef, typedefs, typedefs_inside, typedefs_of, typedefs_of_type}
use Rattle.x_schema.specs.SchemaOf.{typedefs_of_fields, typedefs_of_arms, typedefs_of_default}
use Rattle.x_laws.proofs.EnumWords.{arms_long, get_front, get_rear}
use Rattle.x_laws.proofs.Paired.{word_mentions}

-- ---- words among others

-- the words stand among these, from the place on
pub record StandsAt (gs : List Gloss) (at : ℕ) (xs : List Gloss) : Type 0 where
  pub get : (i : ℕ) (g : Gloss) → slice_get xs i ≡ Some g → slice_get gs (at + i) ≡ Some g

moved : {gs : List Gloss} {at : ℕ} {xs : List Gloss} (now : ℕ) → now ≡ at → StandsAt gs at xs
    → StandsAt gs now xs
moved {gs} {at} {xs} now e h = subst (λ k. StandsAt gs k xs) (sym e) h

all : (gs : List Gloss) → StandsAt gs 0 gs
all gs = record { get = λ i g e. let at : 0 + i ≡ i = omega arith in ap (slice_get gs) at ∙ e }

front : {gs : List Gloss} {at : ℕ} (xs ys : List Gloss) → StandsAt gs at (xs ++ ys) → StandsAt gs at xs
front xs ys h = record { get = λ i g e. h.get i g (get_front xs ys i g e) }

rear : {gs : List Gloss} {at : ℕ} (behind : ℕ) (xs ys : List Gloss) → behind ≡ at + length xs
    → StandsAt gs at (xs ++ ys) → StandsAt gs behind ys
rear {gs} {at} behind xs ys b h = record {
  get = λ i g e.
      let same : at + (length xs + i) ≡ behind + i = omega (arith, b) in
      sym (ap (slice_get gs) same) ∙ h.get (length xs + i) g (get_rear xs ys i (length xs + i) g refl e);
}

next : {gs : List Gloss} {at : ℕ} (x : Gloss) (xs : List Gloss) → StandsAt gs at (x ∷ xs)
    → StandsAt gs (at + 1) xs
next {gs} {at} x xs h = record {
  get = λ i g e. let same : at + suc i ≡ at + 1 + i = omega arith in sym (ap (slice_get gs) same)
      ∙ h.get (suc i) g e;
}

-- the word declares the name so
pub record DeclaresAt (gs : List Gloss) (word : ℕ) (name : List ℕ) (kind : NameKind)
    (lifted : Bool) : Type 0 where
  pub gloss_at : Gloss
  pub there : slice_get gs word ≡ Some gloss_at
  pub has : IsAmong gloss_at.roles (Declares name kind lifted)

-- the name of a declaration
name_there : {gs : List Gloss} {at : ℕ} (roles : List Role) (name : List ℕ) (shape : tree.Shape)
    → StandsAt gs at (named_by glossed true roles name shape)
    → slice_get gs (at + star shape) ≡ Some (glossed (Name name) roles)
name_there roles name tree.Plain h = h.get 0 (glossed (Name name) roles) refl
name_there roles name tree.Optional h = h.get 1 (glossed (Name name) roles) refl
name_there roles name (tree.Array l) h = h.get 0 (glossed (Name name) roles) refl

-- ---- bodies, and the typedefs that stand for them

-- the typedef stands for the body, whose words stand there, and whose name is declared there
pub record IsTold (gs : List Gloss) (b : BodyAt) (t : tree.Declaration) : Type 0 where
  pub name : List ℕ
  pub lifted : Bool
  pub is : t ≡ as_typedef name b.body
  pub stands : StandsAt gs b.at (body_by glossed (Some name) b.body)
  pub declares : DeclaresAt gs b.named name (body_kind b.body) lifted

-- one by one
abbrev pub AreTold : List Gloss → List BodyAt → List tree.Declaration → Type 0
AreTold gs [] [] = Unit {0}
AreTold gs [] (t ∷ ts) = ⊥
AreTold gs (b ∷ bs) [] = ⊥
AreTold gs (b ∷ bs) (t ∷ ts) = IsTold gs b t × AreTold gs bs ts

both : (gs : List Gloss) (as' bs : List BodyAt) (ss ts : List tree.Declaration) → AreTold gs as' ss
    → AreTold gs bs ts → AreTold gs (as' ++ bs) (ss ++ ts)
both gs [] bs [] ts h k = k
both gs [] bs (s ∷ ss) ts h k = absurd h
both gs (a ∷ as') bs [] ts h k = absurd h
both gs (a ∷ as') bs (s ∷ ss) ts h k = (h.0, both gs as' bs ss ts h.1 k)

abbrev words_inside : Position → List ℕ → tree.Declaration → List Gloss
words_inside position around d = declaration_by glossed (Some (Inside position around)) d

abbrev type_words : List Role → tree.Shape → List ℕ → tree.DataType → List Gloss
type_words first shape lifted type = type_by glossed first (Some (use_by shape)) (Some lifted) type

declaration_long : (position : Position) (around : List ℕ) (d : tree.Declaration)
    → length (words_inside position around d) ≡ length (spell_declaration d)
declaration_long position around d =
    long_as (words_inside position around d) (words_declaration (Some (Inside position around)) d)

-- what stands behind the declaration of a discriminant
abbrev behind_switch : List ℕ → tree.Arms → tree.Default → List Gloss
behind_switch around as' other =
    glossed (Fixed CloseParenthesis) [] ∷ glossed (Fixed OpenBrace) []
    ∷ (arms_by glossed (Some around) as' ++ default_by glossed (Some around) other)

abbrev all_arms : List ℕ → tree.Arms → tree.Default → List Gloss
all_arms around as' other = arms_by glossed (Some around) as' ++ default_by glossed (Some around) other

-- the words of a discriminant, and what stands behind them
switch_stands : {gs : List Gloss} (at : ℕ) (around : List ℕ) (d : tree.Declaration) (as' : tree.Arms)
    (other : tree.Default) → StandsAt gs at (body_by glossed (Some around) (tree.Union d as' other))
    → StandsAt gs (at + 2) (words_inside AsDiscriminant around d ++ behind_switch around as' other)
switch_stands at around d as' other h =
    let words = words_inside AsDiscriminant around d ++ behind_switch around as' other in
    let one = next (glossed (Fixed marks.Switch) []) (glossed (Fixed marks.OpenParenthesis) [] ∷ words) h in
    moved (at + 2) (omega arith) (next (glossed (Fixed marks.OpenParenthesis) []) words one)

arms_stand : {gs : List Gloss} (at : ℕ) (around : List ℕ) (d : tree.Declaration) (as' : tree.Arms)
    (other : tree.Default) → StandsAt gs at (body_by glossed (Some around) (tree.Union d as' other))
    → StandsAt gs (arms_at at d) (all_arms around as' other)
arms_stand at around d as' other h =
    let words = words_inside AsDiscriminant around d in
    let long = declaration_long AsDiscriminant around d in
    let behind =
    rear (at + 2 + length (spell_declaration d)) words (behind_switch around as' other) (omega (arith, long))
    (switch_stands at around d as' other h) in
    let two =
    next (glossed (Fixed OpenBrace) []) (all_arms around as' other)
    (next (glossed (Fixed CloseParenthesis) []) (glossed (Fixed OpenBrace) [] ∷ all_arms around as' other)
    behind) in
    moved (arms_at at d) (omega arith) two

-- the words of an arm behind its cases, and those of the arms behind it
arm_stands : {gs : List Gloss} (at : ℕ) (around : List ℕ) (values : List tree.Value) (d : tree.Declaration)
    (rest : tree.Arms) → StandsAt gs at (arms_by glossed (Some around) (tree.arm values d rest))
    → StandsAt gs (at + length (spell_cases values))
    (words_inside AsArm around d ++ glossed (Fixed Semicolon) [] ∷ arms_by glossed (Some around) rest)
arm_stands at around values d rest h =
    let long = long_as (cases_by glossed true values) (words_cases true values) in
    rear (at + length (spell_cases values)) (cases_by glossed true values)
    (words_inside AsArm around d ++ glossed (Fixed Semicolon) [] ∷ arms_by glossed (Some around) rest)
    (omega (arith, long)) h

rest_stands : {gs : List Gloss} (at : ℕ) (around : List ℕ) (values : List tree.Value) (d : tree.Declaration)
    (rest : tree.Arms) → StandsAt gs at (arms_by glossed (Some around) (tree.arm values d rest))
    → StandsAt gs (at + length (spell_cases values) + length (spell_declaration d) + 1)
    (arms_by glossed (Some around) rest)
rest_stands at around values d rest h =
    let long = declaration_long AsArm around d in
    next (glossed (Fixed Semicolon) []) (arms_by glossed (Some around) rest)
    (rear (at + length (spell_cases values) + length (spell_declaration d)) (words_inside AsArm around d)
    (glossed (Fixed Semicolon) [] ∷ arms_by glossed (Some around) rest) (omega (arith, long))
    (arm_stands at around values d rest h))

mutual
  body_told : (gs : List Gloss) (at : ℕ) (around : List ℕ) (body : tree.Body)
      → StandsAt gs at (body_by glossed (Some around) body)
      → AreTold gs (bodies_inside at body) (typedefs_inside around body)
  body_told gs at around (tree.Enum es) h = tt
  body_told gs at around (tree.Struct ds) h =
      fields_told gs (at + 1) around ds
      (front (declarations_by glossed (Some around) ds) (glossed (Fixed CloseBrace) [] ∷ [])
      (next (glossed (Fixed OpenBrace) [])
      (declarations_by glossed (Some around) ds ++ glossed (Fixed CloseBrace) [] ∷ []) h))
  body_told gs at around (tree.Union d as' other) h =
      let long = arms_long around as' in
      let arms = arms_stand at around d as' other h in
      both gs (bodies_of_declaration (at + 2) d)
      (bodies_of_arms (arms_at at d) as' ++ bodies_of_default (default_at at d as') other)
      (typedefs_of around d) (typedefs_of_arms around as' ++ typedefs_of_default around other)
      (declaration_told gs (at + 2) AsDiscriminant around d
      (front (words_inside AsDiscriminant around d) (behind_switch around as' other)
      (switch_stands at around d as' other h)))
      (both gs (bodies_of_arms (arms_at at d) as') (bodies_of_default (default_at at d as') other)
      (typedefs_of_arms around as') (typedefs_of_default around other)
      (arms_told gs (arms_at at d) around as'
      (front (arms_by glossed (Some around) as') (default_by glossed (Some around) other) arms))
      (default_told gs (default_at at d as') around other
      (rear (default_at at d as') (arms_by glossed (Some around) as')
      (default_by glossed (Some around) other) (omega (arith, long)) arms)))

  -- a declaration of a type; its name has roles of its own beside that of the inline type
  typed_told : (gs : List Gloss) (at : ℕ) (first own : List Role) (lifted : List ℕ) (type : tree.DataType)
      (name : List ℕ) (shape : tree.Shape)
      → StandsAt gs at
      (type_words first shape lifted type
      ++ named_by glossed true (own ++ lifted_roles (Some lifted) type) name shape)
      → AreTold gs (bodies_of_type (star shape) at type) (typedefs_of_type lifted type)
  typed_told gs at first own lifted (tree.Simple b) name shape h = tt
  typed_told gs at first own lifted (tree.Name t) name shape h = tt
  typed_told gs at first own lifted (tree.Tagged tag t) name shape h = tt
  typed_told gs at first own lifted (tree.Inline body) name shape h =
      let words = type_words first shape lifted (tree.Inline body) in
      let roles = own ++ lifted_roles (Some lifted) (tree.Inline body) in
      let long : length words ≡ length (spell_type (tree.Inline body)) =
      long_as words (type_spelled first (Some (use_by shape)) (Some lifted) (tree.Inline body)) in
      let inside =
      next (glossed (Fixed (body_mark body)) first) (body_by glossed (Some lifted) body)
      (front words (named_by glossed true roles name shape) h) in
      let behind = rear (at + length words) words (named_by glossed true roles name shape) refl h in
      let word : at + length words + star shape ≡ at + 1 + length (spell_body body) + star shape =
      omega (arith, long) in
      let b : BodyAt =
      record { named = at + 1 + length (spell_body body) + star shape; at = at + 1; body = body } in
      both gs (bodies_inside (at + 1) body) (b ∷ []) (typedefs_inside lifted body)
      (as_typedef lifted body ∷ []) (body_told gs (at + 1) lifted body inside) (
        record {
          name = lifted;
          lifted = true;
          is = refl;
          stands = inside;
          declares = record {
            gloss_at = glossed (Name name) roles;
            there = sym (ap (slice_get gs) word) ∙ name_there roles name shape behind;
            has = among_rear own (Declares lifted (body_kind body) true ∷ [])
                (Declares lifted (body_kind body) true)
                (among_first (Declares lifted (body_kind body) true) []);
          };
        },
        tt,
      )

  declaration_told : (gs : List Gloss) (at : ℕ) (position : Position) (around : List ℕ) (d : tree.Declaration)
      → StandsAt gs at (words_inside position around d)
      → AreTold gs (bodies_of_declaration at d) (typedefs_of around d)
  declaration_told gs at position around tree.Void h = tt
  declaration_told gs at position around (tree.Of type name shape) h =
      typed_told gs at (leading_roles (Some (Inside position around)) (tree.Of type name shape))
      (FieldName name ∷ []) (lifted_name around name) type name shape h
  declaration_told gs at position around (tree.Opaque name l) h = tt
  declaration_told gs at position around (tree.String name most) h = tt

  fields_told : (gs : List Gloss) (at : ℕ) (around : List ℕ) (ds : tree.Declarations)
      → StandsAt gs at (declarations_by glossed (Some around) ds)
      → AreTold gs (bodies_of_fields at ds) (typedefs_of_fields around ds)
  fields_told gs at around tree.none h = tt
  fields_told gs at around (tree.more d ds) h =
      let long = declaration_long AsField around d in
      let words = words_inside AsField around d in
      let others = declarations_by glossed (Some around) ds in
      let behind = at + length (spell_declaration d) in
      both gs (bodies_of_declaration at d) (bodies_of_fields (behind + 1) ds) (typedefs_of around d)
      (typedefs_of_fields around ds)
      (declaration_told gs at AsField around d (front words (glossed (Fixed Semicolon) [] ∷ others) h))
      (fields_told gs (behind + 1) around ds
      (next (glossed (Fixed Semicolon) []) others
      (rear behind words (glossed (Fixed Semicolon) [] ∷ others) (omega (arith, long)) h)))

  arms_told : (gs : List Gloss) (at : ℕ) (around : List ℕ) (as' : tree.Arms)
      → StandsAt gs at (arms_by glossed (Some around) as')
      → AreTold gs (bodies_of_arms at as') (typedefs_of_arms around as')
  arms_told gs at around tree.no_arm h = tt
  arms_told gs at around (tree.arm values d rest) h =
      let start = at + length (spell_cases values) in
      let behind = start + length (spell_declaration d) in
      let one = arm_stands at around values d rest h in
      both gs (bodies_of_declaration start d) (bodies_of_arms (behind + 1) rest) (typedefs_of around d)
      (typedefs_of_arms around rest)
      (declaration_told gs start AsArm around d
      (front (words_inside AsArm around d)
      (glossed (Fixed Semicolon) [] ∷ arms_by glossed (Some around) rest) one))
      (arms_told gs (behind + 1) around rest (rest_stands at around values d rest h))

  default_told : (gs : List Gloss) (at : ℕ) (around : List ℕ) (other : tree.Default)
      → StandsAt gs at (default_by glossed (Some around) other)
      → AreTold gs (bodies_of_default at other) (typedefs_of_default around other)
  default_told gs at around tree.no_default h = tt
  default_told gs at around (tree.default d) h =
      let end = glossed (Fixed Semicolon) [] ∷ glossed (Fixed CloseBrace) [] ∷ [] in
      let words = words_inside AsArm around d ++ end in
      let one = next (glossed (Fixed marks.Default) []) (glossed (Fixed marks.Colon) [] ∷ words) h in
      let two = moved (at + 2) (omega arith) (next (glossed (Fixed marks.Colon) []) words one) in
      declaration_told gs (at + 2) AsArm around d (front (words_inside AsArm around d) end two)

-- ---- a definition

typedef_told : (gs : List Gloss) (at : ℕ) (d : tree.Declaration)
    → StandsAt gs at (declaration_by glossed (Some InTypedef) d)
    → AreTold gs (bodies_of_declaration at d) (typedefs_of (name_of d) d)
typedef_told gs at tree.Void h = tt
typedef_told gs at (tree.Of type name shape) h =
    typed_told gs at [] (Declares name kinds.Typedef false ∷ []) (lifted_name name name) type name shape h
typedef_told gs at (tree.Opaque name l) h = tt
typedef_told gs at (tree.String name most) h = tt

-- what a typedef declares is declared as one by a word
record IsOwnName (gs : List Gloss) (name : List ℕ) : Type 0 where
  word : ℕ
  declares : DeclaresAt gs word name kinds.Typedef false

own_name : (gs : List Gloss) (at : ℕ) (d : tree.Declaration) → (d ≡ tree.Void → ⊥)
    → StandsAt gs at (declaration_by glossed (Some InTypedef) d) → IsOwnName gs (name_of d)
own_name gs at tree.Void some h = absurd (some refl)
own_name gs at (tree.Of type name shape) some h =
    let own = Declares name kinds.Typedef false in
    let words = type_words [] shape (lifted_name name name) type in
    let lifted = lifted_roles (Some (lifted_name name name)) type in
    let behind = rear (at + length words) words (named_by glossed true (own ∷ lifted) name shape) refl h in
    record {
      word = at + length words + star shape;
      declares = record {
        gloss_at = glossed (Name name) (own ∷ lifted);
        there = name_there (own ∷ lifted) name shape behind;
        has = among_first own lifted;
      };
    }
own_name gs at (tree.Opaque name l) some h =
    let own = Declares name kinds.Typedef false in
    record {
      word = at + 1;
      declares = record {
        gloss_at = glossed (Name name) (own ∷ []);
        there = h.get 1 (glossed (Name name) (own ∷ [])) refl;
        has = among_first own [];
      };
    }
own_name gs at (tree.String name most) some h =
    let own = Declares name kinds.Typedef false in
    record {
      word = at + 1;
      declares = record {
        gloss_at = glossed (Name name) (own ∷ []);
        there = h.get 1 (glossed (Name name) (own ∷ [])) refl;
        has = among_first own [];
      };
    }

-- the words of a typedef, and those of a body with a name
typedef_stands : (d : tree.Declaration)
    → StandsAt (gloss (tree.Typedef d)) 1 (declaration_by glossed (Some InTypedef) d)
typedef_stands d =
    let words = declaration_by glossed (Some InTypedef) d in
    let end = glossed (Fixed Semicolon) [] ∷ [] in
    front words end
    (moved 1 (omega arith)
    (next (glossed (Fixed marks.Typedef) []) (words ++ end) (all (gloss (tree.Typedef d)))))

new_stands : (name : List ℕ) (body : tree.Body)
    → StandsAt (gloss (tree.NewType name body)) 2 (body_by glossed (Some name) body)
new_stands name body =
    let words = body_by glossed (Some name) body in
    let end = glossed (Fixed Semicolon) [] ∷ [] in
    let named = glossed (Name name) (Declares name (body_kind body) false ∷ []) in
    front words end
    (moved 2 (omega arith)
    (next named (words ++ end)
    (next (glossed (Fixed (body_mark body)) []) (named ∷ (words ++ end))
    (all (gloss (tree.NewType name body))))))

abbrev new_body : tree.Body → BodyAt
new_body body = record { named = 1; at = 2; body = body }

new_told : (name : List ℕ) (body : tree.Body)
    → IsTold (gloss (tree.NewType name body)) (new_body body) (as_typedef name body)
new_told name body = record {
  name = name;
  lifted = false;
  is = refl;
  stands = new_stands name body;
  declares = record {
    gloss_at = glossed (Name name) (Declares name (body_kind body) false ∷ []);
    there = refl;
    has = among_first (Declares name (body_kind body) false) [];
  };
}

-- one of the bodies, for which the typedef stands
record HasBody (gs : List Gloss) (bs : List BodyAt) (t : tree.Declaration) : Type 0 where
  body : BodyAt
  among : IsAmong bs body
  told : IsTold gs body t

body_of : (gs : List Gloss) (bs : List BodyAt) (ts : List tree.Declaration) (t : tree.Declaration)
    → AreTold gs bs ts → IsAmong ts t → HasBody gs bs t
body_of gs [] [] t h k = absurd (among_none t k)
body_of gs [] (s ∷ ts) t h k = absurd h
body_of gs (b ∷ bs) [] t h k = absurd h
body_of gs (b ∷ bs) (s ∷ ts) t h k = by (among_cases s t ts k) (λ j. body_of gs bs ts t h.1 j)
  where
    by : (t ≡ s) ⊎ IsAmong ts t → (IsAmong ts t → HasBody gs bs t) → HasBody gs (b ∷ bs) t
    by (inl same) more =
        record { body = b; among = among_first b bs; told = subst (IsTold gs b) (sym same) h.0 }
    by (inr j) more =
        let one = more j in
        record { body = one.body; among = among_more b one.body bs one.among; told = one.told }

-- a typedef that stands for one of the bodies
pub record HasTypedef (gs : List Gloss) (b : BodyAt) : Type 0 where
  pub typedef : tree.Declaration
  pub told : IsTold gs b typedef

typedef_of : (gs : List Gloss) (bs : List BodyAt) (ts : List tree.Declaration) (b : BodyAt)
    → AreTold gs bs ts → IsAmong bs b → HasTypedef gs b
typedef_of gs [] [] b h k = absurd (among_none b k)
typedef_of gs [] (t ∷ ts) b h k = absurd h
typedef_of gs (a ∷ bs) [] b h k = absurd h
typedef_of gs (a ∷ bs) (t ∷ ts) b h k = by (among_cases a b bs k) (λ j. typedef_of gs bs ts b h.1 j)
  where
    by : (b ≡ a) ⊎ IsAmong bs b → (IsAmong bs b → HasTypedef gs b) → HasTypedef gs b
    by (inl same) more = record { typedef = t; told = subst (λ x. IsTold gs x t) (sym same) h.0 }
    by (inr j) more = more j

-- each body of a definition is in the type of a typedef
pub body_typedef : (d : tree.Definition) (b : BodyAt) → IsAmong (bodies d) b → HasTypedef (gloss d) b
body_typedef (tree.Const name value) b h = absurd (among_none b h)
body_typedef (tree.Typedef d) b h =
    typedef_of (gloss (tree.Typedef d)) (bodies_of_declaration 1 d) (typedefs_of (name_of d) d) b
    (typedef_told (gloss (tree.Typedef d)) 1 d (typedef_stands d)) h
body_typedef (tree.NewType name body) b h = by (among_cases (new_body body) b (bodies_inside 2 body) h)
  where
    by : (b ≡ new_body body) ⊎ IsAmong (bodies_inside 2 body) b
        → HasTypedef (gloss (tree.NewType name body)) b
    by (inl same) = record {
      typedef = as_typedef name body;
      told = subst (λ x. IsTold (gloss (tree.NewType name body)) x (as_typedef name body)) (sym same)
          (new_told name body);
    }
    by (inr k) =
        typedef_of (gloss (tree.NewType name body)) (bodies_inside 2 body) (typedefs_inside name body) b
        (body_told (gloss (tree.NewType name body)) 2 name body (new_stands name body)) k
body_typedef (tree.Program name versions number) b h = absurd (among_none b h)

-- what a typedef of a definition is: it stands for one of the bodies, or is what the definition declares
pub data IsMade (d : tree.Definition) (t : tree.Declaration) : Type 0 where
  of_body : (b : BodyAt) → IsAmong (bodies d) b → IsTold (gloss d) b t → IsMade d t
  as_defined : d ≡ tree.Typedef t → (word : ℕ) → DeclaresAt (gloss d) word (name_of t) kinds.Typedef false
      → IsMade d t

defined_made : (d t : tree.Declaration) → (d ≡ tree.Void → ⊥)
    → IsAmong (typedefs_of (name_of d) d ++ d ∷ []) t → IsMade (tree.Typedef d) t
defined_made d t some h = by (among_parts (typedefs_of (name_of d) d) (d ∷ []) t h)
  where
    gs : List Gloss
    gs = gloss (tree.Typedef d)

    own : t ≡ d → IsMade (tree.Typedef d) t
    own same =
        let name = own_name gs 1 d some (typedef_stands d) in
        subst (IsMade (tree.Typedef d)) (sym same) (as_defined refl name.word name.declares)

    last : (t ≡ d) ⊎ IsAmong [] t → IsMade (tree.Typedef d) t
    last (inl same) = own same
    last (inr k) = absurd (among_none t k)

    by : IsAmong (typedefs_of (name_of d) d) t ⊎ IsAmong (d ∷ []) t → IsMade (tree.Typedef d) t
    by (inl k) =
        let one =
        body_of gs (bodies_of_declaration 1 d) (typedefs_of (name_of d) d) t
        (typedef_told gs 1 d (typedef_stands d)) k in
        of_body one.body one.among one.told
    by (inr k) = last (among_cases d t [] k)

new_made : (name : List ℕ) (body : tree.Body) (t : tree.Declaration)
    → IsAmong (typedefs_inside name body ++ as_typedef name body ∷ []) t → IsMade (tree.NewType name body) t
new_made name body t h = by (among_parts (typedefs_inside name body) (as_typedef name body ∷ []) t h)
  where
    gs : List Gloss
    gs = gloss (tree.NewType name body)

    last : (t ≡ as_typedef name body) ⊎ IsAmong [] t → IsMade (tree.NewType name body) t
    last (inl same) =
        subst (IsMade (tree.NewType name body)) (sym same)
        (of_body (new_body body) (among_first (new_body body) (bodies_inside 2 body)) (new_told name body))
    last (inr k) = absurd (among_none t k)

    by : IsAmong (typedefs_inside name body) t ⊎ IsAmong (as_typedef name body ∷ []) t
        → IsMade (tree.NewType name body) t
    by (inl k) =
        let one =
        body_of gs (bodies_inside 2 body) (typedefs_inside name body) t
        (body_told gs 2 name body (new_stands name body)) k in
        of_body one.body (among_more (new_body body) one.body (bodies_inside 2 body) one.among) one.told
    by (inr k) = last (among_cases (as_typedef name body) t [] k)

pub typedef_made : (d : tree.Definition) (t : tree.Declaration) → IsAmong (typedefs (Some d)) t → IsMade d t
typedef_made (tree.Const name value) t h = absurd (among_none t h)
typedef_made (tree.Typedef tree.Void) t h = absurd (among_none t h)
typedef_made (tree.Typedef (tree.Of type name shape)) t h =
    defined_made (tree.Of type name shape) t (λ e. absurd cc) h
typedef_made (tree.Typedef (tree.Opaque name l)) t h = defined_made (tree.Opaque name l) t (λ e. absurd cc) h
typedef_made (tree.Typedef (tree.String name most)) t h =
    defined_made (tree.String name most) t (λ e. absurd cc) h
typedef_made (tree.NewType name body) t h = new_made name body t h
typedef_made (tree.Program name versions number) t h = absurd (among_none t h)

-- ---- the names that words declare

more_declared : (at : ℕ) (role : Role) (roles : List Role) (x : Declared) → IsAmong (declared_at at roles) x
    → IsAmong (declared_at at (role ∷ roles)) x
more_declared at (Declares name kind lifted) roles x h =
    among_more (record { name = name; word = at; kind = kind; lifted = lifted }) x (declared_at at roles) h
more_declared at role roles x h = h

role_declares : (at : ℕ) (roles : List Role) (name : List ℕ) (kind : NameKind) (lifted : Bool)
    → IsAmong roles (Declares name kind lifted)
    → IsAmong (declared_at at roles) (record { name = name; word = at; kind = kind; lifted = lifted })
role_declares at [] name kind lifted h = absurd (among_none (Declares name kind lifted) h)
role_declares at (role ∷ roles) name kind lifted h =
    by (among_cases role (Declares name kind lifted) roles h)
    (λ k. role_declares at roles name kind lifted k)
  where
    x : Declared
    x = record { name = name; word = at; kind = kind; lifted = lifted }

    by : (Declares name kind lifted ≡ role) ⊎ IsAmong roles (Declares name kind lifted)
        → (IsAmong roles (Declares name kind lifted) → IsAmong (declared_at at roles) x)
        → IsAmong (declared_at at (role ∷ roles)) x
    by (inl same) more =
        subst (λ r. IsAmong (declared_at at (r ∷ roles)) x) same (among_first x (declared_at at roles))
    by (inr k) more = more_declared at role roles x (more k)

word_declares : (at index : ℕ) (gs : List Gloss) (g : Gloss) (name : List ℕ) (kind : NameKind) (lifted : Bool)
    → slice_get gs index ≡ Some g → IsAmong g.roles (Declares name kind lifted)
    → IsAmong (told_of declared_at at gs)
    (record { name = name; word = at + index; kind = kind; lifted = lifted })
word_declares at index [] g name kind lifted there h = absurd cc
word_declares at zero (x ∷ gs) g name kind lifted there h =
    let word : at ≡ at + 0 = omega arith in
    let here = subst (λ y. IsAmong y.roles (Declares name kind lifted)) (sym (same_Some x g there)) h in
    subst
    (λ w. IsAmong (told_of declared_at at (x ∷ gs))
    (record { name = name; word = w; kind = kind; lifted = lifted })) word
    (among_front (declared_at at x.roles) (told_of declared_at (at + 1) gs)
    (record { name = name; word = at; kind = kind; lifted = lifted })
    (role_declares at x.roles name kind lifted here))
word_declares at (suc index) (x ∷ gs) g name kind lifted there h =
    let word : at + 1 + index ≡ at + suc index = omega arith in
    among_rear (declared_at at x.roles) (told_of declared_at (at + 1) gs)
    (record { name = name; word = at + suc index; kind = kind; lifted = lifted })
    (subst
    (λ w. IsAmong (told_of declared_at (at + 1) gs)
    (record { name = name; word = w; kind = kind; lifted = lifted })) word
    (word_declares (at + 1) index gs g name kind lifted there h))

-- what is among the elements of a list stands at a place
get_place : {X : Type 0} (xs : List X) (x : X) → IsAmong xs x → (place : ℕ) × (slice_get xs place ≡ Some x)
get_place [] x h = absurd (among_none x h)
get_place (y ∷ ys) x h = by (among_cases y x ys h) (λ k. get_place ys x k)
  where
    by : (x ≡ y) ⊎ IsAmong ys x → (IsAmong ys x → (place : ℕ) × (slice_get ys place ≡ Some x))
        → (place : ℕ) × (slice_get (y ∷ ys) place ≡ Some x)
    by (inl same) more = (0, ap Some (sym same))
    by (inr k) more = let rest = more k in (suc rest.0, rest.1)

-- a name that a word declares stands at a place among those that the definition declares
pub declared_place : (d : tree.Definition) (word : ℕ) (name : List ℕ) (kind : NameKind) (lifted : Bool)
    → DeclaresAt (gloss d) word name kind lifted
    → (place : ℕ) × (slice_get (declared d) place
    ≡ Some (record { name = name; word = word; kind = kind; lifted = lifted }))
declared_place d word name kind lifted h =
    let at : 0 + word ≡ word = omega arith in
    get_place (declared d) (record { name = name; word = word; kind = kind; lifted = lifted })
    (subst (λ w. IsAmong (declared d) (record { name = name; word = w; kind = kind; lifted = lifted })) at
    (word_declares 0 word (gloss d) h.gloss_at name kind lifted h.there h.has))

-- ---- bodies inside bodies

-- with each body those inside it are among these
abbrev IsClosed : List BodyAt → Type 0
IsClosed bs = (b c : BodyAt) → IsAmong bs b → IsAmong (bodies_inside b.at b.body) c → IsAmong bs c

closed_both : (xs ys : List BodyAt) → IsClosed xs → IsClosed ys → IsClosed (xs ++ ys)
closed_both xs ys h k b c among inside = by (among_parts xs ys b among)
  where
    by : IsAmong xs b ⊎ IsAmong ys b → IsAmong (xs ++ ys) c
    by (inl j) = among_front xs ys c (h b c j inside)
    by (inr j) = among_rear xs ys c (k b c j inside)

-- a body behind those inside it, and in front of them
closed_behind : (own : BodyAt) → IsClosed (bodies_inside own.at own.body)
    → IsClosed (bodies_inside own.at own.body ++ own ∷ [])
closed_behind own h b c among inside = by (among_parts (bodies_inside own.at own.body) (own ∷ []) b among)
  where
    last : (b ≡ own) ⊎ IsAmong [] b → IsAmong (bodies_inside own.at own.body ++ own ∷ []) c
    last (inl same) =
        among_front (bodies_inside own.at own.body) (own ∷ []) c
        (subst (λ x. IsAmong (bodies_inside x.at x.body) c) same inside)
    last (inr j) = absurd (among_none b j)

    by : IsAmong (bodies_inside own.at own.body) b ⊎ IsAmong (own ∷ []) b
        → IsAmong (bodies_inside own.at own.body ++ own ∷ []) c
    by (inl j) = among_front (bodies_inside own.at own.body) (own ∷ []) c (h b c j inside)
    by (inr j) = last (among_cases own b [] j)

closed_before : (own : BodyAt) → IsClosed (bodies_inside own.at own.body)
    → IsClosed (own ∷ bodies_inside own.at own.body)
closed_before own h b c among inside = by (among_cases own b (bodies_inside own.at own.body) among)
  where
    by : (b ≡ own) ⊎ IsAmong (bodies_inside own.at own.body) b
        → IsAmong (own ∷ bodies_inside own.at own.body) c
    by (inl same) =
        among_more own c (bodies_inside own.at own.body)
        (subst (λ x. IsAmong (bodies_inside x.at x.body) c) same inside)
    by (inr j) = among_more own c (bodies_inside own.at own.body) (h b c j inside)

none_closed : IsClosed []
none_closed b c among inside = absurd (among_none b among)

mutual
  body_closed : (at : ℕ) (body : tree.Body) → IsClosed (bodies_inside at body)
  body_closed at (tree.Enum es) = none_closed
  body_closed at (tree.Struct ds) = fields_closed (at + 1) ds
  body_closed at (tree.Union d as' other) =
      closed_both (bodies_of_declaration (at + 2) d)
      (bodies_of_arms (arms_at at d) as' ++ bodies_of_default (default_at at d as') other)
      (declaration_closed (at + 2) d)
      (closed_both (bodies_of_arms (arms_at at d) as') (bodies_of_default (default_at at d as') other)
      (arms_closed (arms_at at d) as') (default_closed (default_at at d as') other))

  declaration_closed : (at : ℕ) (d : tree.Declaration) → IsClosed (bodies_of_declaration at d)
  declaration_closed at tree.Void = none_closed
  declaration_closed at (tree.Of (tree.Simple b) name shape) = none_closed
  declaration_closed at (tree.Of (tree.Name t) name shape) = none_closed
  declaration_closed at (tree.Of (tree.Tagged tag t) name shape) = none_closed
  declaration_closed at (tree.Of (tree.Inline body) name shape) =
      closed_behind
      (record { named = at + 1 + length (spell_body body) + star shape; at = at + 1; body = body })
      (body_closed (at + 1) body)
  declaration_closed at (tree.Opaque name l) = none_closed
  declaration_closed at (tree.String name most) = none_closed

  fields_closed : (at : ℕ) (ds : tree.Declarations) → IsClosed (bodies_of_fields at ds)
  fields_closed at tree.none = none_closed
  fields_closed at (tree.more d ds) =
      closed_both (bodies_of_declaration at d) (bodies_of_fields (at + length (spell_declaration d) + 1) ds)
      (declaration_closed at d) (fields_closed (at + length (spell_declaration d) + 1) ds)

  arms_closed : (at : ℕ) (as' : tree.Arms) → IsClosed (bodies_of_arms at as')
  arms_closed at tree.no_arm = none_closed
  arms_closed at (tree.arm values d rest) =
      let start = at + length (spell_cases values) in
      closed_both (bodies_of_declaration start d)
      (bodies_of_arms (start + length (spell_declaration d) + 1) rest) (declaration_closed start d)
      (arms_closed (start + length (spell_declaration d) + 1) rest)

  default_closed : (at : ℕ) (other : tree.Default) → IsClosed (bodies_of_default at other)
  default_closed at tree.no_default = none_closed
  default_closed at (tree.default d) = declaration_closed (at + 2) d

bodies_closed : (d : tree.Definition) → IsClosed (bodies d)
bodies_closed (tree.Const name value) = none_closed
bodies_closed (tree.Typedef d) = declaration_closed 1 d
bodies_closed (tree.NewType name body) = closed_before (new_body body) (body_closed 2 body)
bodies_closed (tree.Program name versions number) = none_closed

-- the inline type of a declaration is one of the bodies
abbrev pub HasInline : List BodyAt → tree.Declaration → Type 0
HasInline bs (tree.Of (tree.Inline body) name shape) = (b : BodyAt) × IsAmong bs b × (b.body ≡ body)
HasInline bs d = Unit {0}

declared_inline : (at : ℕ) (d : tree.Declaration) → HasInline (bodies_of_declaration at d) d
declared_inline at tree.Void = tt
declared_inline at (tree.Of (tree.Simple b) name shape) = tt
declared_inline at (tree.Of (tree.Name t) name shape) = tt
declared_inline at (tree.Of (tree.Tagged tag t) name shape) = tt
declared_inline at (tree.Of (tree.Inline body) name shape) =
    let own : BodyAt =
    record { named = at + 1 + length (spell_body body) + star shape; at = at + 1; body = body } in
    (own, among_rear (bodies_inside (at + 1) body) (own ∷ []) own (among_first own []), refl)
declared_inline at (tree.Opaque name l) = tt
declared_inline at (tree.String name most) = tt

more_inline : (bs cs : List BodyAt) (d : tree.Declaration) → ((b : BodyAt) → IsAmong bs b → IsAmong cs b)
    → HasInline bs d → HasInline cs d
more_inline bs cs tree.Void more h = tt
more_inline bs cs (tree.Of (tree.Simple b) name shape) more h = tt
more_inline bs cs (tree.Of (tree.Name t) name shape) more h = tt
more_inline bs cs (tree.Of (tree.Tagged tag t) name shape) more h = tt
more_inline bs cs (tree.Of (tree.Inline body) name shape) more h = (h.0, more h.0 h.1, h.2)
more_inline bs cs (tree.Opaque name l) more h = tt
more_inline bs cs (tree.String name most) more h = tt

pub typedef_inline : (d : tree.Definition) (t : tree.Declaration) → IsMade d t → HasInline (bodies d) t
typedef_inline d t (of_body b among told) =
    subst (HasInline (bodies d)) (sym told.is) (b, among, refl)
typedef_inline d t (as_defined is word declares) =
    subst (λ x. HasInline (bodies x) t) (sym is) (declared_inline 1 t)

-- ---- unions

-- the body of a union
abbrev as_union : BodyAt → tree.Declaration → tree.Arms → tree.Default → BodyAt
as_union b d as' other = record { named = b.named; at = b.at; body = tree.Union d as' other }

union_is : (b : BodyAt) (at : ℕ) (d : tree.Declaration) → (h : IsSwitch b at d)
    → b ≡ as_union b d h.arms h.other
union_is b at d h = λ i. record { named = b.named; at = b.at; body = h.body_is i }

pub switch_inline : (d : tree.Definition) (union : BodyAt) (at : ℕ) (discriminant : tree.Declaration)
    → IsAmong (bodies d) union → IsSwitch union at discriminant → HasInline (bodies d) discriminant
switch_inline d union at discriminant among h =
    let inside = bodies_of_declaration (union.at + 2) discriminant in
    let others =
    bodies_of_arms (arms_at union.at discriminant) h.arms
    ++ bodies_of_default (default_at union.at discriminant h.arms) h.other in
    more_inline inside (bodies d) discriminant
    (λ c k. bodies_closed d union c among
    (subst (λ x. IsAmong (bodies_inside union.at x) c) (sym h.body_is) (among_front inside others c k)))
    (declared_inline (union.at + 2) discriminant)

-- the words of a union's discriminant, inside the type of a name
pub record IsSwitchAt (d : tree.Definition) (union : BodyAt) (at : ℕ)
    (discriminant : tree.Declaration) : Type 0 where
  pub name : List ℕ
  pub stands : StandsAt (gloss d) at (declaration_by glossed (Some (Inside AsDiscriminant name)) discriminant)

pub switch_at : (d : tree.Definition) (union : BodyAt) (at : ℕ) (discriminant : tree.Declaration)
    → IsAmong (bodies d) union → IsSwitch union at discriminant → IsSwitchAt d union at discriminant
switch_at d union at discriminant among h =
    let told = (body_typedef d union among).told in
    let body =
    subst (λ x. StandsAt (gloss d) union.at (body_by glossed (Some told.name) x)) h.body_is told.stands in
    record {
      name = told.name;
      stands = moved at h.at_is
          (front (words_inside AsDiscriminant told.name discriminant) (behind_switch told.name h.arms h.other)
          (switch_stands union.at told.name discriminant h.arms h.other body));
    }

-- the first word of a discriminant
record IsFirst (around : List ℕ) (d : tree.Declaration) : Type 0 where
  gloss_at : Gloss
  there : slice_get (words_inside AsDiscriminant around d) 0 ≡ Some gloss_at
  has : IsAmong gloss_at.roles (Discriminant d)

some_mark : (b : Basic) → (m : Mark) × (ms : List Mark) × (basic_marks b ≡ m ∷ ms)
some_mark basics.Int = (marks.Int, [], refl)
some_mark basics.UnsignedInt = (marks.Unsigned, marks.Int ∷ [], refl)
some_mark basics.Long = (marks.Long, [], refl)
some_mark basics.UnsignedLong = (marks.Unsigned, marks.Long ∷ [], refl)
some_mark basics.Hyper = (marks.Hyper, [], refl)
some_mark basics.UnsignedHyper = (marks.Unsigned, marks.Hyper ∷ [], refl)
some_mark basics.Unsigned = (marks.Unsigned, [], refl)
some_mark basics.Float = (marks.Float, [], refl)
some_mark basics.Double = (marks.Double, [], refl)
some_mark basics.Quadruple = (marks.Quadruple, [], refl)
some_mark basics.Bool = (marks.Bool, [], refl)

first_word : (around : List ℕ) (d : tree.Declaration) → IsFirst around d
first_word around tree.Void =
    let role = VoidDeclaration (Inside AsDiscriminant around) in
    record {
      gloss_at = glossed (Fixed marks.Void) (role ∷ Discriminant tree.Void ∷ []);
      there = refl;
      has = among_more role (Discriminant tree.Void) (Discriminant tree.Void ∷ [])
          (among_first (Discriminant tree.Void) []);
    }
first_word around (tree.Of (tree.Simple b) name shape) =
    let role = Discriminant (tree.Of (tree.Simple b) name shape) in
    let mark = some_mark b in
    record {
      gloss_at = glossed (Fixed mark.0) (role ∷ []);
      there = ap
          (λ ms. slice_get
          (marks_by glossed (role ∷ []) ms ++ named_by glossed true (FieldName name ∷ []) name shape) 0)
          mark.2;
      has = among_first role [];
    }
first_word around (tree.Of (tree.Name t) name shape) =
    let role = Discriminant (tree.Of (tree.Name t) name shape) in
    let mention = Mentions t (use_by shape) None in
    record {
      gloss_at = glossed (Name t) (mention ∷ role ∷ []);
      there = refl;
      has = among_more mention role (role ∷ []) (among_first role []);
    }
first_word around (tree.Of (tree.Tagged tag t) name shape) =
    let role = Discriminant (tree.Of (tree.Tagged tag t) name shape) in
    record { gloss_at = glossed (Fixed (tag_mark tag)) (role ∷ []); there = refl; has = among_first role [] }
first_word around (tree.Of (tree.Inline body) name shape) =
    let role = Discriminant (tree.Of (tree.Inline body) name shape) in
    record {
      gloss_at = glossed (Fixed (body_mark body))
          (role ∷ []);
      there = refl;
      has = among_first role [];
    }
first_word around (tree.Opaque name l) =
    let role = Discriminant (tree.Opaque name l) in
    record { gloss_at = glossed (Fixed marks.Opaque) (role ∷ []); there = refl; has = among_first role [] }
first_word around (tree.String name most) =
    let role = Discriminant (tree.String name most) in
    record { gloss_at = glossed (Fixed marks.String) (role ∷ []); there = refl; has = among_first role [] }

get_first : {gs : List Gloss} {at : ℕ} {xs : List Gloss} (g : Gloss) → StandsAt gs at xs
    → slice_get xs 0 ≡ Some g → slice_get gs at ≡ Some g
get_first {gs} {at} g h e = let same : at ≡ at + 0 = omega arith in ap (slice_get gs) same ∙ h.get 0 g e

-- the first word of a union's discriminant has its role
pub switch_role : (d : tree.Definition) (union : BodyAt) (at : ℕ) (discriminant : tree.Declaration)
    → IsSwitchAt d union at discriminant → HasRole d at (Discriminant discriminant)
switch_role d union at discriminant h =
    let word = first_word h.name discriminant in
    record { gloss_at = word.gloss_at; word_is = get_first word.gloss_at h.stands word.there; has = word.has }

-- a discriminant that is `void`
pub void_role : (d : tree.Definition) (union : BodyAt) (at : ℕ) → (h : IsSwitchAt d union at tree.Void)
    → HasRole d at (VoidDeclaration (Inside AsDiscriminant h.name))
void_role d union at h =
    let role = VoidDeclaration (Inside AsDiscriminant h.name) in
    let word = glossed (Fixed marks.Void) (role ∷ Discriminant tree.Void ∷ []) in
    record {
      gloss_at = word;
      word_is = get_first word h.stands refl;
      has = among_first role (Discriminant tree.Void ∷ []);
    }

-- a discriminant of a type by name, and with a keyword in front
pub switch_name : (d : tree.Definition) (union : BodyAt) (at : ℕ) (n name : List ℕ)
    → IsSwitchAt d union at (tree.Of (tree.Name n) name tree.Plain)
    → IsAmong (mentioned d) (record { name = n; word = at; usage = uses.ByValue; tag = None })
switch_name d union at n name h =
    let role = Discriminant (tree.Of (tree.Name n) name tree.Plain) in
    let word = glossed (Name n) (Mentions n uses.ByValue None ∷ role ∷ []) in
    let same : 0 + at ≡ at = omega arith in
    subst
    (λ w. IsAmong (mentioned d) (record { name = n; word = w; usage = uses.ByValue; tag = None })) same
    (word_mentions 0 at (gloss d) word n uses.ByValue None (role ∷ []) (get_first word h.stands refl) refl)

pub switch_tagged : (d : tree.Definition) (union : BodyAt) (at : ℕ) (tag : Tag) (n name : List ℕ)
    → IsSwitchAt d union at (tree.Of (tree.Tagged tag n) name tree.Plain)
    → IsAmong (mentioned d) (record { name = n; word = at + 1; usage = uses.ByValue; tag = Some tag })
switch_tagged d union at tag n name h =
    let word = glossed (Name n) (Mentions n uses.ByValue (Some tag) ∷ []) in
    let same : 0 + (at + 1) ≡ at + 1 = omega arith in
    subst
    (λ w. IsAmong (mentioned d) (record { name = n; word = w; usage = uses.ByValue; tag = Some tag })) same
    (word_mentions 0 (at + 1) (gloss d) word n uses.ByValue (Some tag) [] (h.stands.get 1 word refl) refl)

-- ---- cases

record IsCaseAt (gs : List Gloss) (v : ValueAt) : Type 0 where
  gloss_at : Gloss
  there : slice_get gs v.word ≡ Some gloss_at
  has : IsAmong gloss_at.roles (CaseValue v.value)

value_has : (v : tree.Value) → IsAmong (value_roles (CaseValue v) v) (CaseValue v)
value_has (tree.Number t) = among_first (CaseValue (tree.Number t)) []
value_has (tree.Named t) =
    among_more (Mentions t uses.Value None) (CaseValue (tree.Named t)) (CaseValue (tree.Named t) ∷ [])
    (among_first (CaseValue (tree.Named t)) [])

cases_told : (gs : List Gloss) (at : ℕ) (vs : List tree.Value) (x : ValueAt)
    → StandsAt gs at (cases_by glossed true vs) → IsAmong (cases_from at vs) x → IsCaseAt gs x
cases_told gs at [] x h k = absurd (among_none x k)
cases_told gs at (v ∷ vs) x h k =
    by (among_cases here x (cases_from (at + 3) vs) k)
    (λ j. cases_told gs (at + 3) vs x (moved (at + 3) (omega arith) behind) j)
  where
    here : ValueAt
    here = record { word = at + 1; value = v }

    word : Gloss
    word = glossed (spell_value v) (value_roles (CaseValue v) v)

    colon : List Gloss
    colon = glossed (Fixed marks.Colon) [] ∷ cases_by glossed true vs

    behind : StandsAt gs (at + 1 + 1 + 1) (cases_by glossed true vs)
    behind =
        next (glossed (Fixed marks.Colon) []) (cases_by glossed true vs)
        (next word colon (next (glossed (Fixed marks.Case) []) (word ∷ colon) h))

    by : (x ≡ here) ⊎ IsAmong (cases_from (at + 3) vs) x
        → (IsAmong (cases_from (at + 3) vs) x → IsCaseAt gs x) → IsCaseAt gs x
    by (inl same) more =
        subst (IsCaseAt gs) (sym same)
        (record { gloss_at = word; there = h.get 1 word refl; has = value_has v })
    by (inr j) more = more j

arm_cases_told : (gs : List Gloss) (at : ℕ) (around : List ℕ) (as' : tree.Arms) (x : ValueAt)
    → StandsAt gs at (arms_by glossed (Some around) as') → IsAmong (arm_cases_from at as') x → IsCaseAt gs x
arm_cases_told gs at around tree.no_arm x h k = absurd (among_none x k)
arm_cases_told gs at around (tree.arm values d rest) x h k =
    by (among_parts (cases_from at values) (arm_cases_from behind rest) x k)
    (λ j. arm_cases_told gs behind around rest x (rest_stands at around values d rest h) j)
  where
    behind : ℕ
    behind = at + length (spell_cases values) + length (spell_declaration d) + 1

    words : List Gloss
    words = words_inside AsArm around d ++ glossed (Fixed Semicolon) [] ∷ arms_by glossed (Some around) rest

    by : IsAmong (cases_from at values) x ⊎ IsAmong (arm_cases_from behind rest) x
        → (IsAmong (arm_cases_from behind rest) x → IsCaseAt gs x) → IsCaseAt gs x
    by (inl j) more = cases_told gs at values x (front (cases_by glossed true values) words h) j
    by (inr j) more = more j

-- each case of a union has its value at its word
pub case_role : (d : tree.Definition) (union : BodyAt) (at : ℕ) (discriminant : tree.Declaration)
    (x : ValueAt)
    → IsAmong (bodies d) union → IsSwitch union at discriminant → IsAmong (cases_of union) x
    → HasRole d x.word (CaseValue x.value)
case_role d union at discriminant x among h case =
    let told = (body_typedef d union among).told in
    let body =
    subst (λ y. StandsAt (gloss d) union.at (body_by glossed (Some told.name) y)) h.body_is told.stands in
    let arms =
    front (arms_by glossed (Some told.name) h.arms) (default_by glossed (Some told.name) h.other)
    (arms_stand union.at told.name discriminant h.arms h.other body) in
    let cases : cases_of union ≡ arm_cases_from (arms_at union.at discriminant) h.arms =
    ap cases_of (union_is union at discriminant h) in
    let one =
    arm_cases_told (gloss d) (arms_at union.at discriminant) told.name h.arms x arms
    (subst (λ l. IsAmong l x) cases case) in
    record { gloss_at = one.gloss_at; word_is = one.there; has = one.has }
