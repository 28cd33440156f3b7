-- Names that a definition uses by value, in its words and in the typedefs that stand for its types.
use Rattle.std.proofs.Common.{true, ◌≡◌, ℕ, ◌+◌, List, [], ◌∷◌, ◌++◌, Option, Some, ◌∙◌}
use Rattle.std.specs.List.{IsAmong}
use Rattle.x_lex.specs.declared.mark.Mark.TheVariants.{Semicolon}
use Rattle.x_trees.specs.Tree as tree
use Rattle.x_trees.specs.Words.{Fixed}
use Rattle.x_trees.specs.Gloss.{Position, AsField, AsDiscriminant, AsArm, InTypedef, Inside, Role, Mentions}
use Rattle.x_trees.specs.Gloss.{Gloss, glossed, gloss, leading_roles, lifted_name, lifted_roles, use_by}
use Rattle.x_trees.specs.Gloss.{named_by, cases_by, type_by, body_by, declaration_by, declarations_by}
use Rattle.x_trees.specs.Gloss.{arms_by, default_by, told_of}
use Rattle.x_trees.specs.Mentions.{Mention, mentioned, mentioned_at}
use Rattle.x_trees.specs.declared.names.mention.Use.{Use}
use Rattle.x_trees.specs.declared.names.mention.Use.TheVariants as uses
use Rattle.x_trees.proofs.AmongLemmas.{among_first, among_more, among_front, among_rear}
use Rattle.x_schema.specs.Schema.{Schema, form_at, target_at}
use Rattle.x_schema.specs.SchemaOf.{Types, Numbers, IsDeclared, IsType, IsBody, AreFields, AreArms, IsDefault}
use Rattle.x_schema.specs.SchemaOf.{place_in, place_named, with_cases, as_typedef, typedefs, typedefs_inside}
use Rattle.x_schema.specs.SchemaOf.{typedefs_of, typedefs_of_type, typedefs_of_fields, typedefs_of_arms}
use Rattle.x_schema.specs.SchemaOf.{typedefs_of_default}
use Rattle.x_schema.specs.declared.form.Arm.{Arm}
use Rattle.x_schema.specs.declared.form.Field.{Field}
use Rattle.x_schema.specs.declared.form.Form.{Form}

-- ---- what holds of the names that are used by value

abbrev pub IfHeld : (List ℕ → Type 0) → Use → List ℕ → Type 0
IfHeld P uses.ByValue name = P name
IfHeld P usage name = Unit {0}

abbrev pub RolesHold : (List ℕ → Type 0) → List Role → Type 0
RolesHold P [] = Unit {0}
RolesHold P (Mentions name usage tag ∷ roles) = IfHeld P usage name × RolesHold P roles
RolesHold P (role ∷ roles) = RolesHold P roles

abbrev pub WordsHold : (List ℕ → Type 0) → List Gloss → Type 0
WordsHold P [] = Unit {0}
WordsHold P (g ∷ gs) = RolesHold P g.roles × WordsHold P gs

abbrev mutual
  pub DeclarationHolds : (List ℕ → Type 0) → tree.Declaration → Type 0
  DeclarationHolds P tree.Void = Unit {0}
  DeclarationHolds P (tree.Of type name shape) = TypeHolds P (use_by shape) type
  DeclarationHolds P (tree.Opaque name length) = Unit {0}
  DeclarationHolds P (tree.String name most) = Unit {0}

  pub TypeHolds : (List ℕ → Type 0) → Use → tree.DataType → Type 0
  TypeHolds P usage (tree.Simple b) = Unit {0}
  TypeHolds P usage (tree.Name n) = IfHeld P usage n
  TypeHolds P usage (tree.Tagged tag n) = IfHeld P usage n
  TypeHolds P usage (tree.Inline body) = BodyHolds P body

  pub BodyHolds : (List ℕ → Type 0) → tree.Body → Type 0
  BodyHolds P (tree.Enum es) = Unit {0}
  BodyHolds P (tree.Struct ds) = FieldsHold P ds
  BodyHolds P (tree.Union d arms other) = DeclarationHolds P d × ArmsHold P arms × DefaultHolds P other

  pub FieldsHold : (List ℕ → Type 0) → tree.Declarations → Type 0
  FieldsHold P tree.none = Unit {0}
  FieldsHold P (tree.more d ds) = DeclarationHolds P d × FieldsHold P ds

  pub ArmsHold : (List ℕ → Type 0) → tree.Arms → Type 0
  ArmsHold P tree.no_arm = Unit {0}
  ArmsHold P (tree.arm values d rest) = DeclarationHolds P d × ArmsHold P rest

  pub DefaultHolds : (List ℕ → Type 0) → tree.Default → Type 0
  DefaultHolds P tree.no_default = Unit {0}
  DefaultHolds P (tree.default d) = DeclarationHolds P d

abbrev pub TypedefsHold : (List ℕ → Type 0) → List tree.Declaration → Type 0
TypedefsHold P [] = Unit {0}
TypedefsHold P (d ∷ ds) = DeclarationHolds P d × TypedefsHold P ds

-- ---- parts

words_front : (P : List ℕ → Type 0) (xs ys : List Gloss) → WordsHold P (xs ++ ys) → WordsHold P xs
words_front P [] ys h = tt
words_front P (g ∷ gs) ys h = (h.0, words_front P gs ys h.1)

words_rear : (P : List ℕ → Type 0) (xs ys : List Gloss) → WordsHold P (xs ++ ys) → WordsHold P ys
words_rear P [] ys h = h
words_rear P (g ∷ gs) ys h = words_rear P gs ys h.1

typedefs_both : (P : List ℕ → Type 0) (xs ys : List tree.Declaration) → TypedefsHold P xs → TypedefsHold P ys
    → TypedefsHold P (xs ++ ys)
typedefs_both P [] ys h k = k
typedefs_both P (d ∷ ds) ys h k = (h.0, typedefs_both P ds ys h.1 k)

abbrev type_words : List Role → tree.Shape → List ℕ → tree.DataType → List Gloss
type_words first shape lifted type = type_by glossed first (Some (use_by shape)) (Some lifted) type

-- the words of a declaration of this place inside a type
abbrev words_inside : Position → List ℕ → tree.Declaration → List Gloss
words_inside position around d = declaration_by glossed (Some (Inside position around)) d

abbrev name_words : List Role → List ℕ → tree.DataType → List ℕ → tree.Shape → List Gloss
name_words roles lifted type name shape = named_by glossed true
    (roles ++ lifted_roles (Some lifted) type) name shape

mutual
  body_held : (P : List ℕ → Type 0) (around : List ℕ) (body : tree.Body)
      → WordsHold P (body_by glossed (Some around) body)
      → BodyHolds P body × TypedefsHold P (typedefs_inside around body)
  body_held P around (tree.Enum es) h = (tt, tt)
  body_held P around (tree.Struct ds) h = fields_held P around ds
      (words_front P (declarations_by glossed (Some around) ds) _ h.1)
  body_held P around (tree.Union d as' other) h =
      let one = declaration_held P AsDiscriminant around d
      (words_front P (words_inside AsDiscriminant around d) _ h.1.1) in
      let rest = (words_rear P (words_inside AsDiscriminant around d) _ h.1.1).1.1 in
      let arms = arms_held P around as' (words_front P (arms_by glossed (Some around) as')
      (default_by glossed (Some around) other) rest) in
      let last = default_held P around other (words_rear P (arms_by glossed (Some around) as')
      (default_by glossed (Some around) other) rest) in (
        (one.0, arms.0, last.0),
        typedefs_both P (typedefs_of around d) (typedefs_of_arms around as'
            ++ typedefs_of_default around other) one.1
            (typedefs_both P (typedefs_of_arms around as') (typedefs_of_default around other) arms.1 last.1),
      )

  type_held : (P : List ℕ → Type 0) (first : List Role) (shape : tree.Shape) (lifted : List ℕ)
      (type : tree.DataType) → WordsHold P (type_words first shape lifted type)
      → TypeHolds P (use_by shape) type × TypedefsHold P (typedefs_of_type lifted type)
  type_held P first shape lifted (tree.Simple b) h = (tt, tt)
  type_held P first shape lifted (tree.Name t) h = (h.0.0, tt)
  type_held P first shape lifted (tree.Tagged tag t) h = (h.1.0.0, tt)
  type_held P first shape lifted (tree.Inline body) h =
      let inside = body_held P lifted body h.1 in (
        inside.0,
        typedefs_both P (typedefs_inside lifted body) (as_typedef lifted body ∷ []) inside.1
            (inside.0, tt),
      )

  declaration_held : (P : List ℕ → Type 0) (position : Position) (around : List ℕ) (d : tree.Declaration)
      → WordsHold P (words_inside position around d)
      → DeclarationHolds P d × TypedefsHold P (typedefs_of around d)
  declaration_held P position around tree.Void h = (tt, tt)
  declaration_held P position around (tree.Of type name shape) h =
      let first = leading_roles (Some (Inside position around)) (tree.Of type name shape) in
      type_held P first shape (lifted_name around name) type
      (words_front P (type_words first shape (lifted_name around name) type) _ h)
  declaration_held P position around (tree.Opaque name length) h = (tt, tt)
  declaration_held P position around (tree.String name most) h = (tt, tt)

  fields_held : (P : List ℕ → Type 0) (around : List ℕ) (ds : tree.Declarations)
      → WordsHold P (declarations_by glossed (Some around) ds)
      → FieldsHold P ds × TypedefsHold P (typedefs_of_fields around ds)
  fields_held P around tree.none h = (tt, tt)
  fields_held P around (tree.more d ds) h =
      let one = declaration_held P AsField around d (words_front P (words_inside AsField around d) _ h) in
      let rest = fields_held P around ds (words_rear P (words_inside AsField around d) _ h).1 in
      ((one.0, rest.0), typedefs_both P (typedefs_of around d) (typedefs_of_fields around ds) one.1 rest.1)

  arms_held : (P : List ℕ → Type 0) (around : List ℕ) (as' : tree.Arms)
      → WordsHold P (arms_by glossed (Some around) as')
      → ArmsHold P as' × TypedefsHold P (typedefs_of_arms around as')
  arms_held P around tree.no_arm h = (tt, tt)
  arms_held P around (tree.arm values d rest) h =
      let behind = words_rear P (cases_by glossed true values) _ h in
      let one = declaration_held P AsArm around d (words_front P (words_inside AsArm around d) _ behind) in
      let others = arms_held P around rest (words_rear P (words_inside AsArm around d) _ behind).1 in (
        (one.0, others.0),
        typedefs_both P (typedefs_of around d)
            (typedefs_of_arms around rest) one.1 others.1,
      )

  default_held : (P : List ℕ → Type 0) (around : List ℕ) (other : tree.Default)
      → WordsHold P (default_by glossed (Some around) other)
      → DefaultHolds P other × TypedefsHold P (typedefs_of_default around other)
  default_held P around tree.no_default h = (tt, tt)
  default_held P around (tree.default d) h = declaration_held P AsArm around d
      (words_front P (words_inside AsArm around d) _ h.1.1)

typedef_held : (P : List ℕ → Type 0) (d : tree.Declaration)
    → WordsHold P (declaration_by glossed (Some InTypedef) d)
    → TypedefsHold P (typedefs (Some (tree.Typedef d)))
typedef_held P tree.Void h = tt
typedef_held P (tree.Of type name shape) h =
    let inside = type_held P [] shape (lifted_name name name) type
    (words_front P (type_words [] shape (lifted_name name name) type) _ h) in
    typedefs_both P (typedefs_of name (tree.Of type name shape)) (tree.Of type name shape ∷ []) inside.1
    (inside.0, tt)
typedef_held P (tree.Opaque name length) h = (tt, tt)
typedef_held P (tree.String name most) h = (tt, tt)

pub definition_held : (P : List ℕ → Type 0) (d : tree.Definition) → WordsHold P (gloss d)
    → TypedefsHold P (typedefs (Some d))
definition_held P (tree.Const name value) h = tt
definition_held P (tree.Typedef d) h = typedef_held P d
    (words_front P (declaration_by glossed (Some InTypedef) d) (glossed (Fixed Semicolon) [] ∷ []) h.1)
definition_held P (tree.NewType name body) h =
    let inside = body_held P name body (words_front P (body_by glossed (Some name) body)
    (glossed (Fixed Semicolon) [] ∷ []) h.1.1) in
    typedefs_both P (typedefs_inside name body) (as_typedef name body ∷ []) inside.1 (inside.0, tt)
definition_held P (tree.Program name versions number) h = tt

-- ---- from the names that are mentioned

roles_mentioned : (P : List ℕ → Type 0) (at : ℕ) (roles : List Role)
    → ((m : Mention) → IsAmong (mentioned_at at roles) m → IfHeld P m.usage m.name) → RolesHold P roles
roles_mentioned P at [] h = tt
roles_mentioned P at (Mentions name usage tag ∷ roles) h =
    let m : Mention = record { name = name; word = at; usage = usage; tag = tag } in (
      h m (among_first m (mentioned_at at roles)),
      roles_mentioned P at roles
          (λ x k. h x (among_more m x (mentioned_at at roles) k)),
    )
roles_mentioned P at (role ∷ roles) h = roles_mentioned P at roles h

words_mentioned : (P : List ℕ → Type 0) (at : ℕ) (gs : List Gloss)
    → ((m : Mention) → IsAmong (told_of mentioned_at at gs) m → IfHeld P m.usage m.name) → WordsHold P gs
words_mentioned P at [] h = tt
words_mentioned P at (g ∷ gs) h = (
  roles_mentioned P at g.roles (λ m k. h m (among_front (mentioned_at at g.roles)
      (told_of mentioned_at (at + 1) gs) m k)),
  words_mentioned P (at + 1) gs (λ m k. h m (among_rear (mentioned_at at g.roles)
      (told_of mentioned_at (at + 1) gs) m k)),
)

pub typedefs_held : (P : List ℕ → Type 0) (d : tree.Definition)
    → ((m : Mention) → IsAmong (mentioned d) m → IfHeld P m.usage m.name) → TypedefsHold P (typedefs (Some d))
typedefs_held P d h = definition_held P d (words_mentioned P 0 (gloss d) h)

-- ---- by other types, where the names that are used by value lead to the same

-- a name leads to the same place by both
abbrev pub LeadsAlike : Types → Types → List ℕ → Type 0
LeadsAlike A B name = place_named A name ≡ place_named B name

mutual
  pub declared_moves : (s : Schema) (n : Numbers) (A B : Types) (d : tree.Declaration) (p : ℕ)
      → DeclarationHolds (LeadsAlike A B) d
      → IsDeclared s (record { numbers = n; types = A }) d p
      → IsDeclared s (record { numbers = n; types = B }) d p
  declared_moves s n A B tree.Void p w h = h
  declared_moves s n A B (tree.Of type name tree.Plain) p w h = (h.0, h.1, held_moves s n A B type h.0 w h.2)
  declared_moves s n A B (tree.Of type name tree.Optional) p w h =
      (h.0, h.1, linked_moves s n A B type h.0 w h.2)
  declared_moves s n A B (tree.Of type name (tree.Array (tree.Fixed size))) p w h =
      (h.0, h.1, held_moves s n A B type h.0 w h.2)
  declared_moves s n A B (tree.Of type name (tree.Array (tree.Variable most))) p w h =
      (h.0, h.1, linked_moves s n A B type h.0 w h.2)
  declared_moves s n A B (tree.Opaque name length) p w h = h
  declared_moves s n A B (tree.String name most) p w h = h

  held_moves : (s : Schema) (n : Numbers) (A B : Types) (type : tree.DataType) (p : ℕ)
      → TypeHolds (LeadsAlike A B) uses.ByValue type
      → IsType s (record { numbers = n; types = A }) type uses.ByValue p
      → IsType s (record { numbers = n; types = B }) type uses.ByValue p
  held_moves s n A B (tree.Simple b) p w h = h
  held_moves s n A B (tree.Name name) p w h = h ∙ w
  held_moves s n A B (tree.Tagged tag name) p w h = h ∙ w
  held_moves s n A B (tree.Inline body) p w h = body_moves s n A B body p w h

  linked_moves : (s : Schema) (n : Numbers) (A B : Types) (type : tree.DataType) (p : ℕ)
      → TypeHolds (LeadsAlike A B) uses.Link type
      → IsType s (record { numbers = n; types = A }) type uses.Link p
      → IsType s (record { numbers = n; types = B }) type uses.Link p
  linked_moves s n A B (tree.Simple b) p w h = h
  linked_moves s n A B (tree.Name name) p w h = h
  linked_moves s n A B (tree.Tagged tag name) p w h = h
  linked_moves s n A B (tree.Inline body) p w h = body_moves s n A B body (target_at s p) w h

  body_moves : (s : Schema) (n : Numbers) (A B : Types) (body : tree.Body) (p : ℕ)
      → BodyHolds (LeadsAlike A B) body
      → IsBody s (record { numbers = n; types = A }) body p
      → IsBody s (record { numbers = n; types = B }) body p
  body_moves s n A B (tree.Enum es) p w h = h
  body_moves s n A B (tree.Struct ds) p w h = (h.0, h.1, fields_move s n A B ds h.0.items w h.2)
  body_moves s n A B (tree.Union d as' other) p w h = (
    h.0,
    h.1,
    h.2,
    h.3,
    declared_moves s n A B d h.0.form w.0 h.4,
    arms_move s n A B as'
        (form_at s h.0.form) [] h.1.cases w.1 h.5,
    default_moves s n A B other h.1.default w.2 h.6,
  )

  fields_move : (s : Schema) (n : Numbers) (A B : Types) (ds : tree.Declarations) (fs : List Field)
      → FieldsHold (LeadsAlike A B) ds
      → AreFields s (record { numbers = n; types = A }) ds fs
      → AreFields s (record { numbers = n; types = B }) ds fs
  fields_move s n A B tree.none fs w h = h
  fields_move s n A B (tree.more d ds) fs w h =
      (h.0, h.1, h.2, h.3, declared_moves s n A B d h.0.form w.0 h.4, fields_move s n A B ds h.1 w.1 h.5)

  arms_move : (s : Schema) (n : Numbers) (A B : Types) (as' : tree.Arms) (form : Form)
      (before cases : List (ℕ × Arm)) → ArmsHold (LeadsAlike A B) as'
      → AreArms s (record { numbers = n; types = A }) form as' before cases
      → AreArms s (record { numbers = n; types = B }) form as' before cases
  arms_move s n A B tree.no_arm form before cases w h = h
  arms_move s n A B (tree.arm values d rest) form before cases w h = (
    h.0,
    h.1,
    declared_moves s n A B d (place_in h.0) w.0 h.2,
    arms_move s n A B rest form
        (with_cases n form before values h.0) cases w.1 h.3,
  )

  default_moves : (s : Schema) (n : Numbers) (A B : Types) (other : tree.Default) (chosen : Option Arm)
      → DefaultHolds (LeadsAlike A B) other
      → IsDefault s (record { numbers = n; types = A }) other chosen
      → IsDefault s (record { numbers = n; types = B }) other chosen
  default_moves s n A B tree.no_default chosen w h = h
  default_moves s n A B (tree.default d) chosen w h =
      (h.0, h.1, h.2, declared_moves s n A B d (place_in h.0) w h.3)
