-- The words of definitions, each with its roles: RFC 4506, sections 6.3 and 6.4, and for programs RFC 5531,
-- section 12. Beyond them stand `unsigned` alone, `long`, a keyword and a name as a type, `string` as an
-- argument or a result, a name as the value of a constant, and an enumerator without a value.
--
-- What becomes of a word with its roles is up to `make`: `gloss` keeps both, and `spell` of Spell.antt the
-- words alone.
use Rattle.std.specs.Prelude.{ℕ, ◌+◌, Bool, true, false, List, [], ◌∷◌, ◌++◌, length, map}
use Rattle.std.specs.Prelude.{Option, Some, None, is_some, codes}
use Rattle.x_trees.specs.Tree as tree
use Rattle.x_trees.specs.Words.{Word, Fixed, Name, Number}
use Rattle.x_lex.specs.declared.mark.Mark.{Mark}
use Rattle.x_lex.specs.declared.mark.Mark.TheVariants as marks
use Rattle.x_trees.specs.declared.trees.declaration.Basic.{Basic}
use Rattle.x_trees.specs.declared.trees.declaration.Basic.TheVariants as basics
use Rattle.x_trees.specs.declared.trees.declaration.Tag.{Tag}
use Rattle.x_trees.specs.declared.trees.declaration.Tag.TheVariants as tags
use Rattle.x_trees.specs.declared.names.declared_name.NameKind.{NameKind}
use Rattle.x_trees.specs.declared.names.declared_name.NameKind.TheVariants as kinds
use Rattle.x_trees.specs.declared.names.mention.Use.{Use}
use Rattle.x_trees.specs.declared.names.mention.Use.TheVariants as uses

-- what a declaration stands in for: a field of a struct, the discriminant of a union, or what one of its arms
-- holds
pub data Position : Type 0 where
  AsField : Position
  AsDiscriminant : Position
  AsArm : Position

-- where a declaration stands: behind `typedef`, or inside the type that `around` names
pub data Site : Type 0 where
  InTypedef : Site
  Inside : (position : Position) (around : List ℕ) → Site

-- what a word is to the definition that it stands in; a word may have several roles, or none
pub data Role : Type 0 where
  -- it declares the name; a lifted one is that of an inline type
  Declares : (name : List ℕ) (kind : NameKind) (lifted : Bool) → Role
  -- it uses the name, behind the keyword if there is one
  Mentions : (name : List ℕ) (usage : Use) (tag : Option Tag) → Role
  -- it is the value of a constant, of an enumerator or of a case
  ConstantValue : (value : tree.Value) → Role
  EnumeratorValue : (value : tree.Value) → Role
  CaseValue : (value : tree.Value) → Role
  -- it is the size of an array, or the greatest size
  FixedSize : (size : tree.Value) → Role
  GreatestSize : (size : tree.Value) → Role
  -- it names an enumerator; a field, a discriminant or what an arm holds; a version; a procedure
  EnumeratorName : (name : List ℕ) → Role
  FieldName : (name : List ℕ) → Role
  VersionName : (name : List ℕ) → Role
  ProcedureName : (name : List ℕ) → Role
  -- it is the number of a program, of a version or of a procedure
  ProgramNumber : (text : List ℕ) → Role
  VersionNumber : (text : List ℕ) → Role
  ProcedureNumber : (text : List ℕ) → Role
  -- it is `void`, in place of a declaration, of a result or of arguments, of which so many stand behind it
  VoidDeclaration : (site : Site) → Role
  VoidResult : Role
  VoidArgument : (others : ℕ) → Role
  -- it is the first word of the declaration of a discriminant
  Discriminant : (declaration : tree.Declaration) → Role
  -- it is the first word of an inline type that is an argument or a result
  InlineArgument : Role

-- a word with its roles
pub record Gloss : Type 0 where
  pub word : Word
  pub roles : List Role

-- the word alone
abbrev pub worded : Word → List Role → Word
worded word roles = word

-- the word with its roles
abbrev pub glossed : Word → List Role → Gloss
glossed word roles = record { word = word; roles = roles }

-- value: NUMBER | NAME
abbrev pub spell_value : tree.Value → Word
spell_value (tree.Number t) = Number t
spell_value (tree.Named t) = Name t

-- the keywords of a type: RFC 4506, sections 4.1, 4.2 and 4.4 to 4.8; `long`, `unsigned long` and `unsigned`
-- alone are this project's
abbrev pub basic_marks : Basic → List Mark
basic_marks basics.Int = marks.Int ∷ []
basic_marks basics.UnsignedInt = marks.Unsigned ∷ marks.Int ∷ []
basic_marks basics.Long = marks.Long ∷ []
basic_marks basics.UnsignedLong = marks.Unsigned ∷ marks.Long ∷ []
basic_marks basics.Hyper = marks.Hyper ∷ []
basic_marks basics.UnsignedHyper = marks.Unsigned ∷ marks.Hyper ∷ []
basic_marks basics.Unsigned = marks.Unsigned ∷ []
basic_marks basics.Float = marks.Float ∷ []
basic_marks basics.Double = marks.Double ∷ []
basic_marks basics.Quadruple = marks.Quadruple ∷ []
basic_marks basics.Bool = marks.Bool ∷ []

abbrev pub tag_mark : Tag → Mark
tag_mark tags.Enum = marks.Enum
tag_mark tags.Struct = marks.Struct
tag_mark tags.Union = marks.Union

-- the keyword of a body
abbrev pub body_mark : tree.Body → Mark
body_mark (tree.Enum es) = marks.Enum
body_mark (tree.Struct ds) = marks.Struct
body_mark (tree.Union d arms other) = marks.Union

-- what the name of a type with the body is declared as
abbrev pub body_kind : tree.Body → NameKind
body_kind (tree.Enum es) = kinds.Enum
body_kind (tree.Struct ds) = kinds.Struct
body_kind (tree.Union d arms other) = kinds.Union

-- the name of an inline type: that of the type around it, `_`, and that of the declaration where it stands
abbrev pub lifted_name : List ℕ → List ℕ → List ℕ
lifted_name around name = around ++ (codes "_" ++ name)

-- a link leads to a value of the type: `*` or `<>`
abbrev pub use_by : tree.Shape → Use
use_by tree.Plain = uses.ByValue
use_by tree.Optional = uses.Link
use_by (tree.Array (tree.Fixed v)) = uses.ByValue
use_by (tree.Array (tree.Variable v)) = uses.Link

-- Nothing inside an inline type that is an argument or a result has a role: where words have none, `told` is
-- false, and their place and the name of the type around them are `None`.

abbrev pub where_told : {X : Type 0} → Bool → X → Option X
where_told true x = Some x
where_told false x = None

abbrev pub roles_where : Bool → List Role → List Role
roles_where true roles = roles
roles_where false roles = []

-- where a declaration stands inside a type
abbrev pub site_in : Position → Option (List ℕ) → Option Site
site_in position None = None
site_in position (Some around) = Some (Inside position around)

-- the name of an inline type in a declaration of the name
abbrev pub name_inside : Option Site → List ℕ → Option (List ℕ)
name_inside None name = None
name_inside (Some InTypedef) name = Some (lifted_name name name)
name_inside (Some (Inside position around)) name = Some (lifted_name around name)

-- what the type of a declaration of the shape is used as
abbrev pub usage_at : Option Site → tree.Shape → Option Use
usage_at None shape = None
usage_at (Some site) shape = Some (use_by shape)

-- the roles of a value: its own one, and that of a name
abbrev pub value_roles : Role → tree.Value → List Role
value_roles role (tree.Number t) = role ∷ []
value_roles role (tree.Named t) = Mentions t uses.Value None ∷ role ∷ []

abbrev pub mention_roles : Option Use → Option Tag → List ℕ → List Role
mention_roles None tag name = []
mention_roles (Some usage) tag name = Mentions name usage tag ∷ []

-- the roles of the first word of a declaration
abbrev pub leading_roles : Option Site → tree.Declaration → List Role
leading_roles (Some (Inside AsDiscriminant around)) d = Discriminant d ∷ []
leading_roles site d = []

abbrev pub void_roles : Option Site → List Role
void_roles None = []
void_roles (Some site) = VoidDeclaration site ∷ leading_roles (Some site) tree.Void

-- the roles of the name of a declaration
abbrev pub name_roles : Option Site → List ℕ → List Role
name_roles None name = []
name_roles (Some InTypedef) name = Declares name kinds.Typedef false ∷ []
name_roles (Some (Inside position around)) name = FieldName name ∷ []

-- what the name of a declaration declares beside: its inline type, by the lifted name
abbrev pub lifted_roles : Option (List ℕ) → tree.DataType → List Role
lifted_roles None type = []
lifted_roles (Some lifted) (tree.Inline body) = Declares lifted (body_kind body) true ∷ []
lifted_roles (Some lifted) type = []

-- the roles of the first word of an argument
abbrev pub argument_roles : Bool → tree.DataType → List Role
argument_roles false type = []
argument_roles true (tree.Inline body) = InlineArgument ∷ []
argument_roles true type = []

-- In each of these `make` makes what becomes of a word with its roles.

-- marks, of which the first has these roles
abbrev pub marks_by : {A : Type 0} → (Word → List Role → A) → List Role → List Mark → List A
marks_by make first [] = []
marks_by make first (m ∷ ms) = make (Fixed m) first ∷ map (λ m. make (Fixed m) []) ms

-- [value]
abbrev pub most_by : {A : Type 0} → (Word → List Role → A) → Bool → Option tree.Value → List A
most_by make told None = []
most_by make told (Some v) = make (spell_value v) (roles_where told (value_roles (GreatestSize v) v)) ∷ []

-- "[" value "]" | "<" [value] ">"
abbrev pub length_by : {A : Type 0} → (Word → List Role → A) → Bool → tree.Length → List A
length_by make told (tree.Fixed v) =
    make (Fixed marks.OpenBracket) []
    ∷ make (spell_value v) (roles_where told (value_roles (FixedSize v) v))
    ∷ make (Fixed marks.CloseBracket) [] ∷ []
length_by make told (tree.Variable v) =
    make (Fixed marks.Less) [] ∷ (most_by make told v ++ make (Fixed marks.Greater) [] ∷ [])

-- a declaration's name, which has these roles, with what stands around it
abbrev pub named_by : {A : Type 0} → (Word → List Role → A) → Bool → List Role → List ℕ → tree.Shape → List A
named_by make told roles name tree.Plain = make (Name name) roles ∷ []
named_by make told roles name tree.Optional = make (Fixed marks.Star) [] ∷ make (Name name) roles ∷ []
named_by make told roles name (tree.Array length) = make (Name name) roles ∷ length_by make told length

-- ["=" value]
abbrev pub given_by : {A : Type 0} → (Word → List Role → A) → Bool → Option tree.Value → List A
given_by make told None = []
given_by make told (Some v) =
    make (Fixed marks.Equals) []
    ∷ make (spell_value v) (roles_where told (value_roles (EnumeratorValue v) v)) ∷ []

-- NAME ["=" value]
abbrev pub enumerator_by : {A : Type 0} → (Word → List Role → A) → Bool → tree.Enumerator → List A
enumerator_by make told e =
    make (Name e.name) (roles_where told (Declares e.name kinds.Constant false ∷ EnumeratorName e.name ∷ []))
    ∷ given_by make told e.value

-- ("," NAME ["=" value])*
abbrev pub other_enumerators_by : {A : Type 0} → (Word → List Role → A) → Bool → List tree.Enumerator → List A
other_enumerators_by make told [] = []
other_enumerators_by make told (e ∷ es) =
    make (Fixed marks.Comma) [] ∷ (enumerator_by make told e ++ other_enumerators_by make told es)

-- NAME ["=" value] ("," NAME ["=" value])*
abbrev pub enumerators_by : {A : Type 0} → (Word → List Role → A) → Bool → List tree.Enumerator → List A
enumerators_by make told [] = []
enumerators_by make told (e ∷ es) = enumerator_by make told e ++ other_enumerators_by make told es

-- "case" value ":" ("case" value ":")*
abbrev pub cases_by : {A : Type 0} → (Word → List Role → A) → Bool → List tree.Value → List A
cases_by make told [] = []
cases_by make told (v ∷ vs) =
    make (Fixed marks.Case) []
    ∷ make (spell_value v) (roles_where told (value_roles (CaseValue v) v))
    ∷ make (Fixed marks.Colon) [] ∷ cases_by make told vs

abbrev mutual
  -- a type that is used so; its first word has these roles, and `inside` is its name where it is an inline
  -- one
  pub type_by : {A : Type 0} → (Word → List Role → A) → List Role → Option Use → Option (List ℕ)
      → tree.DataType → List A
  type_by make first usage inside (tree.Simple b) = marks_by make first (basic_marks b)
  type_by make first usage inside (tree.Name t) = make (Name t) (mention_roles usage None t ++ first) ∷ []
  type_by make first usage inside (tree.Tagged tag t) =
      make (Fixed (tag_mark tag)) first ∷ make (Name t) (mention_roles usage (Some tag) t) ∷ []
  type_by make first usage inside (tree.Inline body) =
      make (Fixed (body_mark body)) first ∷ body_by make inside body

  -- the body of the type of the name `around`
  pub body_by : {A : Type 0} → (Word → List Role → A) → Option (List ℕ) → tree.Body → List A
  body_by make around (tree.Enum es) =
      make (Fixed marks.OpenBrace) []
      ∷ (enumerators_by make (is_some around) es ++ make (Fixed marks.CloseBrace) [] ∷ [])
  body_by make around (tree.Struct ds) =
      make (Fixed marks.OpenBrace) []
      ∷ (declarations_by make around ds ++ make (Fixed marks.CloseBrace) [] ∷ [])
  body_by make around (tree.Union d arms other) =
      make (Fixed marks.Switch) []
      ∷ make (Fixed marks.OpenParenthesis) []
      ∷ (declaration_by make (site_in AsDiscriminant around) d
      ++ make (Fixed marks.CloseParenthesis) []
      ∷ make (Fixed marks.OpenBrace) [] ∷ (arms_by make around arms ++ default_by make around other))

  pub declaration_by : {A : Type 0} → (Word → List Role → A) → Option Site → tree.Declaration → List A
  declaration_by make site tree.Void = make (Fixed marks.Void) (void_roles site) ∷ []
  declaration_by make site (tree.Of type name shape) =
      type_by make (leading_roles site (tree.Of type name shape)) (usage_at site shape)
      (name_inside site name) type
      ++ named_by make (is_some site)
      (name_roles site name ++ lifted_roles (name_inside site name) type) name shape
  declaration_by make site (tree.Opaque name length) =
      make (Fixed marks.Opaque) (leading_roles site (tree.Opaque name length))
      ∷ make (Name name) (name_roles site name) ∷ length_by make (is_some site) length
  declaration_by make site (tree.String name most) =
      make (Fixed marks.String) (leading_roles site (tree.String name most))
      ∷ make (Name name) (name_roles site name) ∷ length_by make (is_some site) (tree.Variable most)

  -- (declaration ";")*
  pub declarations_by : {A : Type 0} → (Word → List Role → A) → Option (List ℕ) → tree.Declarations → List A
  declarations_by make around tree.none = []
  declarations_by make around (tree.more d ds) =
      declaration_by make (site_in AsField around) d ++ make (Fixed marks.Semicolon) []
      ∷ declarations_by make around ds

  -- (("case" value ":")* declaration ";")*
  pub arms_by : {A : Type 0} → (Word → List Role → A) → Option (List ℕ) → tree.Arms → List A
  arms_by make around tree.no_arm = []
  arms_by make around (tree.arm cases d rest) =
      cases_by make (is_some around) cases
      ++ (declaration_by make (site_in AsArm around) d ++ make (Fixed marks.Semicolon) []
      ∷ arms_by make around rest)

  -- ["default" ":" declaration ";"] "}"
  pub default_by : {A : Type 0} → (Word → List Role → A) → Option (List ℕ) → tree.Default → List A
  default_by make around tree.no_default = make (Fixed marks.CloseBrace) [] ∷ []
  default_by make around (tree.default d) =
      make (Fixed marks.Default) []
      ∷ make (Fixed marks.Colon) []
      ∷ (declaration_by make (site_in AsArm around) d ++ make (Fixed marks.Semicolon) []
      ∷ make (Fixed marks.CloseBrace) [] ∷ [])

-- arg: type | "string"; nothing inside an inline type has a role
abbrev pub argument_by : {A : Type 0} → (Word → List Role → A) → Bool → tree.Argument → List A
argument_by make told tree.Text = make (Fixed marks.String) [] ∷ []
argument_by make told (tree.Typed type) =
    type_by make (argument_roles told type) (where_told told uses.ByValue) None type

-- "void", which has these roles, | arg
abbrev pub passed_by : {A : Type 0} → (Word → List Role → A) → Bool → List Role → Option tree.Argument
    → List A
passed_by make told void None = make (Fixed marks.Void) void ∷ []
passed_by make told void (Some a) = argument_by make told a

-- ("," arg)*
abbrev pub others_by : {A : Type 0} → (Word → List Role → A) → Bool → List tree.Argument → List A
others_by make told [] = []
others_by make told (a ∷ rest) =
    make (Fixed marks.Comma) [] ∷ (argument_by make told a ++ others_by make told rest)

-- result NAME "(" first ("," arg)* ")" "=" NUMBER ";"
abbrev pub procedure_by : {A : Type 0} → (Word → List Role → A) → Bool → tree.Procedure → List A
procedure_by make told p =
    passed_by make told (roles_where told (VoidResult ∷ [])) p.result
    ++ make (Name p.name) (roles_where told (ProcedureName p.name ∷ []))
    ∷ make (Fixed marks.OpenParenthesis) []
    ∷ ((passed_by make told (roles_where told (VoidArgument (length p.others) ∷ [])) p.first
    ++ others_by make told p.others)
    ++ make (Fixed marks.CloseParenthesis) []
    ∷ make (Fixed marks.Equals) []
    ∷ make (Number p.number) (roles_where told (ProcedureNumber p.number ∷ []))
    ∷ make (Fixed marks.Semicolon) [] ∷ [])

abbrev pub procedures_by : {A : Type 0} → (Word → List Role → A) → Bool → List tree.Procedure → List A
procedures_by make told [] = []
procedures_by make told (p ∷ ps) = procedure_by make told p ++ procedures_by make told ps

-- "version" NAME "{" procedure (procedure)* "}" "=" NUMBER ";"
abbrev pub version_by : {A : Type 0} → (Word → List Role → A) → Bool → tree.Version → List A
version_by make told v =
    make (Fixed marks.Version) []
    ∷ make (Name v.name) (roles_where told (VersionName v.name ∷ []))
    ∷ make (Fixed marks.OpenBrace) []
    ∷ (procedures_by make told v.procedures
    ++ make (Fixed marks.CloseBrace) []
    ∷ make (Fixed marks.Equals) []
    ∷ make (Number v.number) (roles_where told (VersionNumber v.number ∷ []))
    ∷ make (Fixed marks.Semicolon) [] ∷ [])

abbrev pub versions_by : {A : Type 0} → (Word → List Role → A) → Bool → List tree.Version → List A
versions_by make told [] = []
versions_by make told (v ∷ vs) = version_by make told v ++ versions_by make told vs

-- a definition, whose words have roles where `told`
abbrev pub definition_by : {A : Type 0} → (Word → List Role → A) → Bool → tree.Definition → List A
definition_by make told (tree.Const name value) =
    make (Fixed marks.Const) []
    ∷ make (Name name) (Declares name kinds.Constant false ∷ [])
    ∷ make (Fixed marks.Equals) []
    ∷ make (spell_value value) (value_roles (ConstantValue value) value) ∷ make (Fixed marks.Semicolon) []
    ∷ []
definition_by make told (tree.Typedef d) =
    make (Fixed marks.Typedef) []
    ∷ (declaration_by make (where_told told InTypedef) d ++ make (Fixed marks.Semicolon) [] ∷ [])
definition_by make told (tree.NewType name body) =
    make (Fixed (body_mark body)) []
    ∷ make (Name name) (Declares name (body_kind body) false ∷ [])
    ∷ (body_by make (where_told told name) body ++ make (Fixed marks.Semicolon) [] ∷ [])
definition_by make told (tree.Program name versions number) =
    make (Fixed marks.Program) []
    ∷ make (Name name) (Declares name kinds.Program false ∷ [])
    ∷ make (Fixed marks.OpenBrace) []
    ∷ (versions_by make told versions
    ++ make (Fixed marks.CloseBrace) []
    ∷ make (Fixed marks.Equals) [] ∷ make (Number number) (ProgramNumber number ∷ [])
    ∷ make (Fixed marks.Semicolon) [] ∷ [])

-- the words of a definition, each with its roles
abbrev pub gloss : tree.Definition → List Gloss
gloss d = definition_by glossed true d

-- what is told of words by their roles, where the first word has the number `at`
abbrev pub told_of : {A : Type 0} → (ℕ → List Role → List A) → ℕ → List Gloss → List A
told_of tell at [] = []
told_of tell at (g ∷ gs) = tell at g.roles ++ told_of tell (at + 1) gs
