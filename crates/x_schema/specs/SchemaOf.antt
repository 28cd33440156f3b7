-- What the types of a text are: the form of each type that an item declares, as RFC 4506, section 4, gives it
-- to the words of the item. They are told of any text. What is a fault counts as something: a name that is no
-- type is `void`, a number that is not known is none.
use Rattle.std.specs.Prelude.{◌≡◌, ℕ, ◌-◌, ◌^◌, ℤ, pos, negsuc, nat_lt, nat_eq, Bool, is_some, List, [], ◌∷◌}
use Rattle.std.specs.Prelude.{◌++◌, map, Option, Some, None, option_and_then, codes, if◌then◌else◌}
use Rattle.std.specs.Map.{lookup}
use Rattle.std.specs.Option.{option_map_or}
use Rattle.std.specs.Str.{bytes_eq}
use Rattle.std.specs.Global.{Global}
use Rattle.std.specs.declared.vec.Vec.{Vec}
use Rattle.x_trees.specs.Tree as tree
use Rattle.x_trees.specs.Declarations.{name_of}
use Rattle.x_trees.specs.Gloss.{lifted_name, use_by}
use Rattle.x_trees.specs.declared.names.mention.Use.{Use}
use Rattle.x_trees.specs.declared.names.mention.Use.TheVariants as uses
use Rattle.x_trees.specs.declared.trees.declaration.Basic.{Basic}
use Rattle.x_trees.specs.declared.trees.declaration.Basic.TheVariants as basics
use Rattle.x_numbers.specs.Numbers.{next_number, number_spelled}
use Rattle.x_schema.specs.Choices.{Choice}
use Rattle.x_schema.specs.Schema.{Schema, form_at, name_at, target_at}
use Rattle.x_schema.specs.Sound.{is_legal}
use Rattle.x_schema.specs.declared.form.Arm.{Arm}
use Rattle.x_schema.specs.declared.form.Arm.TheVariants as arms
use Rattle.x_schema.specs.declared.form.Field.{Field}
use Rattle.x_schema.specs.declared.form.Form.{Form}
use Rattle.x_schema.specs.declared.form.Form.TheVariants as forms
use Rattle.x_schema.specs.declared.schema.NamedType.{NamedType}

-- the entries with one more behind them, unless there is one of the key: the first has it
abbrev pub with_first : {K X : Type 0} → (K → K → Bool) → List (K × X) → K → X → List (K × X)
with_first eq entries key x = if is_some (lookup (eq key) entries) then entries else entries ++ (key, x) ∷ []

-- ---- numbers

-- names of constants with their numbers
abbrev pub Numbers : Type 0
Numbers = List (List ℕ × ℤ)

-- those that are declared beforehand
abbrev pub beforehand : Numbers
beforehand = (codes "TRUE", pos 1) ∷ (codes "FALSE", pos 0) ∷ []

-- the number of a value, if it is known
abbrev pub number_in : Numbers → tree.Value → Option ℤ
number_in numbers (tree.Number text) = number_spelled text
number_in numbers (tree.Named name) = lookup (bytes_eq name) numbers

abbrev pub with_number : Numbers → List ℕ → Option ℤ → Numbers
with_number numbers name None = numbers
with_number numbers name (Some z) = with_first bytes_eq numbers name z

-- the number of an enumerator: that of its value, else the next one behind the enumerator before
abbrev pub number_given : Numbers → Option ℤ → Option tree.Value → Option ℤ
number_given numbers next None = next
number_given numbers next (Some v) = number_in numbers v

abbrev pub with_enumerators : Numbers → Option ℤ → List tree.Enumerator → Numbers
with_enumerators numbers next [] = numbers
with_enumerators numbers next (e ∷ es) =
    with_enumerators (with_number numbers e.name (number_given numbers next e.value))
    (next_number (number_given numbers next e.value)) es

-- with those of the enums that stand in a part of a definition
abbrev mutual
  pub with_body : Numbers → tree.Body → Numbers
  with_body numbers (tree.Enum es) = with_enumerators numbers (Some (pos 0)) es
  with_body numbers (tree.Struct ds) = with_declarations numbers ds
  with_body numbers (tree.Union d arms other) =
      with_default (with_arms (with_declaration numbers d) arms) other

  pub with_type : Numbers → tree.DataType → Numbers
  with_type numbers (tree.Simple b) = numbers
  with_type numbers (tree.Name n) = numbers
  with_type numbers (tree.Tagged tag n) = numbers
  with_type numbers (tree.Inline body) = with_body numbers body

  pub with_declaration : Numbers → tree.Declaration → Numbers
  with_declaration numbers tree.Void = numbers
  with_declaration numbers (tree.Of type name shape) = with_type numbers type
  with_declaration numbers (tree.Opaque name length) = numbers
  with_declaration numbers (tree.String name most) = numbers

  pub with_declarations : Numbers → tree.Declarations → Numbers
  with_declarations numbers tree.none = numbers
  with_declarations numbers (tree.more d ds) = with_declarations (with_declaration numbers d) ds

  pub with_arms : Numbers → tree.Arms → Numbers
  with_arms numbers tree.no_arm = numbers
  with_arms numbers (tree.arm values d rest) = with_arms (with_declaration numbers d) rest

  pub with_default : Numbers → tree.Default → Numbers
  with_default numbers tree.no_default = numbers
  with_default numbers (tree.default d) = with_declaration numbers d

abbrev pub with_definition : Numbers → Option tree.Definition → Numbers
with_definition numbers None = numbers
with_definition numbers (Some (tree.Const name value)) = with_number numbers name (number_in numbers value)
with_definition numbers (Some (tree.Typedef d)) = with_declaration numbers d
with_definition numbers (Some (tree.NewType name body)) = with_body numbers body
with_definition numbers (Some (tree.Program name versions number)) = numbers

abbrev pub with_definitions : Numbers → List (Option tree.Definition) → Numbers
with_definitions numbers [] = numbers
with_definitions numbers (d ∷ ds) = with_definitions (with_definition numbers d) ds

-- the constants of a text with their numbers
abbrev pub numbers_of : List (Option tree.Definition) → Numbers
numbers_of definitions = with_definitions beforehand definitions

-- ---- words

-- the word of four bytes that is the number, if it is one from 0 to 2^32-1
abbrev pub unsigned_word : ℤ → Option ℕ
unsigned_word (pos n) = if nat_lt n (2 ^ 32) then Some n else None
unsigned_word (negsuc n) = None

-- the word of four bytes that stands for a number from -2^31 to 2^31-1, by two's complement (section 4.1)
abbrev pub signed_word : ℤ → Option ℕ
signed_word (pos n) = if nat_lt n (2 ^ 31) then Some n else None
signed_word (negsuc n) = if nat_lt n (2 ^ 31) then Some ((2 ^ 32 - 1) - n) else None

-- a size that is not known is 0
abbrev pub size_in : Numbers → tree.Value → ℕ
size_in numbers v = option_map_or (λ w. w) (option_and_then unsigned_word (number_in numbers v)) 0

-- without a greatest size it is the greatest number
abbrev pub limit_in : Numbers → Option tree.Value → ℕ
limit_in numbers None = 2 ^ 32 - 1
limit_in numbers (Some v) = size_in numbers v

abbrev pub with_word : {X : Type 0} → List (ℕ × X) → Option ℕ → X → List (ℕ × X)
with_word entries None x = entries
with_word entries (Some w) x = with_first nat_eq entries w x

-- the words of enumerators behind others, each with the first name of its number (section 4.3)
abbrev pub words_from : Numbers → Option ℤ → List (ℕ × List ℕ) → List tree.Enumerator → List (ℕ × List ℕ)
words_from numbers next words [] = words
words_from numbers next words (e ∷ es) =
    words_from numbers (next_number (number_given numbers next e.value))
    (with_word words (option_and_then signed_word (number_given numbers next e.value)) e.name) es

-- the word of a number of the form, as a discriminant may have it (section 4.15)
abbrev pub word_by : Form → ℤ → Option ℕ
word_by forms.UnsignedInt z = unsigned_word z
word_by form z = signed_word z

abbrev pub if_legal : Form → ℕ → Option ℕ
if_legal form w = if is_legal form w then Some w else None

-- the word of a case, if its number is known and the discriminant may have it
abbrev pub case_word : Numbers → Form → tree.Value → Option ℕ
case_word numbers form v =
    option_and_then (if_legal form) (option_and_then (word_by form) (number_in numbers v))

-- the arms of words, with that of these cases
abbrev pub with_cases : Numbers → Form → List (ℕ × Arm) → List tree.Value → Arm → List (ℕ × Arm)
with_cases numbers form entries [] arm = entries
with_cases numbers form entries (v ∷ vs) arm =
    with_cases numbers form (with_word entries (case_word numbers form v) arm) vs arm

-- ---- forms

abbrev pub basic_form : Basic → Form
basic_form basics.Int = forms.Int
basic_form basics.UnsignedInt = forms.UnsignedInt
basic_form basics.Long = forms.Int
basic_form basics.UnsignedLong = forms.UnsignedInt
basic_form basics.Hyper = forms.Hyper
basic_form basics.UnsignedHyper = forms.UnsignedHyper
basic_form basics.Unsigned = forms.UnsignedInt
basic_form basics.Float = forms.Float
basic_form basics.Double = forms.Double
basic_form basics.Quadruple = forms.Quadruple
basic_form basics.Bool = forms.Bool

abbrev pub opaque_form : Numbers → tree.Length → Form
opaque_form numbers (tree.Fixed v) = forms.FixedOpaque (size_in numbers v)
opaque_form numbers (tree.Variable most) = forms.Opaque (limit_in numbers most)

-- an enum without a number is `void`
abbrev pub enum_form : List (ℕ × ℕ) → Form
enum_form [] = forms.Void
enum_form (e ∷ es) = forms.Enum (e ∷ es)

-- a union without a case is `void`
abbrev pub union_form : Field → Choice → Form
union_form discriminant choice = by choice.cases
  where
    by : List (ℕ × Arm) → Form
    by [] = forms.Void
    by (c ∷ cs) = forms.Union discriminant choice

-- names of types, with what they stand for
abbrev pub Types : Type 0
Types = List (List ℕ × NamedType)

-- the place that a name leads to, among these types; that of `void` where it is none of them
abbrev pub place_named : Types → List ℕ → ℕ
place_named types name = option_map_or (λ t. t.form) (lookup (bytes_eq name) types) 0

-- what an item is read by: the numbers of constants, and the types of the items before it
pub record Known : Type 0 where
  pub numbers : Numbers
  pub types : Types

-- ---- what stands at a place

-- the names of the enum's numbers
pub record IsEnum (s : Schema) (numbers : Numbers) (es : List tree.Enumerator) (place : ℕ) : Type 0 where
  pub names : List (ℕ × ℕ)
  pub form : form_at s place ≡ enum_form names
  pub first : map (λ e. (e.0, name_at s e.1)) names ≡ words_from numbers (Some (pos 0)) [] es

-- the arm is nothing where `void` is declared, else it has the declared name
abbrev pub IsArmOf : Schema → tree.Declaration → Arm → Type 0
IsArmOf s tree.Void arm = arm ≡ arms.Void
IsArmOf s d arms.Void = ⊥
IsArmOf s d (arms.Of field) = name_at s field.name ≡ name_of d

abbrev pub place_in : Arm → ℕ
place_in arms.Void = 0
place_in (arms.Of field) = field.form

-- What stands around the name of a declaration, at the place, and the part that is of the declared type: a
-- place, or a link where it is used as one.
abbrev pub IsShape : Schema → Numbers → tree.Shape → ℕ → ℕ → Type 0
IsShape s numbers tree.Plain place part = place ≡ part
IsShape s numbers tree.Optional place part = form_at s place ≡ forms.Optional part
IsShape s numbers (tree.Array (tree.Fixed size)) place part =
    form_at s place ≡ forms.FixedArray part (size_in numbers size)
IsShape s numbers (tree.Array (tree.Variable most)) place part =
    form_at s place ≡ forms.Array part (limit_in numbers most)

-- the place of a part
abbrev pub place_used : Schema → Use → ℕ → ℕ
place_used s uses.ByValue part = part
place_used s usage part = target_at s part

-- by value a name is one of an item before; behind a link it is one of the whole text
abbrev pub types_seen : Schema → Known → Use → Types
types_seen s known uses.ByValue = known.types
types_seen s known usage = s.types

abbrev mutual
  -- what is declared
  pub IsDeclared : Schema → Known → tree.Declaration → ℕ → Type 0
  IsDeclared s known tree.Void place = form_at s place ≡ forms.Void
  IsDeclared s known (tree.Of type name shape) place =
      (part : ℕ) × IsShape s known.numbers shape place part × IsType s known type (use_by shape) part
  IsDeclared s known (tree.Opaque name length) place = form_at s place ≡ opaque_form known.numbers length
  IsDeclared s known (tree.String name most) place =
      form_at s place ≡ forms.String (limit_in known.numbers most)

  pub IsType : Schema → Known → tree.DataType → Use → ℕ → Type 0
  IsType s known (tree.Simple b) usage part = form_at s (place_used s usage part) ≡ basic_form b
  IsType s known (tree.Name n) usage part = place_used s usage part ≡ place_named (types_seen s known usage) n
  IsType s known (tree.Tagged tag n) usage part =
      place_used s usage part ≡ place_named (types_seen s known usage) n
  IsType s known (tree.Inline body) usage part = IsBody s known body (place_used s usage part)

  pub IsBody : Schema → Known → tree.Body → ℕ → Type 0
  IsBody s known (tree.Enum es) place = IsEnum s known.numbers es place
  IsBody s known (tree.Struct ds) place =
      (fields : Vec Field Global) × (form_at s place ≡ forms.Struct fields)
      × AreFields s known ds fields.items
  IsBody s known (tree.Union d arms other) place =
      (discriminant : Field) × (choice : Choice) × (form_at s place ≡ union_form discriminant choice)
      × (name_at s discriminant.name ≡ name_of d) × IsDeclared s known d discriminant.form
      × AreArms s known (form_at s discriminant.form) arms [] choice.cases
      × IsDefault s known other choice.default

  pub AreFields : Schema → Known → tree.Declarations → List Field → Type 0
  AreFields s known tree.none fields = fields ≡ []
  AreFields s known (tree.more d ds) fields =
      (field : Field) × (rest : List Field) × (fields ≡ field ∷ rest)
      × (name_at s field.name ≡ name_of d) × IsDeclared s known d field.form × AreFields s known ds rest

  -- the arms of words, behind others; the first arm of a number is its arm
  pub AreArms : Schema → Known → Form → tree.Arms → List (ℕ × Arm) → List (ℕ × Arm) → Type 0
  AreArms s known form tree.no_arm before cases = cases ≡ before
  AreArms s known form (tree.arm values d rest) before cases =
      (arm : Arm) × IsArmOf s d arm × IsDeclared s known d (place_in arm)
      × AreArms s known form rest (with_cases known.numbers form before values arm) cases

  pub IsDefault : Schema → Known → tree.Default → Option Arm → Type 0
  IsDefault s known tree.no_default chosen = chosen ≡ None
  IsDefault s known (tree.default d) chosen =
      (arm : Arm) × (chosen ≡ Some arm) × IsArmOf s d arm × IsDeclared s known d (place_in arm)

-- ---- names of types

-- The typedefs that stand for the types of a part, lifted ones too, in the order of the text, those inside
-- first: a body with a name is as well a typedef of the name (section 4.18).
abbrev pub as_typedef : List ℕ → tree.Body → tree.Declaration
as_typedef name body = tree.Of (tree.Inline body) name tree.Plain

abbrev mutual
  pub typedefs_inside : List ℕ → tree.Body → List tree.Declaration
  typedefs_inside around (tree.Enum es) = []
  typedefs_inside around (tree.Struct ds) = typedefs_of_fields around ds
  typedefs_inside around (tree.Union d arms other) =
      typedefs_of around d ++ (typedefs_of_arms around arms ++ typedefs_of_default around other)

  -- of a type, which has this name where it is an inline one
  pub typedefs_of_type : List ℕ → tree.DataType → List tree.Declaration
  typedefs_of_type lifted (tree.Simple b) = []
  typedefs_of_type lifted (tree.Name n) = []
  typedefs_of_type lifted (tree.Tagged tag n) = []
  typedefs_of_type lifted (tree.Inline body) = typedefs_inside lifted body ++ as_typedef lifted body ∷ []

  pub typedefs_of : List ℕ → tree.Declaration → List tree.Declaration
  typedefs_of around tree.Void = []
  typedefs_of around (tree.Of type name shape) = typedefs_of_type (lifted_name around name) type
  typedefs_of around (tree.Opaque name length) = []
  typedefs_of around (tree.String name most) = []

  pub typedefs_of_fields : List ℕ → tree.Declarations → List tree.Declaration
  typedefs_of_fields around tree.none = []
  typedefs_of_fields around (tree.more d ds) = typedefs_of around d ++ typedefs_of_fields around ds

  pub typedefs_of_arms : List ℕ → tree.Arms → List tree.Declaration
  typedefs_of_arms around tree.no_arm = []
  typedefs_of_arms around (tree.arm values d rest) = typedefs_of around d ++ typedefs_of_arms around rest

  pub typedefs_of_default : List ℕ → tree.Default → List tree.Declaration
  typedefs_of_default around tree.no_default = []
  typedefs_of_default around (tree.default d) = typedefs_of around d

-- of an item; what a program is given or gives has no name
abbrev pub typedefs : Option tree.Definition → List tree.Declaration
typedefs None = []
typedefs (Some (tree.Const name value)) = []
typedefs (Some (tree.Typedef tree.Void)) = []
typedefs (Some (tree.Typedef d)) = typedefs_of (name_of d) d ++ d ∷ []
typedefs (Some (tree.NewType name body)) = typedefs_inside name body ++ as_typedef name body ∷ []
typedefs (Some (tree.Program name versions number)) = []

-- each typedef has its name and its place
abbrev pub AreNamed : Schema → Known → List tree.Declaration → List NamedType → Type 0
AreNamed s known [] found = found ≡ []
AreNamed s known (d ∷ ds) found =
    (t : NamedType) × (rest : List NamedType) × (found ≡ t ∷ rest)
    × (name_at s t.name ≡ name_of d) × IsDeclared s known d t.form × AreNamed s known ds rest

-- types with others behind them; the first of a name has it
abbrev pub with_types : Schema → Types → List NamedType → Types
with_types s types [] = types
with_types s types (t ∷ ts) = with_types s (with_first bytes_eq types (name_at s t.name) t) ts

-- the types of a schema are these, with those that the items declare
abbrev pub AreTypesOf : Schema → Numbers → Types → List (Option tree.Definition) → Type 0
AreTypesOf s numbers types [] = s.types ≡ types
AreTypesOf s numbers types (d ∷ ds) =
    (found : List NamedType) × AreNamed s (record { numbers = numbers; types = types }) (typedefs d) found
    × AreTypesOf s numbers (with_types s types found) ds
