-- What types are as discriminants, and how high they are.
use Rattle.std.specs.Prelude.{ℕ, suc, max, List, [], ◌∷◌, ◌++◌, map, Option, Some, None, ℤ, option_map}
use Rattle.std.specs.Prelude.{option_and_then, if◌then◌else◌}
use Rattle.std.specs.Option.{option_map_or}
use lib.Signed.{lt_z}
use Rattle.x_trees.specs.Tree as tree
use Rattle.x_trees.specs.Gloss.{use_by}
use Rattle.x_trees.specs.declared.trees.declaration.Basic.{Basic}
use Rattle.x_trees.specs.declared.trees.declaration.Basic.TheVariants as basics
use Rattle.x_trees.specs.declared.trees.declaration.Tag.{Tag}
use Rattle.x_trees.specs.declared.names.mention.Use.{Use}
use Rattle.x_trees.specs.declared.names.mention.Use.TheVariants as uses
use Rattle.x_rules.specs.Views as views
use Rattle.x_rules.specs.Views.{View, Class, Other, Signed, Unsigned, Boolean, Enumeration}
use Rattle.x_numbers.specs.Numbers.{is_enum_number}
use Rattle.x_outline.specs.Bodies.{bodies}
use Rattle.x_rules.specs.Constants.{Known, number_named}
use Rattle.x_rules.specs.Mentioned.{suits}

-- what a use by value sees of a type; none where the use has a fault
pub record Sight : Type 0 where
  pub class : Class
  pub height : ℕ

abbrev pub type_seen : View → Option Tag → Option Sight
type_seen (views.Earlier kind lifted (views.OfType class height)) tag =
    if suits tag kind then Some (record { class = class; height = height }) else None
type_seen view tag = None

-- ---- numbers as a set

-- a number put in where it belongs, once
abbrev pub put_number : ℤ → List ℤ → List ℤ
put_number z [] = z ∷ []
put_number z (x ∷ xs) = if lt_z z x then z ∷ x ∷ xs else (if lt_z x z then x ∷ put_number z xs else x ∷ xs)

-- the numbers in ascending order, each once
abbrev pub number_set : List ℤ → List ℤ
number_set [] = []
number_set (z ∷ zs) = put_number z (number_set zs)

-- all the numbers, if there are all
abbrev pub if_all : List (Option ℤ) → Option (List ℤ)
if_all [] = Some []
if_all (None ∷ rest) = None
if_all (Some z ∷ rest) = option_map (λ zs. z ∷ zs) (if_all rest)

-- ---- classes

abbrev pub basic_class : Basic → Class
basic_class basics.Int = Signed
basic_class basics.Long = Signed
basic_class basics.Unsigned = Unsigned
basic_class basics.UnsignedInt = Unsigned
basic_class basics.UnsignedLong = Unsigned
basic_class basics.Bool = Boolean
basic_class basic = Other

-- the number, if an enum may have it
abbrev pub enum_number : Option ℤ → Option ℤ
enum_number number = option_and_then (λ z. if is_enum_number z then Some z else None) number

-- the class of an enum: its numbers; there is none that is known where an enumerator has none that an enum
-- may have
abbrev pub enum_class : List Known → List tree.Enumerator → Option Class
enum_class known es =
    option_map (λ zs. Enumeration (number_set zs))
    (if_all (map (λ e. enum_number (number_named known e.name)) es))

abbrev pub body_class : List Known → tree.Body → Option Class
body_class known (tree.Enum es) = enum_class known es
body_class known body = Some Other

-- the class of a type; none is known where the use of a name has a fault
abbrev pub type_class : (List ℕ → View) → List Known → tree.DataType → Option Class
type_class see known (tree.Simple basic) = Some (basic_class basic)
type_class see known (tree.Name name) = option_map (λ s. s.class) (type_seen (see name) None)
type_class see known (tree.Tagged tag name) = option_map (λ s. s.class) (type_seen (see name) (Some tag))
type_class see known (tree.Inline body) = body_class known body

-- the class of what a declaration gives: that of its type, where it is plain; `void` gives none to be known
abbrev pub declaration_class : (List ℕ → View) → List Known → tree.Declaration → Option Class
declaration_class see known tree.Void = None
declaration_class see known (tree.Of type name tree.Plain) = type_class see known type
declaration_class see known declaration = Some Other

-- ---- heights

-- the height of a type that a name is seen to be; 0 where its use has a fault
abbrev pub seen_height : View → Option Tag → ℕ
seen_height view tag = option_map_or (λ s. s.height) (type_seen view tag) 0

-- a height that counts where the type is held; links add nothing
abbrev pub where_held : Use → ℕ → ℕ
where_held uses.ByValue height = height
where_held usage height = 0

abbrev mutual
  -- the height of a type; that of a body is 1 more than the greatest of those that it holds
  pub type_height : (List ℕ → View) → tree.DataType → ℕ
  type_height see (tree.Simple basic) = 0
  type_height see (tree.Name name) = seen_height (see name) None
  type_height see (tree.Tagged tag name) = seen_height (see name) (Some tag)
  type_height see (tree.Inline body) = body_height see body

  pub body_height : (List ℕ → View) → tree.Body → ℕ
  body_height see (tree.Enum es) = 1
  body_height see (tree.Struct ds) = suc (fields_height see ds)
  body_height see (tree.Union d arms other) =
      suc (max (held_height see d) (max (arms_height see arms) (default_height see other)))

  -- the height of what a declaration holds
  pub held_height : (List ℕ → View) → tree.Declaration → ℕ
  held_height see tree.Void = 0
  held_height see (tree.Of type name shape) = where_held (use_by shape) (type_height see type)
  held_height see (tree.Opaque name size) = 0
  held_height see (tree.String name most) = 0

  pub fields_height : (List ℕ → View) → tree.Declarations → ℕ
  fields_height see tree.none = 0
  fields_height see (tree.more d ds) = max (held_height see d) (fields_height see ds)

  pub arms_height : (List ℕ → View) → tree.Arms → ℕ
  arms_height see tree.no_arm = 0
  arms_height see (tree.arm cases d rest) = max (held_height see d) (arms_height see rest)

  pub default_height : (List ℕ → View) → tree.Default → ℕ
  default_height see tree.no_default = 0
  default_height see (tree.default d) = held_height see d

-- the height of the type that a typedef declares
abbrev pub defined_heights : tree.Definition → (List ℕ → View) → List ℕ
defined_heights (tree.Typedef d) see = suc (held_height see d) ∷ []
defined_heights d see = []

-- the heights of the types that a definition declares, lifted ones too
abbrev pub heights : tree.Definition → (List ℕ → View) → List ℕ
heights d see = defined_heights d see ++ map (λ b. body_height see b.body) (bodies d)
