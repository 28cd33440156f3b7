-- The bodies that stand in a definition, and what stands in each: enumerators, names of fields, cases; and
-- the versions and procedures of a program. Each has the number of its word, counted from 0 among the words
-- of the definition.
--
-- `at` is the number of the first word of the part that a function is about.
use Rattle.std.specs.Prelude.{ℕ, ◌+◌, Bool, true, false, List, [], ◌∷◌, ◌++◌, length, Option}
use Rattle.x_trees.specs.Tree as tree
use Rattle.x_trees.specs.Spell.{spell_type, spell_body, spell_declaration, spell_cases, spell_arms}
use Rattle.x_trees.specs.Spell.{spell_enumerator, spell_passed, spell_others, spell_procedure}
use Rattle.x_trees.specs.Spell.{spell_procedures}

-- a body, its first word (the one behind the keyword), and the word that declares the type's name
pub record BodyAt : Type 0 where
  pub named : ℕ
  pub at : ℕ
  pub body : tree.Body

-- the words between the type of a declaration and its name
abbrev pub star : tree.Shape → ℕ
star tree.Optional = 1
star shape = 0

-- the word of the name of a declaration
abbrev pub name_word : ℕ → tree.Declaration → ℕ
name_word at tree.Void = at
name_word at (tree.Of type name shape) = at + length (spell_type type) + star shape
name_word at (tree.Opaque name size) = at + 1
name_word at (tree.String name most) = at + 1

-- Behind the discriminant of a union, whose body begins at the word, stand `)`, `{` and the arms; behind
-- those the default.

abbrev pub arms_at : ℕ → tree.Declaration → ℕ
arms_at at d = at + 2 + length (spell_declaration d) + 2

abbrev pub default_at : ℕ → tree.Declaration → tree.Arms → ℕ
default_at at d arms = arms_at at d + length (spell_arms arms)

-- the bodies inside a part, each behind those that stand inside it
abbrev mutual
  pub bodies_inside : ℕ → tree.Body → List BodyAt
  bodies_inside at (tree.Enum es) = []
  bodies_inside at (tree.Struct ds) = bodies_of_fields (at + 1) ds
  bodies_inside at (tree.Union d arms other) =
      bodies_of_declaration (at + 2) d
      ++ (bodies_of_arms (arms_at at d) arms ++ bodies_of_default (default_at at d arms) other)

  -- of a type, behind which so many words stand in front of the name of its declaration
  pub bodies_of_type : ℕ → ℕ → tree.DataType → List BodyAt
  bodies_of_type before at (tree.Simple b) = []
  bodies_of_type before at (tree.Name t) = []
  bodies_of_type before at (tree.Tagged tag t) = []
  bodies_of_type before at (tree.Inline body) =
      bodies_inside (at + 1) body
      ++ record { named = at + 1 + length (spell_body body) + before; at = at + 1; body = body } ∷ []

  pub bodies_of_declaration : ℕ → tree.Declaration → List BodyAt
  bodies_of_declaration at tree.Void = []
  bodies_of_declaration at (tree.Of type name shape) = bodies_of_type (star shape) at type
  bodies_of_declaration at (tree.Opaque name size) = []
  bodies_of_declaration at (tree.String name most) = []

  pub bodies_of_fields : ℕ → tree.Declarations → List BodyAt
  bodies_of_fields at tree.none = []
  bodies_of_fields at (tree.more d ds) =
      bodies_of_declaration at d ++ bodies_of_fields (at + length (spell_declaration d) + 1) ds

  pub bodies_of_arms : ℕ → tree.Arms → List BodyAt
  bodies_of_arms at tree.no_arm = []
  bodies_of_arms at (tree.arm cases d rest) =
      bodies_of_declaration (at + length (spell_cases cases)) d
      ++ bodies_of_arms (at + length (spell_cases cases) + length (spell_declaration d) + 1) rest

  pub bodies_of_default : ℕ → tree.Default → List BodyAt
  bodies_of_default at tree.no_default = []
  bodies_of_default at (tree.default d) = bodies_of_declaration (at + 2) d

-- the bodies of a definition: its own first; nothing inside an inline type that is an argument or a result
-- counts
abbrev pub bodies : tree.Definition → List BodyAt
bodies (tree.Const name value) = []
bodies (tree.Typedef d) = bodies_of_declaration 1 d
bodies (tree.NewType name body) = record { named = 1; at = 2; body = body } ∷ bodies_inside 2 body
bodies (tree.Program name versions number) = []

-- ---- enumerators

-- a name of an enum, its word, the value that it is given, and whether it is the first of its enum
pub record EnumeratorAt : Type 0 where
  pub word : ℕ
  pub name : List ℕ
  pub given : Option tree.Value
  pub is_first : Bool

abbrev pub enumerators_from : Bool → ℕ → List tree.Enumerator → List EnumeratorAt
enumerators_from is_first at [] = []
enumerators_from is_first at (e ∷ es) =
    record { word = at; name = e.name; given = e.value; is_first = is_first }
    ∷ enumerators_from false (at + length (spell_enumerator e) + 1) es

-- the enumerators of a body
abbrev pub enumerators_of : BodyAt → List EnumeratorAt
enumerators_of b = of b.body
  where
    of : tree.Body → List EnumeratorAt
    of (tree.Enum es) = enumerators_from true (b.at + 1) es
    of body = []

abbrev pub enumerators_in : List BodyAt → List EnumeratorAt
enumerators_in [] = []
enumerators_in (b ∷ bs) = enumerators_of b ++ enumerators_in bs

-- the enumerators of a definition, in the order of their words
abbrev pub enumerators : tree.Definition → List EnumeratorAt
enumerators d = enumerators_in (bodies d)

-- ---- names of fields, and cases

-- a name at its word
pub record NameAt : Type 0 where
  pub word : ℕ
  pub name : List ℕ

-- a value at its word
pub record ValueAt : Type 0 where
  pub word : ℕ
  pub value : tree.Value

-- a number, as it is spelled, at its word
pub record NumberAt : Type 0 where
  pub word : ℕ
  pub text : List ℕ

-- the name of a declaration, if it has one
abbrev pub field_at : ℕ → tree.Declaration → List NameAt
field_at at tree.Void = []
field_at at (tree.Of type name shape) =
    record { word = name_word at (tree.Of type name shape); name = name } ∷ []
field_at at (tree.Opaque name size) = record { word = at + 1; name = name } ∷ []
field_at at (tree.String name most) = record { word = at + 1; name = name } ∷ []

abbrev pub fields_from : ℕ → tree.Declarations → List NameAt
fields_from at tree.none = []
fields_from at (tree.more d ds) = field_at at d ++ fields_from (at + length (spell_declaration d) + 1) ds

abbrev pub arm_names_from : ℕ → tree.Arms → List NameAt
arm_names_from at tree.no_arm = []
arm_names_from at (tree.arm cases d rest) =
    field_at (at + length (spell_cases cases)) d
    ++ arm_names_from (at + length (spell_cases cases) + length (spell_declaration d) + 1) rest

abbrev pub default_name : ℕ → tree.Default → List NameAt
default_name at tree.no_default = []
default_name at (tree.default d) = field_at (at + 2) d

-- the names of the fields of a struct; of the discriminant, the arms and the default of a union
abbrev pub fields_of : BodyAt → List NameAt
fields_of b = of b.body
  where
    of : tree.Body → List NameAt
    of (tree.Enum es) = []
    of (tree.Struct ds) = fields_from (b.at + 1) ds
    of (tree.Union d arms other) =
        field_at (b.at + 2) d
        ++ (arm_names_from (arms_at b.at d) arms ++ default_name (default_at b.at d arms) other)

abbrev pub cases_from : ℕ → List tree.Value → List ValueAt
cases_from at [] = []
cases_from at (v ∷ vs) = record { word = at + 1; value = v } ∷ cases_from (at + 3) vs

abbrev pub arm_cases_from : ℕ → tree.Arms → List ValueAt
arm_cases_from at tree.no_arm = []
arm_cases_from at (tree.arm cases d rest) =
    cases_from at cases ++ arm_cases_from
    (at + length (spell_cases cases) + length (spell_declaration d) + 1) rest

-- the values of the cases of a union
abbrev pub cases_of : BodyAt → List ValueAt
cases_of b = of b.body
  where
    of : tree.Body → List ValueAt
    of (tree.Union d arms other) = arm_cases_from (arms_at b.at d) arms
    of body = []

-- ---- versions and procedures

-- the names and the numbers of the versions of a program, or of the procedures of a version
pub record Members : Type 0 where
  pub names : List NameAt
  pub numbers : List NumberAt

-- a member more, in front of the others
abbrev pub member : NameAt → NumberAt → Members → Members
member name number others = record { names = name ∷ others.names; numbers = number ∷ others.numbers }

abbrev pub no_members : Members
no_members = record { names = []; numbers = [] }

-- the word of a procedure's name: it stands behind the result
abbrev pub procedure_name : ℕ → tree.Procedure → ℕ
procedure_name at p = at + length (spell_passed p.result)

-- the word of a procedure's number: between its name and that stand `(`, the arguments, `)` and `=`
abbrev pub procedure_number : ℕ → tree.Procedure → ℕ
procedure_number at p =
    procedure_name at p + 2 + (length (spell_passed p.first) + length (spell_others p.others)) + 2

abbrev pub procedures_from : ℕ → List tree.Procedure → Members
procedures_from at [] = no_members
procedures_from at (p ∷ ps) =
    member (record { word = procedure_name at p; name = p.name })
    (record { word = procedure_number at p; text = p.number })
    (procedures_from (at + length (spell_procedure p)) ps)

-- the word of a version's number: behind the procedures, which begin three words behind the version, stand
-- `}` and `=`
abbrev pub version_number : ℕ → tree.Version → ℕ
version_number at v = at + 3 + length (spell_procedures v.procedures) + 2

-- the word behind a version: behind its number stands `;`
abbrev pub behind_version : ℕ → tree.Version → ℕ
behind_version at v = version_number at v + 2

abbrev pub versions_from : ℕ → List tree.Version → Members
versions_from at [] = no_members
versions_from at (v ∷ vs) =
    member (record { word = at + 1; name = v.name }) (record { word = version_number at v; text = v.number })
    (versions_from (behind_version at v) vs)

-- the procedures of each version
abbrev pub procedure_lists : ℕ → List tree.Version → List Members
procedure_lists at [] = []
procedure_lists at (v ∷ vs) = procedures_from (at + 3) v.procedures ∷ procedure_lists (behind_version at v) vs

-- the procedures of each version of a program, and the versions
abbrev pub members : tree.Definition → List Members
members (tree.Program name versions number) = procedure_lists 3 versions ++ versions_from 3 versions ∷ []
members d = []

-- ---- what may not be named twice

abbrev pub field_groups : List BodyAt → List (List NameAt)
field_groups [] = []
field_groups (b ∷ bs) = fields_of b ∷ field_groups bs

abbrev pub member_names : List Members → List (List NameAt)
member_names [] = []
member_names (m ∷ ms) = m.names ∷ member_names ms

-- the names that are held against one another: the fields of each body, the versions of a program, the
-- procedures of each version
abbrev pub name_groups : tree.Definition → List (List NameAt)
name_groups d = field_groups (bodies d) ++ member_names (members d)
