-- The definitions that a text lacks: each name that it uses and nobody declares is taken as one of C.
use Rattle.std.specs.Prelude.{ℕ, ◌+◌, ◌*◌, Bool, not, ◌&&◌, List, [], ◌++◌, Option, Some, None, is_some}
use Rattle.std.specs.Prelude.{codes, decimal, if◌then◌else◌}
use Rattle.std.specs.List.{enumerate_from, flat_map}
use Rattle.x_trees.specs.Tree.{Definition}
use Rattle.x_trees.specs.declared.names.mention.Use.{Use}
use Rattle.x_trees.specs.declared.names.mention.Use.TheVariants as uses
use Rattle.x_trees.specs.declared.trees.declaration.Tag.{Tag}
use Rattle.x_trees.specs.declared.trees.declaration.Tag.TheVariants as tags
use Rattle.x_rules.specs.Results.{KnownNames}
use Rattle.x_follow.specs.Lacking.{is_lacking_name}
use Rattle.x_prelude.specs.CTypes.{c_type, c_types}
use Rattle.x_prelude.specs.Lacking.{Occurrence, first_of_each, first_tag, lacking, name_of}
use Rattle.x_prelude.specs.declared.definition.FromC.{FromC}

-- ---- the types of C, known by what is on the wire

-- a text uses the name, and neither it nor what is known before it declares it
abbrev pub lacks_name : KnownNames → List (Option Definition) → List ℕ → Bool
lacks_name known definitions name = not (is_some (known name)) && is_lacking_name definitions name

-- a type of C, as it is declared, where it is lacking
abbrev pub type_text : Bool → List ℕ → List ℕ
type_text lacks declaration = if lacks then codes "typedef " ++ declaration ++ codes ";\n" else []

-- those of a table that a text lacks, in the order of the table
abbrev pub types_in : List (List ℕ × List ℕ) → KnownNames → List (Option Definition) → List ℕ
types_in table known definitions = flat_map (λ e. type_text (lacks_name known definitions e.0) e.1) table

-- ---- any other name of C: a constant of unknown number, or a type of unknown layout

-- The numbers of two constants differ, and fit an int of C: no text has as many names as 2^22.
abbrev pub constant_number : ℕ → ℕ
constant_number number = 1073741824 + 256 * number

-- The definition of the name that has this number: by its keyword, if there is one; else it is a constant if
-- it is one where it is used first. A type without a keyword is taken for an int, so that it may also be that
-- of a discriminant.
abbrev pub foreign_text : ℕ → List ℕ → Use → Option Tag → List ℕ
foreign_text number name usage (Some tags.Struct) =
    codes "struct " ++ name ++ codes " { opaque unknown<>; };\n"
foreign_text number name usage (Some tags.Union) =
    codes "union " ++ name ++ codes " switch (int known) { case 0: void; default: void; };\n"
foreign_text number name usage (Some tags.Enum) =
    codes "enum " ++ name ++ codes " { " ++ name ++ codes "__ = " ++ decimal (constant_number number)
    ++ codes " };\n"
foreign_text number name uses.Value None =
    codes "const " ++ name ++ codes " = " ++ decimal (constant_number number) ++ codes ";\n"
foreign_text number name usage None = codes "typedef int " ++ name ++ codes ";\n"

-- the name is taken as a type of C
abbrev pub is_type : FromC → List ℕ → Bool
is_type from name = from.types && is_some (c_type name)

-- the definition of a name by its uses, the first of which is this one, unless it is taken as a type of C
abbrev pub definition_of : FromC → (lacking : List Occurrence) → ℕ → Occurrence → List ℕ
definition_of from all number o =
    if is_type from (name_of o) then []
    else foreign_text number (name_of o) o.mention.usage (first_tag (name_of o) all)

-- the definitions of the names that are lacking, numbered from 0 in the order of their first uses
abbrev pub definitions_of_names : FromC → (lacking : List Occurrence) → List ℕ
definitions_of_names from all =
    flat_map (λ e. definition_of from all e.0 e.1) (enumerate_from 0 (first_of_each all))

-- ---- both

-- What a text with these definitions lacks where this is known before it, as far as it may be taken from C:
-- types, and then the other names in the order in which it uses them first.
abbrev pub prelude : FromC → KnownNames → List (Option Definition) → List ℕ
prelude from known definitions = (if from.types then types_in c_types known definitions else [])
    ++ (if from.foreign then definitions_of_names from (lacking known definitions) else [])
