-- The types of a text.
use Rattle.std.specs.Prelude.{◌≡◌, ◌<◌, ℕ, List, [], ◌++◌, length, map, Option, Result, Ok, Err}
use Rattle.x_trees.specs.Tree.{Definition}
use Rattle.x_schema.specs.Schema.{Schema}
use Rattle.x_schema.specs.Schemas.{IsSchemaOf}
use Rattle.x_compile.specs.Compile.{Item, definitions_of, faults_of}
use Rattle.x_compile.specs.Known.{KnownText, known_definitions}
use Rattle.x_session.specs.declared.session.schema_fault.SchemaFault.{SchemaFault}
use Rattle.x_session.specs.declared.session.schema_fault.SchemaFault.TheVariants.{Faulty, NoMemory}

-- what is known before a text, and then what its items define
abbrev pub all_definitions : KnownText → List Item → List (Option Definition)
all_definitions known items = known_definitions known ++ definitions_of items

-- this is known by a text that has these items
pub record IsKnownBy (items : List Item) (known : KnownText) : Type 0 where
  pub definitions : known_definitions known ≡ definitions_of items
  pub outcomes : known.outcomes ≡ map (λ i. i.result) items

-- A text has a schema, that of the definitions known before it and its own, exactly where it has no fault;
-- want of memory is told of no other.
abbrev pub GivesSchema : KnownText → List ℕ → List Item → Result Schema SchemaFault → Type 0
GivesSchema known text items (Ok schema) =
    (faults_of text items ≡ []) × IsSchemaOf (all_definitions known items) schema
GivesSchema known text items (Err Faulty) = 0 < length (faults_of text items)
GivesSchema known text items (Err NoMemory) = faults_of text items ≡ []
