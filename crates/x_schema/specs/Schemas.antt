-- What a schema is of a text's items: the types that they declare, and their procedures.
use Rattle.std.specs.Prelude.{◌≡◌, List, [], Option}
use Rattle.x_trees.specs.Tree as tree
use Rattle.x_schema.specs.ProceduresOf.{AreProceduresBehind, procedures_of}
use Rattle.x_schema.specs.Schema.{Schema, form_at}
use Rattle.x_schema.specs.SchemaOf.{AreTypesOf, numbers_of}
use Rattle.x_schema.specs.declared.form.Form.TheVariants as forms

pub record IsSchemaOf (definitions : List (Option tree.Definition)) (s : Schema) : Type 0 where
  pub void : form_at s 0 ≡ forms.Void
  pub types : AreTypesOf s (numbers_of definitions) [] definitions
  pub procedures : AreProceduresBehind s [] (procedures_of definitions)
