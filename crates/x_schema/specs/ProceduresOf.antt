-- What the procedures of a text are (RFC 5531, section 12): what each is called with and what it answers, by
-- its numbers. As the types, they are told of any text: an inline type, which may not be passed, counts as
-- `void`, and so does a name that is no type.
use Rattle.std.specs.Prelude.{◌≡◌, ℕ, ◌+◌, ◌^◌, ◌-◌, List, [], ◌∷◌, ◌++◌, map, Option, Some, None}
use Rattle.std.specs.Prelude.{option_and_then, codes, decimal}
use Rattle.std.specs.List.{flat_map}
use Rattle.std.specs.Global.{Global}
use Rattle.std.specs.declared.vec.Vec.{Vec}
use Rattle.x_trees.specs.Tree as tree
use Rattle.x_numbers.specs.Numbers.{number_spelled}
use Rattle.x_schema.specs.Schema.{Schema, form_at, name_at, same_numbers}
use Rattle.x_schema.specs.SchemaOf.{basic_form, place_named, unsigned_word, with_first}
use Rattle.x_schema.specs.declared.form.Field.{Field}
use Rattle.x_schema.specs.declared.form.Form.TheVariants as forms
use Rattle.x_schema.specs.declared.procedure.CompactProcedure.{CompactProcedure}
use Rattle.x_schema.specs.declared.procedure.ProcedureNumbers.{ProcedureNumbers}

-- ---- what is passed

-- the type of an argument or of a result; a name is one of the whole text
abbrev pub IsPassedType : Schema → tree.DataType → ℕ → Type 0
IsPassedType s (tree.Simple b) place = form_at s place ≡ basic_form b
IsPassedType s (tree.Name n) place = place ≡ place_named s.types n
IsPassedType s (tree.Tagged tag n) place = place ≡ place_named s.types n
IsPassedType s (tree.Inline body) place = form_at s place ≡ forms.Void

-- `string` alone is one of any length
abbrev pub IsArgument : Schema → tree.Argument → ℕ → Type 0
IsArgument s tree.Text place = form_at s place ≡ forms.String (2 ^ 32 - 1)
IsArgument s (tree.Typed type) place = IsPassedType s type place

abbrev pub IsPassed : Schema → Option tree.Argument → ℕ → Type 0
IsPassed s None place = form_at s place ≡ forms.Void
IsPassed s (Some a) place = IsArgument s a place

-- the name of an argument among several, which are counted from 1
abbrev pub argument_name : ℕ → List ℕ
argument_name number = codes "arg" ++ decimal number

-- the argument of this number as a field
pub record IsArgumentField (s : Schema) (number : ℕ) (a : Option tree.Argument) (field : Field) : Type 0 where
  pub name : name_at s field.name ≡ argument_name number
  pub form : IsPassed s a field.form

-- the arguments from this number on as fields
abbrev pub AreArgumentFields : Schema → ℕ → List tree.Argument → List Field → Type 0
AreArgumentFields s number [] fields = fields ≡ []
AreArgumentFields s number (a ∷ rest) fields =
    (field : Field) × (others : List Field) × (fields ≡ field ∷ others)
    × IsArgumentField s number (Some a) field
    × AreArgumentFields s (number + 1) rest others

-- one argument alone is itself, and several are a struct of them
abbrev pub AreArguments : Schema → Option tree.Argument → List tree.Argument → ℕ → Type 0
AreArguments s first [] place = IsPassed s first place
AreArguments s first (a ∷ rest) place =
    (fields : Vec Field Global) × (field : Field) × (others : List Field)
    × (form_at s place ≡ forms.Struct fields)
    × (fields.items ≡ field ∷ others) × IsArgumentField s 1 first field
    × AreArgumentFields s 2 (a ∷ rest) others

pub record IsProcedure (s : Schema) (p : tree.Procedure) (kept : CompactProcedure) : Type 0 where
  pub name : name_at s kept.name ≡ p.name
  pub arguments : AreArguments s p.first p.others kept.arguments
  pub results : IsPassed s p.result kept.results

-- ---- procedures by their numbers

-- a procedure with the numbers of its program and version, as they are spelled
pub record Numbered : Type 0 where
  pub program : List ℕ
  pub version : List ℕ
  pub procedure : tree.Procedure

abbrev pub procedures_by : List ℕ → List ℕ → List tree.Procedure → List Numbered
procedures_by program version procedures =
    map (λ p. record { program = program; version = version; procedure = p }) procedures

abbrev pub procedures_in : List ℕ → tree.Version → List Numbered
procedures_in program v = procedures_by program v.number v.procedures

abbrev pub procedures_declared : Option tree.Definition → List Numbered
procedures_declared None = []
procedures_declared (Some (tree.Const name value)) = []
procedures_declared (Some (tree.Typedef d)) = []
procedures_declared (Some (tree.NewType name body)) = []
procedures_declared (Some (tree.Program name versions number)) = flat_map (procedures_in number) versions

-- all procedures of a text, in their order
abbrev pub procedures_of : List (Option tree.Definition) → List Numbered
procedures_of definitions = flat_map procedures_declared definitions

-- a number of 32 bits as it is spelled
abbrev pub word_spelled : List ℕ → Option ℕ
word_spelled text = option_and_then unsigned_word (number_spelled text)

-- the numbers of a procedure, where each is one of 32 bits
abbrev pub numbers_from : Option ℕ → Option ℕ → Option ℕ → Option ProcedureNumbers
numbers_from (Some program) (Some version) (Some procedure) =
    Some (record { program = program; version = version; procedure = procedure })
numbers_from _ _ _ = None

abbrev pub numbers_by : Numbered → Option ProcedureNumbers
numbers_by p =
    numbers_from (word_spelled p.program) (word_spelled p.version) (word_spelled p.procedure.number)

-- procedures by their numbers
abbrev pub Table : Type 0
Table = List (ProcedureNumbers × CompactProcedure)

-- with one more; the first of its numbers has them
abbrev pub with_procedure : Table → Option ProcedureNumbers → CompactProcedure → Table
with_procedure table None kept = table
with_procedure table (Some numbers) kept = with_first same_numbers table numbers kept

-- the procedures of a schema are those of the table, with these behind them
abbrev pub AreProceduresBehind : Schema → Table → List Numbered → Type 0
AreProceduresBehind s table [] = s.procedures ≡ table
AreProceduresBehind s table (p ∷ ps) =
    (kept : CompactProcedure) × IsProcedure s p.procedure kept
    × AreProceduresBehind s (with_procedure table (numbers_by p) kept) ps
