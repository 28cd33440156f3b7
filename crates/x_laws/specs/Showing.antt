-- What it is that types of two schemas show the same.
use Rattle.std.specs.Prelude.{ℕ, List}
use Rattle.x_schema.specs.Schema.{Schema, IsProcedureAt}
use Rattle.x_schema.specs.declared.procedure.ProcedureNumbers.{ProcedureNumbers}
use Rattle.x_schema.specs.declared.schema.TypeId.{TypeId}
use Rattle.x_value.specs.declared.fault.ReadCode.{ReadCode}
use Rattle.x_value.specs.Dumps.{IsReadFault, IsShown}
use Rattle.x_value.specs.Shown.{Node}

-- what the type of the one schema shows of bytes, that of the other does too, and what it refuses, the other
-- refuses at the same place for the same reason
pub record ShowsAlike (s t : Schema) (a b : TypeId) : Type 0 where
  pub nodes : (bytes : List ℕ) (nodes : List Node) → IsShown s a bytes nodes → IsShown t b bytes nodes
  pub refusals : (bytes : List ℕ) (at : ℕ) (code : ReadCode) → IsReadFault s a bytes at code
      → IsReadFault t b bytes at code

-- the other schema has the procedure of these numbers too, of the same name, and shows alike what it is
-- called with and what it answers
pub record CallsAlike (s t : Schema) (numbers : ProcedureNumbers) (name : List ℕ)
    (arg res : TypeId) : Type 0 where
  pub other_arg : TypeId
  pub other_res : TypeId
  pub procedure : IsProcedureAt t numbers name other_arg other_res
  pub arguments : ShowsAlike s t arg other_arg
  pub results : ShowsAlike s t res other_res
