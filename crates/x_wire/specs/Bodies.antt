-- What is read of arguments and results.
use Rattle.std.specs.Prelude.{◌≡◌, ℕ, List, ◌++◌, Option, Some, None}
use Rattle.x_schema.specs.Schema.{Schema}
use Rattle.x_schema.specs.declared.schema.TypeId.{TypeId}
use Rattle.x_value.specs.Dumps.{IsReadFault, IsShown}
use Rattle.x_value.specs.FaultTexts.{fault_line}
use Rattle.x_value.specs.Lines.{node_lines}
use Rattle.x_value.specs.declared.fault.ReadCode.TheVariants.{NoMemory}
use Rattle.x_wire.specs.MessageTexts.{Told, plain, refused, raw_line}
use Rattle.x_wire.specs.declared.telling.body.Body.{Body}
use Rattle.x_wire.specs.declared.telling.body.Body.TheVariants.{Unread, Value, Refused}

-- bytes of this type, if it is known, are read so
abbrev pub IsReadAs : Schema → Option TypeId → List ℕ → Body → Type 0
IsReadAs s type bytes Unread = type ≡ None
IsReadAs s type bytes (Value dump) = (id : TypeId) × (type ≡ Some id) × IsShown s id bytes dump
IsReadAs s type bytes (Refused fault) =
    (id : TypeId) × (type ≡ Some id) × IsReadFault s id bytes fault.at fault.code
    × (fault.code ≡ NoMemory → ⊥)

-- and printed so
abbrev pub told_of : Body → List ℕ → Told
told_of Unread bytes = plain (raw_line bytes)
told_of (Value dump) bytes = plain (node_lines dump)
told_of (Refused fault) bytes = refused (fault_line fault.at fault.code ++ raw_line bytes)
