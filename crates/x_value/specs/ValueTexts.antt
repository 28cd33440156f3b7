-- What is written of bytes as a value of a type.
use Rattle.std.specs.Prelude.{◌≡◌, ℕ, List, Result, Ok, Err}
use Rattle.std.specs.Io.KnownBytes.{Appends}
use Rattle.x_streams.specs.Streams.{Stream}
use Rattle.x_streams.specs.Writing.{StopsWithin}
use Rattle.x_schema.specs.Schema.{Schema}
use Rattle.x_schema.specs.declared.schema.TypeId.{TypeId}
use Rattle.x_value.specs.Dumps.{IsReadFault, IsShown}
use Rattle.x_value.specs.FaultTexts.{fault_line}
use Rattle.x_value.specs.Lines.{node_lines}
use Rattle.x_value.specs.Shown.{Node}
use Rattle.x_value.specs.declared.fault.ReadCode.{ReadCode}
use Rattle.x_value.specs.declared.fault.ReadCode.TheVariants as codes
use Rattle.x_streams.specs.declared.outcome.Outcome.{Outcome}
use Rattle.x_streams.specs.declared.outcome.Outcome.TheVariants.{Clean, Refused}
use Rattle.x_streams.specs.declared.outcome.EngineFault.{EngineFault}
use Rattle.x_streams.specs.declared.outcome.EngineFault.TheVariants.{Read, Write, NoMemory}

-- the lines of the value whose encoding the bytes are, or that of the fault of bytes that are none
pub data IsValueText (s : Schema) (id : TypeId) (bytes text : List ℕ) (outcome : Outcome) : Type 0 where
  shown : (nodes : List Node) → IsShown s id bytes nodes → text ≡ node_lines nodes → outcome ≡ Clean
      → IsValueText s id bytes text outcome
  stuck : (at : ℕ) (code : ReadCode) → IsReadFault s id bytes at code → (code ≡ codes.NoMemory → ⊥)
      → text ≡ fault_line at code
      → outcome ≡ Refused → IsValueText s id bytes text outcome

-- The text was written, or after a fault of the sink its first bytes; without memory nothing was.
abbrev pub WritesValue : Schema → TypeId → List ℕ → (before after : Stream) → Result Outcome EngineFault
    → Type 0
WritesValue s id bytes before after (Ok outcome) =
    (text : List ℕ) × IsValueText s id bytes text outcome × Appends before.bytes after.bytes text
WritesValue s id bytes before after (Err (Write written)) =
    (text : List ℕ) × (outcome : Outcome) × IsValueText s id bytes text outcome
    × StopsWithin before after text written
WritesValue s id bytes before after (Err (NoMemory written)) = (written ≡ 0) × (after ≡ before)
WritesValue s id bytes before after (Err (Read written)) = ⊥
