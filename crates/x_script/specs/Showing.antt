-- What a line that asks to show a value is answered, over what is known before a text, the text
-- and its items.
use Rattle.std.specs.Prelude.{◌≡◌, ◌<◌, ℕ, List, [], ◌++◌, Some, None, length, codes}
use Rattle.x_schema.specs.Schema.{Schema, id_named}
use Rattle.x_schema.specs.Schemas.{IsSchemaOf}
use Rattle.x_schema.specs.declared.schema.TypeId.{TypeId}
use Rattle.x_value.specs.Dumps.{IsReadFault, IsShown}
use Rattle.x_value.specs.FaultTexts.{fault_line}
use Rattle.x_value.specs.Lines.{node_lines}
use Rattle.x_value.specs.Shown.{Node}
use Rattle.x_value.specs.declared.fault.ReadCode.{ReadCode}
use Rattle.x_value.specs.declared.fault.ReadCode.TheVariants.{NoMemory}
use Rattle.x_script.specs.Answers.{Answer, answered, refused, refused_by, counted_line}
use Rattle.x_compile.specs.Compile.{Item, faults_of}
use Rattle.x_compile.specs.Known.{KnownText}
use Rattle.x_session.specs.Typed.{all_definitions}
use Rattle.x_script.specs.declared.script.refusal.LineRefusal.TheVariants.{Faulty, NoType}

-- the nodes of a value
abbrev pub value_answer : List Node → List ℕ
value_answer nodes = counted_line (codes "value") (length nodes) ++ node_lines nodes

-- the answer to a message that is read as a value of a type: the nodes, or the fault of bytes that are no
-- encoding
pub data IsMessageAnswer (s : Schema) (id : TypeId) (message text : List ℕ) (a : Answer) : Type 0 where
  shown : (nodes : List Node) → IsShown s id message nodes → a ≡ answered text (value_answer nodes)
      → IsMessageAnswer s id message text a
  stuck : (at : ℕ) (code : ReadCode) → IsReadFault s id message at code → (code ≡ NoMemory → ⊥)
      → a ≡ refused text (fault_line at code)
      → IsMessageAnswer s id message text a

-- the name may be that of no type
pub data IsTypedAnswer (s : Schema) (name message text : List ℕ) (a : Answer) : Type 0 where
  no_type : id_named s name ≡ None → a ≡ refused_by text NoType
      → IsTypedAnswer s name message text a
  typed : (id : TypeId) → id_named s name ≡ Some id → IsMessageAnswer s id message text a
      → IsTypedAnswer s name message text a

-- a text with a fault has no types
pub data IsDumpAnswer (known : KnownText) (text : List ℕ) (items : List Item) (name message : List ℕ)
    (a : Answer) : Type 0 where
  faulty : 0 < length (faults_of text items) → a ≡ refused_by text Faulty
      → IsDumpAnswer known text items name message a
  faultless : (s : Schema) → faults_of text items ≡ [] → IsSchemaOf (all_definitions known items) s
      → IsTypedAnswer s name message text a
      → IsDumpAnswer known text items name message a
