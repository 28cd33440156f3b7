-- The text of what is said to a message.
use Rattle.std.specs.Prelude.{ℕ, List, Option, None, Some}
use Rattle.x_frames.specs.KeptSaid.{no_memory_answer, no_memory_note}
use Rattle.x_documents.specs.declared.kept.Reply.{Reply}
use Rattle.x_documents.specs.declared.kept.Reply.TheVariants.{Nothing, Text, NoMemoryAnswer, NoMemoryNote}

abbrev pub said_of : Reply → Option (List ℕ)
said_of Nothing = None
said_of (Text text) = Some text.items
said_of NoMemoryAnswer = Some no_memory_answer
said_of NoMemoryNote = Some no_memory_note
