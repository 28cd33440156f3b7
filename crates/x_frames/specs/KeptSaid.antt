-- What is said where memory ran out.
use Rattle.std.specs.Prelude.{ℕ, List, codes}
use Rattle.serde_json.specs.Data.{null}
use Rattle.serde_json.specs.Written.{compact_text}
use Rattle.x_frames.specs.declared.answers.ErrorCode.TheVariants.{InternalError}
use Rattle.x_frames.specs.Answers.{refusal_data, shown_data}

-- the answer to a request of which nothing is known
abbrev pub no_memory_answer : List ℕ
no_memory_answer = compact_text (refusal_data null InternalError)

-- the note
abbrev pub no_memory_note : List ℕ
no_memory_note = compact_text (shown_data (codes "out of memory"))
