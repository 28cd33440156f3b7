-- What a run reads and what it writes.
use Rattle.std.specs.Prelude.{◌≡◌}
use Rattle.x_streams.specs.Streams.{Stream}

-- the file of a run, or its standard input, and its output, before and after it
pub record Course : Type 0 where
  pub file : Stream
  pub file' : Stream
  pub out : Stream
  pub out' : Stream

abbrev pub course : (file file' out out' : Stream) → Course
course file file' out out' = record { file = file; file' = file'; out = out; out' = out' }

-- nothing was read, and nothing was written
pub record IsIdle (c : Course) : Type 0 where
  pub unread : c.file' ≡ c.file
  pub unwritten : c.out' ≡ c.out
