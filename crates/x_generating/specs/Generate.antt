-- What runs of `rpcgen` come to, and what they tell.
use Rattle.std.specs.Prelude.{ℕ, Bool, List}
use Rattle.std.specs.Prelude.{◌++◌, codes, option_map, unwrap_or}
use Rattle.x_streams.specs.Streams.{Stream}
use Rattle.x_args.specs.Telling.{Complains, IsTold, told_of}
use Rattle.x_args.specs.declared.generating_args.GenArgs.{GenArgs}
use Rattle.x_opening.specs.declared.opening.Opening.{Opening}
use Rattle.x_generating.specs.declared.rpcgen.output.OutputFault.{OutputFault}
use Rattle.x_generating.specs.declared.rpcgen.output.OutputFault.TheVariants as outputs
use Rattle.x_opening.specs.Opened.{IsFaultless, NotOpened}

-- what `rpcgen` tells of an output that it cannot write, whose name is `-` for the standard output
abbrev pub no_output_told : GenArgs → List ℕ
no_output_told args =
    codes "rpcgen: " ++ unwrap_or (option_map (λ s. s.now) args.output) (codes "-")
    ++ codes ": cannot be written\n"

-- what it tells of an output that is not opened
abbrev pub output_told : GenArgs → OutputFault → List ℕ
output_told args outputs.Refused = no_output_told args
output_told args outputs.NoMemory = codes "rpcgen: out of memory\n"

-- Why `rpcgen` does not write a generated text, as it tells it: its output is not opened; or what was opened
-- has failed, of which nothing is told where its reader has enough; or the output does not take the whole; or
-- memory ran out before that.
pub data NotWritten (args : GenArgs) (HasFailed : (is_closed : Bool) → Type 0) (before after : Stream)
    : Type 0 where
  refused : (fault : OutputFault) → IsTold before after (output_told args fault)
      → NotWritten args HasFailed before after
  broken : (is_closed : Bool) → HasFailed is_closed
      → Complains is_closed before after (codes "rpcgen: output cannot be written\n")
      → NotWritten args HasFailed before after
  unkept : IsTold before after (no_output_told args) → NotWritten args HasFailed before after
  no_room : IsTold before after (told_of (codes "rpcgen") (codes "out of memory"))
      → NotWritten args HasFailed before after

-- Why a run of `rpcgen` fails on a file's text that it can read, as it tells it: the text is not opened; or
-- it has no fault, and what is generated of it is not written.
pub data NotGenerated (how : Opening) (args : GenArgs) (text : List ℕ)
    (HasFailed : (is_closed : Bool) → Type 0) (before after : Stream) : Type 0 where
  unopened : NotOpened how (codes "rpcgen") args.file.now text before after
      → NotGenerated how args text HasFailed before after
  unwritten : IsFaultless how text → NotWritten args HasFailed before after
      → NotGenerated how args text HasFailed before after
