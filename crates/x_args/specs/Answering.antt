-- What is answered to a command line that no run comes of: one that asks for help or the version, and one
-- that is refused.
use Rattle.std.specs.Prelude.{◌≡◌, ◌≢◌, ◌⊎◌, ℕ, Bool, true, false, List, ◌++◌, codes}
use Rattle.std.specs.List.{All}
use Rattle.std.specs.Io.KnownBytes.{Appends}
use Rattle.clap.specs.declared.error.kind.ErrorKind.{ErrorKind}
use Rattle.clap.specs.declared.error.kind.ErrorKind.TheVariants.{DisplayHelp, DisplayVersion}
use Rattle.clap.specs.declared.error.kind.ErrorKind.TheVariants.{MissingRequiredArgument, OutOfMemory}
use Rattle.x_streams.specs.Streams.{Stream}
use Rattle.x_args.specs.Telling.{Complains, Grows, IsTold, told_of}
use Rattle.x_args.specs.declared.manual.Manual.{Manual}
use Rattle.x_args.specs.declared.manual.TheConstants.{VERSION}
use Rattle.x_args.specs.declared.status.Status.{Status}
use Rattle.x_args.specs.declared.status.Status.TheVariants.{Done, Faulty, Failed}

-- what `--help` shows
abbrev pub help_text : Manual → List ℕ
help_text m = codes "usage: " ++ m.usage.now ++ codes "\n\n" ++ m.help.now

-- what `--version` shows
abbrev pub version_text : Manual → List ℕ
version_text m = m.name.now ++ codes " " ++ VERSION.now ++ codes "\n"

-- what is told of words that are refused for a reason
abbrev pub refused_told : Manual → List ℕ → List ℕ
refused_told m why =
    m.name.now ++ codes ": " ++ why
    ++ codes "\nusage: " ++ m.usage.now
    ++ codes "\ntry '" ++ m.name.now ++ codes " --help'\n"

-- the text has no line feed
abbrev pub IsOneLine : List ℕ → Type 0
IsOneLine text = All (λ b. b ≢ 10) text

-- The output took a text, and nothing was told; or it has failed with a front of the text, which the program
-- tells, unless the output's reader has enough.
abbrev pub IsShown : (program text : List ℕ) → (is_closed : Bool) → (out out' err err' : Stream)
    → Status → Type 0
IsShown program text is_closed out out' err err' Done =
    Appends out.bytes out'.bytes text × (out'.failed ≡ false) × (err' ≡ err)
IsShown program text is_closed out out' err err' Faulty = ⊥
IsShown program text is_closed out out' err err' Failed =
    Grows out out' text × (out'.failed ≡ true)
    × Complains is_closed err err' (told_of program (codes "output cannot be written"))

-- Why words are refused, as it is told: memory ran out; or there is no FILE; or what clap says, in one line,
-- for which there may be no memory either.
abbrev pub IsRefused : Manual → ErrorKind → (before after : Stream) → Type 0
IsRefused m OutOfMemory before after = IsTold before after (told_of m.name.now (codes "out of memory"))
IsRefused m MissingRequiredArgument before after =
    IsTold before after (refused_told m (codes "FILE is missing"))
IsRefused m kind before after =
    ((why : List ℕ) × IsOneLine why × IsTold before after (refused_told m why))
    ⊎ IsTold before after (told_of m.name.now (codes "out of memory"))

-- What is answered to words by the kind of clap's error: the help, the version, or why they are refused, and
-- then nothing is shown.
abbrev pub AnswersWords : Manual → ErrorKind → (is_closed : Bool) → (out out' err err' : Stream)
    → Status → Type 0
AnswersWords m DisplayHelp is_closed out out' err err' status =
    IsShown m.name.now (help_text m) is_closed out out' err err' status
AnswersWords m DisplayVersion is_closed out out' err err' status =
    IsShown m.name.now (version_text m) is_closed out out' err err' status
AnswersWords m kind is_closed out out' err err' status =
    (status ≡ Failed) × (out' ≡ out) × IsRefused m kind err err'
