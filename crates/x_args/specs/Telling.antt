-- What the programs tell on standard error, as far as it takes that.
use Rattle.std.specs.Prelude.{◌≡◌, ℕ, Bool, MatchBool, ◌≤◌, List, ◌++◌, length, take, codes}
use Rattle.std.specs.Io.KnownBytes.{Appends}
use Rattle.x_streams.specs.Streams.{Stream}

-- what a sink holds grew by the text, or by a front of it
abbrev pub Grows : Stream → Stream → List ℕ → Type 0
Grows before after text =
    (count : ℕ) × (count ≤ length text) × Appends before.bytes after.bytes (take count text)

-- a sink was told a text: it took all, or it has failed with a front
abbrev pub IsTold : Stream → Stream → List ℕ → Type 0
IsTold before after text =
    MatchBool after.failed (Grows before after text) (Appends before.bytes after.bytes text)

-- what is written of an output that has failed: nothing where its reader has enough, and else a text
abbrev pub Complains : (is_closed : Bool) → Stream → Stream → List ℕ → Type 0
Complains is_closed before after text = MatchBool is_closed (after ≡ before) (IsTold before after text)

-- `PROGRAM: WHAT`
abbrev pub told_of : List ℕ → List ℕ → List ℕ
told_of program what = program ++ codes ": " ++ what ++ codes "\n"
