-- Why a file's text is not opened.
use Rattle.std.proofs.Common.{◌⊎◌, inl, inr, ℕ, ◌+◌, ◌<◌, ◌≤◌, List, codes, Result, Err, length, refl, arith}
use Rattle.std.specs.Prelude.{IsErrOf}
use Rattle.std.proofs.Math.Nat.{lt_of_not-le}
use Rattle.x_streams.specs.Streams.{Stream}
use Rattle.x_text.specs.declared.text.fault.TextFault.{TextFault}
use Rattle.x_text.specs.declared.text.fault.TextFault.TheVariants as faults
use Rattle.x_text.specs.declared.text.source.TheConstants.{MAX_TEXT}
use Rattle.x_args.specs.Telling.{IsTold, told_of}
use Rattle.x_opening.specs.declared.opening.Opening.{Opening}
use Rattle.x_opening.specs.Opened.{unopened_told, NotOpened, Crowded, TooLarge, NoRoom}
use Rattle.x_opening.specs.Opening.{IsCrowded}

pub fits : (n : ℕ) → (MAX_TEXT < n → ⊥) → n ≤ MAX_TEXT
fits n none =
    let h = lt_of_not-le {n = MAX_TEXT + 1} {m = n} (λ le. none (omega (arith, le))) in omega (arith, h)

abbrev Failed : (T : Type 0) → TextFault → TextFault → Type 0
Failed T fault other = let r : Result T TextFault = Err fault in IsErrOf r other

-- a text that is not opened is too large, or what stands before it is, or memory ran out
pub not_opened : (T : Type 0) (how : Opening) (program file text : List ℕ) (before after : Stream)
    (fault : TextFault)
    → (MAX_TEXT < length text → Failed T fault faults.TooLarge)
    → (Failed T fault faults.TooLarge → (MAX_TEXT < length text) ⊎ IsCrowded how text)
    → (Failed T fault faults.BadRange → ⊥)
    → IsTold before after (unopened_told program file fault) → NotOpened how program file text before after
not_opened T how program file text before after faults.TooLarge too_large large range told =
    elim (large refl) [ inl more ↦ TooLarge more told | inr crowded ↦ Crowded crowded told ]
not_opened T how program file text before after faults.BadRange too_large large range told =
    absurd (range refl)
not_opened T how program file text before after faults.NoMemory too_large large range told =
    NoRoom (fits (length text) (λ more. let no = too_large more in cc)) told

-- the text fits, and memory ran out
pub no_memory : (how : Opening) (program file text : List ℕ) (before after : Stream)
    → (MAX_TEXT < length text → ⊥)
    → IsTold before after (told_of program (codes "out of memory"))
    → NotOpened how program file text before after
no_memory how program file text before after few told = NoRoom (fits (length text) few) told
