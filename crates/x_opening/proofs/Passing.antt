-- What is chosen, passed on, and known of a text without a fault.
use Rattle.std.proofs.Common.{◌≡◌, ℕ, ◌<◌, List, [], length, Option, Some, None, Result, Ok, Err, Bor, sym}
use Rattle.std.proofs.Common.{subst, ap}
use Rattle.std.specs.Prelude.{option_map, unwrap_or, IsErrAnd}
use Rattle.x_text.specs.declared.text.source.TheConstants.{MAX_TEXT}
use Rattle.x_compile.specs.Compile.{faults_of}
use Rattle.x_opening.proofs.Unopened.{fits}
use Rattle.x_opening.specs.declared.opening.Opening.{Opening}
use Rattle.x_opening.specs.Opening.{CompilesBy}
use Rattle.x_opening.specs.Opened.{IsFaultless}

-- what an option of a text or another text says
pub now_or : (o : Option (Bor (List ℕ))) (other : Bor (List ℕ)) (chosen : Bor (List ℕ))
    → chosen ≡ unwrap_or o other
    → chosen.now ≡ unwrap_or (option_map (λ s. s.now) o) other.now
now_or None other chosen is = ap (λ s. s.now) is
now_or (Some s) other chosen is = ap (λ s. s.now) is

-- an error that is passed on
pub passed_on : {T E : Type 0} (P : Result T E → Type 0) (r : Result T E) (e : E) → IsErrAnd r (λ x. x ≡ e)
    → P (Err e) → P r
passed_on P (Ok x) e again h = absurd again
passed_on P (Err x) e again h = subst (λ y. P (Err y)) (sym again) h

-- a text without a fault
pub faultless : (how : Opening) (text : List ℕ) → (MAX_TEXT < length text → ⊥)
    → CompilesBy how text (λ items. faults_of text items ≡ []) → IsFaultless how text
faultless how text large clean = record { fits = fits (length text) large; clean = clean }
