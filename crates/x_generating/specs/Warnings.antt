-- What `rpcgen` says of the names of a text that clash in C, and what it makes of them.
use Rattle.std.specs.Prelude.{◌≡◌, ◌<◌, ℕ, Bool, true, false, List, [], ◌∷◌, length, IsTrue, MatchBool}
use Rattle.std.specs.List.{flat_map}
use Rattle.x_streams.specs.Streams.{Stream}
use Rattle.x_compile.specs.Compile.{Item, faults_of}
use Rattle.x_args.specs.Telling.{IsTold}
use Rattle.x_warnings.specs.WarningLines.{warning_line}
use Rattle.x_warnings.specs.Warnings.{AreWarnings, Warning}
use Rattle.x_opening.specs.Opened.{TellsFaults}
use Rattle.x_opening.specs.declared.opening.FaultStyle.{FaultStyle}
use Rattle.x_opening.specs.declared.opening.FaultStyle.TheVariants.{Plain}
use Rattle.x_opening.specs.declared.opening.Opening.{Opening}

-- Clashes are told where faults are explained, and where they count as faults.
abbrev pub tells_clashes : (strict : Bool) → FaultStyle → Bool
tells_clashes strict Plain = strict
tells_clashes strict style = true

-- the names of a text that clash and are told
abbrev pub AreTold : (strict : Bool) → FaultStyle → (text : List ℕ) → List Item → List Warning → Type 0
AreTold strict style text items ws =
    MatchBool (tells_clashes strict style) (AreWarnings text items ws) (ws ≡ [])

-- they are written one a line; nothing is written where there are none
abbrev pub TellsThem : (file : List ℕ) → List Warning → (before after : Stream) → Type 0
TellsThem file [] before after = after ≡ before
TellsThem file (w ∷ ws) before after = IsTold before after (flat_map (warning_line file) (w ∷ ws))

-- whether these make that nothing is written
abbrev pub are_faults : (strict : Bool) → List Warning → Bool
are_faults strict [] = false
are_faults strict (w ∷ ws) = strict

-- A text without faults is good: its names that clash are told, and there are none where they count as
-- faults.
pub record IsGood (strict : Bool) (style : FaultStyle) (file text : List ℕ) (items : List Item)
    (before after : Stream) : Type 0 where
  pub warnings : List Warning
  pub are_told : AreTold strict style text items warnings
  pub told : TellsThem file warnings before after
  pub strictly : IsTrue strict → warnings ≡ []

-- Names of a text without faults clash, which is told.
abbrev pub TellsClashes : (file text : List ℕ) → List Item → (before after : Stream) → Type 0
TellsClashes file text items before after = (ws : List Warning) × AreWarnings text items ws
    × (0 < length ws) × IsTold before after (flat_map (warning_line file) ws)

-- Why nothing is made of a text: it has faults, or names of it clash and that counts as a fault. It is told.
pub data IsFaulty (strict : Bool) (how : Opening) (file text : List ℕ) (items : List Item)
    (before after : Stream) : Type 0 where
  faults : 0 < length (faults_of text items) → TellsFaults how file text items before after
      → IsFaulty strict how file text items before after
  clashes : IsTrue strict → faults_of text items ≡ [] → TellsClashes file text items before after
      → IsFaulty strict how file text items before after

-- faults are told one a line, and nothing else is
abbrev pub IsPlain : FaultStyle → Type 0
IsPlain style = style ≡ Plain
