-- What is published of names that clash in C (LSP 3.17, `textDocument/publishDiagnostics`).
use Rattle.std.specs.Prelude.{◌≡◌, ℕ, ◌+◌, List, [], ◌∷◌, ◌++◌, codes, Bool, if◌then◌else◌}
use Rattle.std.specs.Prelude.{Option, None, Some, option_map}
use Rattle.std.specs.Fmt.{decimal}
use Rattle.std.specs.Str.Lossy.{utf8_lossy}
use Rattle.serde_json.specs.Data.{Data}
use Rattle.x_session.specs.declared.declared.Spot.{Spot}
use Rattle.x_explain.specs.Found.{IsEndOfToken}
use Rattle.x_positions.specs.declared.range.Range.{Range}
use Rattle.x_positions.specs.Positions.{lines_before, position_of}
use Rattle.x_positions.specs.PositionData.{range_data}
use Rattle.x_warnings.specs.WarningLines.{kind_text}
use Rattle.x_warnings.specs.Warnings.{Warning}
use Rattle.x_warnings.specs.declared.warning.OtherMeaning.{OtherMeaning}
use Rattle.x_warnings.specs.declared.warning.OtherMeaning.TheVariants.{OfC, OfText}
use Rattle.x_published.specs.declared.client.Client.{Client}
use Rattle.x_published.specs.declared.published.Severity.TheVariants as severity
use Rattle.x_published.specs.Diagnostics.{IsRangeAt, plain_data, related_data}

-- the line of the other thing in the text that is shown, counted from 1; it ends as editors end lines
abbrev pub line_text : (shown : List ℕ) → Option Spot → List ℕ
line_text shown None = []
line_text shown (Some s) = codes "; the other is in line " ++ decimal (lines_before shown s.start + 1)

-- what else has a name
abbrev pub other_text : (shown : List ℕ) → OtherMeaning → List ℕ
other_text shown (OfC kind) = kind_text kind
other_text shown (OfText spot) = codes "has two meanings in C" ++ line_text shown spot

-- `'NAME' has two meanings in C; the other is in line N`. A name is ASCII, so it is shown as it is.
abbrev pub warning_text : (shown : List ℕ) → Warning → List ℕ
warning_text shown w = codes "'" ++ utf8_lossy w.name ++ codes "' " ++ other_text shown w.other

-- where the other thing's word starts
abbrev pub other_start : OtherMeaning → Option ℕ
other_start (OfC kind) = None
other_start (OfText spot) = option_map (λ s. s.start) spot

-- the same, if the client shows it
abbrev pub shown_start : Bool → OtherMeaning → Option ℕ
shown_start shown other = if shown then other_start other else None

-- What is published of a name that clashes in C: as a warning, what else has the name, at the token that
-- leads to it; and if the client shows that, the range of the other thing's token.
pub record IsWarning (client : Client) (uri shown text : List ℕ) (w : Warning) (start : ℕ) (data' : Data)
    : Type 0 where
  pub end : ℕ
  pub other : Option Range
  pub token : IsEndOfToken text start end
  pub other_is : IsRangeAt client.encoding shown text (shown_start client.shows_related w.other) other
  pub data_is : data' ≡ plain_data severity.Warning
      (range_data (position_of client.encoding shown start) (position_of client.encoding shown end))
      (warning_text shown w) (option_map (related_data (codes "the other one is here") uri) other)

-- the same of one whose word starts here; of one whose word is not there nothing is published
abbrev pub IsWarnedAt : Client → (uri shown text : List ℕ) → Warning → Option Spot → List Data → Type 0
IsWarnedAt client uri shown text w None ds = ds ≡ []
IsWarnedAt client uri shown text w (Some s) ds =
    (d : Data) × (ds ≡ d ∷ []) × IsWarning client uri shown text w s.start d

-- of such names, one after another
abbrev pub AreWarned : Client → (uri shown text : List ℕ) → List Warning → List Data → Type 0
AreWarned client uri shown text [] ds = ds ≡ []
AreWarned client uri shown text (w ∷ ws) ds = (here rest : List Data) × (ds ≡ here ++ rest)
    × IsWarnedAt client uri shown text w w.spot here × AreWarned client uri shown text ws rest
