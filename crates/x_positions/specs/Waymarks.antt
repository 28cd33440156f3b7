-- Places of a text that are kept with their positions, so that others are found near them.
use Rattle.std.specs.Prelude.{◌≡◌, ◌⊎◌, ℕ, ◌-◌, ◌<◌, ◌≤◌, ◌==◌, ◌&&◌, false, List, length, drop}
use Rattle.std.specs.Prelude.{slice_index, All}
use Rattle.x_text.specs.Edits.{change_of, edited_by, LiesWithin}
use Rattle.x_text.specs.Limits.{most_text}
use Rattle.x_text.specs.declared.text.edit.Edit.{Edit}
use Rattle.x_positions.specs.declared.encoding.Encoding.{Encoding}
use Rattle.x_positions.specs.declared.positions.Position.{Position}
use Rattle.x_positions.specs.declared.spots.Spot.{Spot}
use Rattle.x_positions.specs.declared.waymarks.Waymark.{Waymark}
use Rattle.x_positions.specs.declared.waymarks.Waymarks.{Waymarks}
use Rattle.x_positions.specs.Positions.{position_of}

-- a place of the text has this position
pub record IsAt (encoding : Encoding) (text : List ℕ) (at : ℕ) (position : Position) : Type 0 where
  pub within : at ≤ length text
  pub position_is : position_of encoding text at ≡ position

-- the place does not stand between a carriage return and its line feed
abbrev pub IsOutsidePair : List ℕ → ℕ → Type 0
IsOutsidePair text at =
    0 < at → (slice_index text (at - 1) == 13 && slice_index text at == 10) ≡ false

-- a position stands at another one or before it
abbrev pub IsNotBehind : Position → Position → Type 0
IsNotBehind p q = (p.line < q.line) ⊎ ((p.line ≡ q.line) × (p.character ≤ q.character))

-- a waymark is a place of the text with its position
abbrev pub IsWaymark : Encoding → List ℕ → Waymark → Type 0
IsWaymark encoding text mark =
    IsAt encoding text mark.at (record { line = mark.line; character = mark.character })

-- these are waymarks of the text, those of faults among them
pub record AreWaymarks (text : List ℕ) (marks : Waymarks) : Type 0 where
  pub small : length text ≤ most_text
  pub marked : All (IsWaymark marks.encoding text) marks.list.items
  pub faults : All (IsWaymark marks.encoding text) marks.faults.items

-- the edit leaves this text of one whose waymarks these are
pub record IsLeft (encoding : Encoding) (marks : List Waymark) (edit : Edit) (text : List ℕ) : Type 0 where
  pub old : List ℕ
  pub small : length old ≤ most_text
  pub marked : All (IsWaymark encoding old) marks
  pub lies_within : LiesWithin (change_of old edit)
  pub text_is : text ≡ edited_by (change_of old edit)

-- What stands behind a place of another text stands behind this place of the text.
pub record HasMoved (encoding : Encoding) (text : List ℕ) (old : List ℕ) (from to : Spot) : Type 0 where
  pub small : length old ≤ most_text
  pub from_at : IsAt encoding old from.at from.position
  pub to_at : IsAt encoding text to.at to.position
  pub same : drop from.at old ≡ drop to.at text
