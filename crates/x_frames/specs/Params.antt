-- What the parameters of messages about a document say (LSP 3.17, "Text Documents").
use Rattle.std.specs.Prelude.{ℕ, ℤ, List, [], ◌∷◌, Option, None, Some, codes, option_and_then, option_map}
use Rattle.serde_json.specs.Data.{Data, null, Items, no_items, item}
use Rattle.serde_json.specs.Find.{as_array, as_i64, as_number, as_str, as_u64, get}
use Rattle.x_positions.specs.declared.positions.Position.{Position}
use Rattle.x_positions.specs.declared.range.Range.{Range}
use Rattle.x_frames.specs.declared.changes.TextChange.{TextChange}

abbrev pub member_of : (name : List ℕ) → Option Data → Option Data
member_of name value = option_and_then (get name) value

-- the document that a message is about: its URI, and where it is opened its version and its text
abbrev pub document_in : Option Data → Option Data
document_in params = member_of (codes "textDocument") params

abbrev pub uri_in : Option Data → Option (List ℕ)
uri_in params = option_and_then as_str (member_of (codes "uri") (document_in params))

abbrev pub text_in : Option Data → Option (List ℕ)
text_in params = option_and_then as_str (member_of (codes "text") (document_in params))

abbrev pub integer_of : Data → Option ℤ
integer_of value = option_and_then as_i64 (as_number value)

abbrev pub version_in : Option Data → Option ℤ
version_in params = option_and_then integer_of (member_of (codes "version") (document_in params))

-- the version of a document that is changed; null too is taken, which LSP has for other messages
abbrev pub version_or_null : Data → Option (Option ℤ)
version_or_null null = Some None
version_or_null value = option_map Some (integer_of value)

abbrev pub changed_version_in : Option Data → Option (Option ℤ)
changed_version_in params = option_and_then version_or_null (member_of (codes "version") (document_in params))

abbrev pub changes_in : Option Data → Option Items
changes_in params = option_and_then as_array (member_of (codes "contentChanges") params)

-- a position, and the range between two (LSP 3.17, `Position`, `Range`)
abbrev pub natural_of : Data → Option ℕ
natural_of value = option_and_then as_u64 (as_number value)

abbrev pub natural_in : (name : List ℕ) → Data → Option ℕ
natural_in name value = option_and_then natural_of (get name value)

abbrev pub position_with : Option ℕ → Option ℕ → Option Position
position_with (Some line) (Some character) = Some (record { line = line; character = character })
position_with (Some line) None = None
position_with None character = None

abbrev pub position_in : Data → Option Position
position_in value = position_with (natural_in (codes "line") value) (natural_in (codes "character") value)

-- the position that a question is about
abbrev pub position_asked : Option Data → Option Position
position_asked params = option_and_then position_in (member_of (codes "position") params)

abbrev pub range_with : Option Position → Option Position → Option Range
range_with (Some start) (Some end) = Some (record { start = start; end = end })
range_with (Some start) None = None
range_with None end = None

abbrev pub range_in : Data → Option Range
range_in value = range_with (option_and_then position_in (get (codes "start") value))
    (option_and_then position_in (get (codes "end") value))

-- A change of a text (LSP 3.17, `TextDocumentContentChangeEvent`): a text takes the place of a range of it,
-- or of all.
pub record Replacement : Type 0 where
  pub range : Option Range
  pub text : List ℕ

-- the range that is named, if any is; null names none
abbrev pub range_if : Option Data → Option (Option Range)
range_if None = Some None
range_if (Some null) = Some None
range_if (Some value) = option_map Some (range_in value)

abbrev pub replacement_with : Option (Option Range) → Option (List ℕ) → Option Replacement
replacement_with (Some range) (Some text) = Some (record { range = range; text = text })
replacement_with (Some range) None = None
replacement_with None text = None

abbrev pub replacement_in : Data → Option Replacement
replacement_in change = replacement_with (range_if (get (codes "range") change))
    (option_and_then as_str (get (codes "text") change))

-- one more before others, if all are understood
abbrev pub with_first : Option Replacement → Option (List Replacement) → Option (List Replacement)
with_first (Some change) (Some changes) = Some (change ∷ changes)
with_first (Some change) None = None
with_first None changes = None

-- the changes, if each is understood
abbrev pub replacements_in : Items → Option (List Replacement)
replacements_in no_items = Some []
replacements_in (item change changes) = with_first (replacement_in change) (replacements_in changes)

-- what the program says that a change is
abbrev pub replacement_of : TextChange → Replacement
replacement_of change = record { range = change.range; text = change.text.now }
