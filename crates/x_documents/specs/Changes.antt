-- What a client does to a text (LSP 3.17, `TextDocumentContentChangeEvent`).
use Rattle.std.specs.Prelude.{ℕ, List, [], ◌∷◌, length, Option, None, Some}
use Rattle.x_text.specs.Edits.{Change, edited_by}
use Rattle.x_positions.specs.declared.encoding.Encoding.{Encoding}
use Rattle.x_frames.specs.Params.{Replacement}
use Rattle.x_positions.specs.declared.range.Range.{Range}
use Rattle.x_positions.specs.Positions.{offset_of}

-- the change of a text that another text takes the place of a range of it, or of all
abbrev pub change_in : Encoding → List ℕ → Option Range → List ℕ → Change
change_in encoding text None insert = record { old = text; start = 0; end = length text; insert = insert }
change_in encoding text (Some range) insert = record {
  old = text;
  start = offset_of encoding text range.start;
  end = offset_of encoding text range.end;
  insert = insert;
}

abbrev pub change_by : Encoding → List ℕ → Replacement → Change
change_by encoding text change = change_in encoding text change.range change.text

-- the text after all changes, one after another
abbrev pub changed_by_all : Encoding → List ℕ → List Replacement → List ℕ
changed_by_all encoding text [] = text
changed_by_all encoding text (change ∷ changes) =
    changed_by_all encoding (edited_by (change_by encoding text change)) changes
