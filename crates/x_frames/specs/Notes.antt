-- What notifications ask for of documents (LSP 3.17, "Text Document Synchronization").
use Rattle.std.specs.Prelude.{ℕ, ℤ, ◌==◌, List, Option, None, Some, bytes_eq, codes, if◌then◌else◌}
use Rattle.std.specs.Prelude.{option_map}
use Rattle.std.specs.List.{list_any}
use Rattle.serde_json.specs.Data.{Data, Items}
use Rattle.serde_json.specs.View.{items_view}
use Rattle.x_frames.specs.Messages.{Asked, notification}
use Rattle.x_frames.specs.declared.notes.DocumentNote.{DocumentNote}
use Rattle.x_frames.specs.declared.notes.DocumentNote.TheVariants as note
use Rattle.x_frames.specs.declared.notes.NoteKind.{NoteKind}
use Rattle.x_frames.specs.declared.notes.NoteKind.TheVariants.{Open, Change, Close}
use Rattle.x_frames.specs.Params.{changed_version_in, changes_in, text_in, uri_in, version_in}

-- A notification opens a document, changes one or closes one. Or it should do one of these and is not
-- understood: then it may name the document, or none. Or it is about something else.
pub data Noted : Type 0 where
  opens : (uri : List ℕ) (version : ℤ) (text : List ℕ) → Noted
  changes : (uri : List ℕ) (version : Option ℤ) (changes : Items) → Noted
  closes : (uri : List ℕ) → Noted
  wrong : (kind : NoteKind) (uri : Option (List ℕ)) → Noted
  other : Noted

-- the notification about a document that has this name
abbrev pub note_kind_named : List ℕ → Option NoteKind
note_kind_named name =
    if bytes_eq name (codes "textDocument/didOpen") then Some Open
    else if bytes_eq name (codes "textDocument/didChange") then Some Change
    else if bytes_eq name (codes "textDocument/didClose") then Some Close
    else None

abbrev pub opening : (uri : List ℕ) → Option ℤ → Option (List ℕ) → Noted
opening uri (Some version) (Some text) = opens uri version text
opening uri (Some version) None = wrong Open (Some uri)
opening uri None text = wrong Open (Some uri)

abbrev pub changing : (uri : List ℕ) → Option (Option ℤ) → Option Items → Noted
changing uri (Some version) (Some items) = changes uri version items
changing uri (Some version) None = wrong Change (Some uri)
changing uri None items = wrong Change (Some uri)

abbrev pub noted_as : NoteKind → (uri : Option (List ℕ)) → (params : Option Data) → Noted
noted_as kind None params = wrong kind None
noted_as Open (Some uri) params = opening uri (version_in params) (text_in params)
noted_as Change (Some uri) params = changing uri (changed_version_in params) (changes_in params)
noted_as Close (Some uri) params = closes uri

abbrev pub noted_if : Option NoteKind → (params : Option Data) → Noted
noted_if None params = other
noted_if (Some kind) params = noted_as kind (uri_in params) params

-- what a notification of this name asks for
abbrev pub noted_by : (name : List ℕ) → (params : Option Data) → Noted
noted_by name params = noted_if (note_kind_named name) params

-- a URI without a question mark, which may stand for half of a pair of surrogates
abbrev pub whole_uri : Option (List ℕ) → Option (List ℕ)
whole_uri None = None
whole_uri (Some uri) = if list_any (λ b. b == 63) uri then None else Some uri

-- what a notification asks for that is misread, as it had such halves: it is not understood
abbrev pub misread_as : Option NoteKind → (params : Option Data) → Option Noted
misread_as None params = None
misread_as (Some kind) params = Some (wrong kind (whole_uri (uri_in params)))

abbrev pub misread_by : Asked → (params : Option Data) → Option Noted
misread_by (notification name) params = misread_as (note_kind_named name) params
misread_by asked params = None

-- what the program says that it asks for
abbrev pub noted_of : DocumentNote → Noted
noted_of (note.Open uri version text) = opens uri.now version text.now
noted_of (note.Change uri version items) = changes uri.now version (items_view items.now.items)
noted_of (note.Close uri) = closes uri.now
noted_of (note.Wrong kind uri) = wrong kind (option_map (λ u. u.now) uri)
noted_of note.Other = other
