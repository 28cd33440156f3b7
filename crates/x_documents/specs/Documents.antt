-- The documents that a client has open (LSP 3.17, "Text Document Synchronization").
use Rattle.std.specs.Prelude.{ℕ, ℤ, pos, Bool, not, List, [], ◌∷◌, filter, bytes_eq, if◌then◌else◌}
use Rattle.std.specs.Prelude.{Option, None, Some, is_some}
use Rattle.x_published.specs.declared.client.Client.{Client}
use Rattle.x_documents.specs.DocumentNames.{name_of}
use Rattle.x_documents.specs.Grounds.{Ground}

-- A document: its URI as it was opened, how the client that opened it counts and what it shows, what the text
-- is compiled on, the version, and the text. A document is out of step, and has no text here, where the text
-- that the server has may not be the client's.
pub record Document : Type 0 where
  pub uri : List ℕ
  pub client : Client
  pub on : Ground
  pub version : ℤ
  pub text : Option (List ℕ)

abbrev pub opened_as : Client → Ground → (uri : List ℕ) → (version : ℤ) → (text : List ℕ) → Document
opened_as client on uri version text =
    record { uri = uri; client = client; on = on; version = version; text = Some text }

-- a document that could not be opened
abbrev pub unread : Client → Ground → (uri : List ℕ) → Document
unread client on uri = record { uri = uri; client = client; on = on; version = pos 0; text = None }

-- it is out of step now
abbrev pub lost : Document → Document
lost d = record { uri = d.uri; client = d.client; on = d.on; version = d.version; text = None }

abbrev pub is_in_step : Document → Bool
is_in_step d = is_some d.text

-- the document is that of a URI
abbrev pub is_of : (uri : List ℕ) → Document → Bool
is_of uri d = bytes_eq (name_of d.uri) (name_of uri)

-- the document of a URI
abbrev pub document_of : (uri : List ℕ) → List Document → Option Document
document_of uri [] = None
document_of uri (d ∷ ds) = if is_of uri d then Some d else document_of uri ds

-- the same documents with another in its place, or behind them if there is none
abbrev pub put : (uri : List ℕ) → Document → List Document → List Document
put uri new [] = new ∷ []
put uri new (d ∷ ds) = if is_of uri d then new ∷ ds else d ∷ put uri new ds

-- the same documents without it
abbrev pub without : (uri : List ℕ) → List Document → List Document
without uri ds = filter (λ d. not (is_of uri d)) ds

-- a document by what a server keeps of it
abbrev pub document_with : (uri : List ℕ) → Client → Ground → (version : ℤ) → (in_step : Bool)
    → (shown : List ℕ) → Document
document_with uri client on version in_step shown = record {
  uri = uri;
  client = client;
  on = on;
  version = version;
  text = if in_step then Some shown else None;
}
