-- The documents of the program, as those that a client has open.
use Rattle.std.specs.Prelude.{◌≡◌, ◌<◌, ℕ, List, length, map, slice_index_or, slice_set, string_bytes}
use Rattle.std.specs.Prelude.{Option, None, Some}
use Rattle.x_documents.specs.Documents.{Document, document_of, document_with, put}
use Rattle.x_documents.specs.Grounds.{ground_with}
use Rattle.x_documents.specs.declared.document.OpenDocument.{OpenDocument}
use Rattle.x_documents.specs.declared.documents.Documents.{Documents}

abbrev pub view_document : OpenDocument → Document
view_document d = document_with (string_bytes d.uri) d.client
    (ground_with d.files.items d.compiled.from_c d.blanks d.warns d.most) d.version d.in_step d.shown

abbrev pub views : List OpenDocument → List Document
views documents = map view_document documents

-- the document of a URI is the one at an index, and another in its place stands there
abbrev pub IsFoundAt : List OpenDocument → (uri : List ℕ) → Option ℕ → Type 0
IsFoundAt documents uri None = document_of uri (views documents) ≡ None
IsFoundAt documents uri (Some at) = (at < length documents)
    × ((d : OpenDocument) → document_of uri (views documents)
    ≡ Some (view_document (slice_index_or documents at d)))
    × ((new : OpenDocument) → put uri (view_document new) (views documents)
    ≡ views (slice_set documents at new))

abbrev pub documents_of : Documents → List Document
documents_of documents = views documents.list.items
