-- What notifications make of the documents that are open, and what is said to a notification (LSP 3.17, "Text
-- Document Synchronization").
use Rattle.std.specs.Prelude.{◌≡◌, ◌⊎◌, ◌<◌, ◌≤◌, ℕ, ℤ, Bool, true, false, MatchBool, List, [], ◌∷◌, ◌++◌}
use Rattle.std.specs.Prelude.{length, map, codes, Option, None, Some, MatchOption, is_none, unwrap_or}
use Rattle.std.specs.List.{list_any}
use Rattle.serde_json.specs.Written.{compact_text}
use Rattle.x_text.specs.Edits.{FitsText, Refuses, edited_by}
use Rattle.x_text.specs.Limits.{most_text}
use Rattle.x_text.specs.declared.text.fault.TextFault.{TextFault}
use Rattle.x_text.specs.declared.text.fault.TextFault.TheVariants.{BadRange, TooLarge, NoMemory}
use Rattle.x_frames.specs.Answers.{shown_data}
use Rattle.x_frames.specs.KeptSaid.{no_memory_note}
use Rattle.x_frames.specs.Notes as asked
use Rattle.x_frames.specs.Notes.{Noted, opens, closes, wrong, other}
use Rattle.x_frames.specs.Params.{Replacement, replacements_in}
use Rattle.x_frames.specs.declared.notes.NoteKind.{NoteKind}
use Rattle.x_frames.specs.declared.notes.NoteKind.TheVariants.{Open, Change, Close}
use Rattle.x_positions.specs.declared.encoding.Encoding.{Encoding}
use Rattle.x_prelude.specs.Before.{IsCrowded}
use Rattle.x_published.specs.Diagnostics.{closing_data}
use Rattle.x_published.specs.declared.client.Client.{Client}
use Rattle.x_documents.specs.Changes.{change_by, changed_by_all}
use Rattle.x_documents.specs.Documents.{Document, document_of, is_in_step, lost, opened_as, put, unread}
use Rattle.x_documents.specs.Documents.{without}
use Rattle.x_documents.specs.Grounds.{Ground, compiled_of, constants_of}
use Rattle.x_documents.specs.Publishing.{Publishes}

-- ---- what the user is shown

-- the user is shown this text, or that memory ran out
abbrev pub Shows : (told : List ℕ) → (said : Option (List ℕ)) → Type 0
Shows told said = (said ≡ Some (compact_text (shown_data told))) ⊎ (said ≡ Some no_memory_note)

-- A document is out of step now, which had this text before. The user is shown why if it was in step; if it
-- was not, nothing is said.
abbrev pub Falls : Option (List ℕ) → (why : List ℕ) → (said : Option (List ℕ)) → Type 0
Falls None why said = said ≡ None
Falls (Some text) why said = Shows why said

-- why a notification is not understood, and why a text is refused
abbrev pub wrong_note : NoteKind → List ℕ
wrong_note Open = codes "the parameters of didOpen are wrong"
wrong_note Change = codes "the parameters of didChange are wrong"
wrong_note Close = codes "the parameters of didClose are wrong"

abbrev pub refused_text : TextFault → List ℕ
refused_text BadRange = codes "a change was refused, open the document again: 1 BadRange"
refused_text TooLarge = codes "a text was refused: 2 TooLarge"
refused_text NoMemory = codes "out of memory"

-- ---- one document

-- why a text is not compiled: it, or what stands before it, is too large, or memory ran out
abbrev pub IsNotCompiled : Ground → (text : List ℕ) → TextFault → Type 0
IsNotCompiled on text BadRange = ⊥
IsNotCompiled on text TooLarge = ∥ (most_text < length (compiled_of on.blanks text))
    ⊎ IsCrowded (on.files ++ constants_of on.blanks text) on.from (compiled_of on.blanks text) ∥₁
IsNotCompiled on text NoMemory = Unit {0}

-- why a text is not opened: it is too large, or is not compiled
abbrev pub IsNotOpened : Ground → (text : List ℕ) → TextFault → Type 0
IsNotOpened on text BadRange = ⊥
IsNotOpened on text TooLarge = (most_text < length text) ⊎ IsNotCompiled on text TooLarge
IsNotOpened on text NoMemory = Unit {0}

-- each change fits the text that those before it leave
abbrev pub Fit : Encoding → (text : List ℕ) → List Replacement → Type 0
Fit encoding text [] = Unit {0}
Fit encoding text (change ∷ changes) = FitsText (change_by encoding text change)
    × Fit encoding (edited_by (change_by encoding text change)) changes

-- why changes of a text are not all carried out: one is refused for this, and those before it fit
abbrev pub IsStopped : Encoding → (text : List ℕ) → TextFault → List Replacement → Type 0
IsStopped encoding text fault [] = ⊥
IsStopped encoding text fault (change ∷ changes) = Refuses (change_by encoding text change) fault
    ⊎ (FitsText (change_by encoding text change)
    × IsStopped encoding (edited_by (change_by encoding text change)) fault changes)

-- the changes begin with a text that takes the place of all
abbrev pub begin_whole : List Replacement → Bool
begin_whole [] = false
begin_whole (change ∷ changes) = is_none change.range

-- the text of a document behind changes, and the document then
abbrev pub text_after : Document → List Replacement → List ℕ
text_after d changes = changed_by_all d.client.encoding (unwrap_or d.text []) changes

abbrev pub changed_to : Document → (version : Option ℤ) → (text : List ℕ) → Document
changed_to d version text = record {
  uri = d.uri;
  client = d.client;
  on = d.on;
  version = unwrap_or version d.version;
  text = Some text;
}

-- What becomes of a document by changes that are understood. While it is out of step, changes are passed over
-- that do not begin with its whole text. Otherwise it has the text that they leave, which is published; or it
-- is out of step, since one of them is refused or that text is not compiled.
pub data IsChanged (d : Document) (version : Option ℤ) (changes : List Replacement) (said : Option (List ℕ))
    (d' : Document) : Type 0 where
  passed_over : d.text ≡ None → begin_whole changes ≡ false → said ≡ None → d' ≡ d
      → IsChanged d version changes said d'
  carried_out : (d.text ≡ None → begin_whole changes ≡ true)
      → Fit d.client.encoding (unwrap_or d.text []) changes
      → d' ≡ changed_to d version (text_after d changes)
      → Publishes d.client d.uri d'.version d.on (text_after d changes) said
      → IsChanged d version changes said d'
  refused : (fault : TextFault) → IsStopped d.client.encoding (unwrap_or d.text []) fault changes
      ⊎ IsNotCompiled d.on (text_after d changes) fault
      → d' ≡ lost d → Falls d.text (refused_text fault) said → IsChanged d version changes said d'

-- by changes that are understood or not
abbrev pub IsChangedIf : Document → (version : Option ℤ) → Option (List Replacement)
    → (said : Option (List ℕ)) → Document → Type 0
IsChangedIf d version None said d' = (d' ≡ lost d) × Falls d.text (wrong_note Change) said
IsChangedIf d version (Some changes) said d' = IsChanged d version changes said d'

-- ---- all documents

-- This is what becomes of the document of a URI. If there is none, nothing is done and nothing is said.
abbrev pub BecomesOf : (uri : List ℕ) → List Document → (Document → Document → Type 0)
    → (said : Option (List ℕ)) → List Document → Type 0
BecomesOf uri docs Becomes said docs' = MatchOption (document_of uri docs)
    ((said ≡ None) × (docs' ≡ docs))
    (λ d. (d' : Document) × (docs' ≡ put uri d' docs) × Becomes d d')

-- that document out of step, or the new one if there is none
abbrev pub lost_or : Option Document → Document → Document
lost_or None new = new
lost_or (Some d) new = lost d

-- A document that could not be opened is open out of step, and the user is shown why. Where memory runs out
-- there may be none.
abbrev pub OpensLost : Client → Ground → List Document → (uri : List ℕ) → (why : List ℕ)
    → (said : Option (List ℕ)) → List Document → Type 0
OpensLost client on docs uri why said docs' =
    (Shows why said × (docs' ≡ put uri (lost_or (document_of uri docs) (unread client on uri)) docs))
    ⊎ ((said ≡ Some no_memory_note) × (document_of uri docs ≡ None) × (docs' ≡ docs))

-- A document is opened, in place of the one of its URI if there is one, and is published; or its text is
-- refused.
abbrev pub Opens : Client → Ground → List Document → (uri : List ℕ) → (version : ℤ) → (text : List ℕ)
    → (said : Option (List ℕ)) → List Document → Type 0
Opens client on docs uri version text said docs' =
    ((length text ≤ most_text) × (docs' ≡ put uri (opened_as client on uri version text) docs)
    × Publishes client uri version on text said)
    ⊎ ((fault : TextFault) × IsNotOpened on text fault
    × OpensLost client on docs uri (refused_text fault) said docs')

-- that nothing is wrong with a document which was closed is published, by its URI as it was opened
abbrev pub Closes : Option Document → (said : Option (List ℕ)) → Type 0
Closes None said = said ≡ None
Closes (Some d) said = (said ≡ Some (compact_text (closing_data d.uri))) ⊎ (said ≡ Some no_memory_note)

-- A notification is not understood. What it opens is open out of step; else the document that it names is out
-- of step, or each where it names none.
abbrev pub Misses : NoteKind → Option (List ℕ) → Client → Ground → List Document
    → (said : Option (List ℕ)) → List Document → Type 0
Misses kind None client on docs said docs' =
    (docs' ≡ map lost docs)
    × MatchBool (list_any is_in_step docs) (Shows (wrong_note kind) said) (said ≡ None)
Misses Open (Some uri) client on docs said docs' = OpensLost client on docs uri (wrong_note Open) said docs'
Misses kind (Some uri) client on docs said docs' =
    BecomesOf uri docs (λ d d'. (d' ≡ lost d) × Falls d.text (wrong_note kind) said) said docs'

-- what a notification makes of the documents, and what is said to it
abbrev pub Notes : Client → Ground → List Document → Noted → (said : Option (List ℕ)) → List Document
    → Type 0
Notes client on docs (opens uri version text) said docs' = Opens client on docs uri version text said docs'
Notes client on docs (asked.changes uri version items) said docs' =
    BecomesOf uri docs (λ d d'. IsChangedIf d version (replacements_in items) said d') said docs'
Notes client on docs (closes uri) said docs' =
    (docs' ≡ without uri docs) × Closes (document_of uri docs) said
Notes client on docs (wrong kind uri) said docs' = Misses kind uri client on docs said docs'
Notes client on docs other said docs' = (said ≡ None) × (docs' ≡ docs)
