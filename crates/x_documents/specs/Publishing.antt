-- What is published of a document, and said where it was opened or changed (LSP 3.17,
-- `textDocument/publishDiagnostics`).
use Rattle.std.specs.Prelude.{◌≡◌, ◌⊎◌, ℕ, ℤ, ◌==◌, nat_le, ◌&&◌, Bool, MatchBool, List, [], ◌++◌, length}
use Rattle.std.specs.Prelude.{Option, Some}
use Rattle.serde_json.specs.Data.{Data}
use Rattle.serde_json.specs.Written.{compact_text}
use Rattle.x_compile.specs.Compile.{Item, faults_of}
use Rattle.x_compile.specs.declared.fault.FaultPlace.{FaultPlace}
use Rattle.x_session.specs.Foreign.{ForeignName}
use Rattle.x_prelude.specs.Foreign.{AreForeign}
use Rattle.x_frames.specs.KeptSaid.{no_memory_note}
use Rattle.x_told.specs.Choosing.{chosen, left_out}
use Rattle.x_told.specs.Telling.{told_of}
use Rattle.x_warnings.specs.Warnings.{AreWarnings, Warning}
use Rattle.x_published.specs.declared.client.Client.{Client}
use Rattle.x_published.specs.Diagnostics.{AreDiagnostics, AreForeignHints, hints_of, published_data}
use Rattle.x_published.specs.Unshown.{unshown_data}
use Rattle.x_published.specs.Warned.{AreWarned}
use Rattle.x_documents.specs.Grounds.{CompilesOn, Ground, compiled_of, constants_of}

-- The greatest text in which names are looked for that clash in C, since they are looked for in all of it
-- with each change.
abbrev pub most_warned : ℕ
most_warned = 262_144

-- they are looked for in a text of this size with so many faults
abbrev pub is_searched : (warns : Bool) → (size faults : ℕ) → Bool
is_searched warns size faults = warns && nat_le size most_warned && faults == 0

-- What is published of the names of a text that clash in C: of a text without a fault, that is not too large,
-- if the client wants that.
abbrev pub AreWarnedOf : Client → (uri : List ℕ) → (warns : Bool) → (shown text : List ℕ) → List Item
    → List Data → Type 0
AreWarnedOf client uri warns shown text items ds =
    MatchBool (is_searched warns (length shown) (length (faults_of text items)))
    ((ws : List Warning) × AreWarnings text items ws × AreWarned client uri shown text ws ds) (ds ≡ [])

-- What is published of the faults that are told, if `most` of them are at most: each that is shown, in their
-- order, and then how many are not.
abbrev pub AreShown : Client → (uri : List ℕ) → (most : ℕ) → (shown text : List ℕ) → List Item
    → (told : List FaultPlace) → List Data → Type 0
AreShown client uri most shown text items told ds =
    (each : List Data) × AreDiagnostics client uri shown text items (chosen most told) each
    × (ds ≡ each ++ unshown_data (left_out most told))

-- The text publishes the faults of a document's text with these items that are told, as many as may be, and
-- then the hints of directives, those of these names that are taken from C, and the names that clash in C.
abbrev pub IsPublishedOf : Client → (uri : List ℕ) → (version : ℤ) → (blanks warns : Bool) → (most : ℕ)
    → List ForeignName → (shown text : List ℕ) → List Item → (said : List ℕ) → Type 0
IsPublishedOf client uri version blanks warns most foreign shown text items said =
    (ds hints warned : List Data)
    × AreShown client uri most shown text items (told_of blanks shown items) ds
    × AreForeignHints client.encoding shown text foreign hints
    × AreWarnedOf client uri warns shown text items warned
    × (said ≡ compact_text (published_data uri version
    (ds ++ hints_of blanks client.encoding shown ++ hints ++ warned)))

-- the text publishes what is found in a document whose text is shown so
abbrev pub IsPublished : Client → (uri : List ℕ) → (version : ℤ) → Ground → (shown said : List ℕ) → Type 0
IsPublished client uri version on shown said = CompilesOn on shown (λ items. (foreign : List ForeignName)
    × AreForeign (on.files ++ constants_of on.blanks shown) on.from (compiled_of on.blanks shown) items
    foreign
    × IsPublishedOf client uri version on.blanks on.warns on.most foreign shown
    (compiled_of on.blanks shown) items said)

-- The faults of this text are published, as those of a document's version; or the user is shown that memory
-- ran out.
abbrev pub Publishes : Client → (uri : List ℕ) → (version : ℤ) → Ground → (shown : List ℕ)
    → Option (List ℕ) → Type 0
Publishes client uri version on shown said =
    ((published : List ℕ) × (said ≡ Some published) × ∥ IsPublished client uri version on shown published ∥₁)
    ⊎ (said ≡ Some no_memory_note)
