-- What is published of a text's faults (LSP 3.17, `textDocument/publishDiagnostics`).
use Rattle.std.specs.Prelude.{◌≡◌, ℕ, ℤ, ◌==◌, List, []}
use Rattle.std.specs.Prelude.{◌∷◌, ◌++◌, codes, Option, None, Some, option_and_then, option_map}
use Rattle.std.specs.Prelude.{if◌then◌else◌, map, unwrap_or, Bool, true, false, ◌&&◌, slice_range}
use Rattle.std.specs.List.{before_first}
use Rattle.serde_json.specs.Data.{Data, Members, array, number, string, object, member, item, no_items}
use Rattle.serde_json.specs.Data.{no_members, unsigned}
use Rattle.serde_json.specs.Find.{of_integer}
use Rattle.serde_json.specs.View.{items_of}
use Rattle.x_compile.specs.declared.fault.FaultPlace.{FaultPlace}
use Rattle.x_compile.specs.declared.fault.FaultCode.{FaultCode}
use Rattle.x_compile.specs.declared.fault.FaultCode.TheVariants.{Rule}
use Rattle.x_rules.specs.declared.fault.RuleCode.TheVariants.{Duplicate, LateName, NotType, NotConst}
use Rattle.x_rules.specs.declared.fault.RuleCode.TheVariants.{Unknown, UsesFaulty}
use Rattle.x_compile.specs.Compile.{Item}
use Rattle.x_compile.specs.Faults.{fault_text}
use Rattle.x_directives.specs.Conditionals.{conditionals}
use Rattle.x_directives.specs.declared.conditions.Conditional.{Conditional}
use Rattle.x_session.specs.DeclaredNames.{definition_of}
use Rattle.x_explain.specs.Facts.{name_of}
use Rattle.x_session.specs.Foreign.{ForeignName}
use Rattle.x_explain.specs.Found.{IsEndOfToken}
use Rattle.x_positions.specs.declared.range.Range.{Range}
use Rattle.x_published.specs.declared.client.Client.{Client}
use Rattle.x_positions.specs.declared.encoding.Encoding.{Encoding}
use Rattle.x_published.specs.declared.published.Severity.{Severity}
use Rattle.x_published.specs.declared.published.Severity.TheVariants.{Error, Hint, Information, Warning}
use Rattle.x_frames.specs.Answers.{note_data}
use Rattle.x_frames.specs.Framing.{short_number}
use Rattle.x_positions.specs.Positions.{position_of}
use Rattle.x_positions.specs.PositionData.{range_data}

-- the number of a fault, which its text begins with
abbrev pub fault_number : FaultCode → ℕ
fault_number code = unwrap_or (short_number (before_first (λ b. b == 32) (fault_text code))) 0

-- another place of a document that matters, and what is said of it
abbrev pub related_data : (said uri : List ℕ) → Range → Data
related_data said uri range = object
    (member (codes "location") (object (member (codes "range") (range_data range.start range.end)
    (member (codes "uri") (string uri) no_members)))
    (member (codes "message") (string said) no_members))

-- the same of a fault
abbrev pub declared_data : (uri : List ℕ) → Range → Data
declared_data uri = related_data (codes "first declared here") uri

-- the number of a severity
abbrev pub severity_number : Severity → ℕ
severity_number Error = 1
severity_number Warning = 2
severity_number Information = 3
severity_number Hint = 4

-- how much a fault matters: that a name is used whose declarer has faults follows from those, and is no error
abbrev pub severity_of : FaultCode → Severity
severity_of (Rule UsesFaulty) = Information
severity_of code = Error

-- the members of a diagnostic behind its range; with the other place, if there is one
abbrev pub last_members : Severity → Members
last_members severity = member (codes "severity") (number (unsigned (severity_number severity)))
    (member (codes "source") (string (codes "rpcgen")) no_members)

abbrev pub rest_members : Severity → Option Data → Members
rest_members severity None = last_members severity
rest_members severity (Some related) =
    member (codes "relatedInformation") (array (item related no_items)) (last_members severity)

-- those behind its code
abbrev pub message_members : Severity → Data → List ℕ → Option Data → Members
message_members severity range message related = member (codes "message") (string message)
    (member (codes "range") range (rest_members severity related))

-- a diagnostic with the number of a fault as its code, and one without a code
abbrev pub diagnostic_data : Severity → ℕ → Data → List ℕ → Option Data → Data
diagnostic_data severity number' range message related = object
    (member (codes "code") (number (unsigned number')) (message_members severity range message related))

abbrev pub plain_data : Severity → Data → List ℕ → Option Data → Data
plain_data severity range message related = object (message_members severity range message related)

-- the code says something of how its word is declared
abbrev pub is_of_declarer : FaultCode → Bool
is_of_declarer (Rule Duplicate) = true
is_of_declarer (Rule LateName) = true
is_of_declarer (Rule NotType) = true
is_of_declarer (Rule NotConst) = true
is_of_declarer (Rule UsesFaulty) = true
is_of_declarer code = false

-- where a word is declared first, if not at this place
abbrev pub if_elsewhere : ℕ → ℕ → Option ℕ
if_elsewhere start place = if place == start then None else Some place

abbrev pub declared_elsewhere : List Item → List ℕ → ℕ → Option ℕ
declared_elsewhere items word start =
    option_and_then (if_elsewhere start) (option_map (λ t. t.start) (definition_of items word))

-- the other place that matters to a fault at a word: where the name that it is about is declared first
abbrev pub other_place : Bool → List Item → FaultCode → List ℕ → ℕ → Option ℕ
other_place shown items code word start =
    if shown && is_of_declarer code then declared_elsewhere items (name_of items code start word) start
    else None

-- the range is that of the token at a place, where there is one, in the text that is shown
abbrev pub IsRangeAt : Encoding → (shown text : List ℕ) → Option ℕ → Option Range → Type 0
IsRangeAt encoding shown text None range = range ≡ None
IsRangeAt encoding shown text (Some start) range = (end : ℕ) × IsEndOfToken text start end
    × (range ≡ Some (record {
      start = position_of encoding shown start;
      end = position_of encoding shown end;
    }))

-- What is published of a fault: how much it matters, its number, its name with a sentence, and the range of
-- its token in the text that is shown; and if the client shows that, the range of the token that declares its
-- word first.
pub record IsDiagnostic (client : Client) (uri shown text : List ℕ) (items : List Item) (fault : FaultPlace)
    (data' : Data) : Type 0 where
  pub end : ℕ
  pub sentence : List ℕ
  pub other : Option Range
  pub token : IsEndOfToken text fault.start end
  pub other_is : IsRangeAt client.encoding shown text (other_place client.shows_related items fault.code
      (slice_range text fault.start end) fault.start) other
  pub data_is : data' ≡ diagnostic_data (severity_of fault.code) (fault_number fault.code)
      (range_data (position_of client.encoding shown fault.start)
      (position_of client.encoding shown end))
      (fault_text fault.code ++ codes ": " ++ sentence) (option_map (declared_data uri) other)

-- what is published of faults, one after another
abbrev pub AreDiagnostics : Client → (uri shown text : List ℕ) → List Item → List FaultPlace → List Data
    → Type 0
AreDiagnostics client uri shown text items [] [] = Unit {0}
AreDiagnostics client uri shown text items [] (d ∷ ds) = ⊥
AreDiagnostics client uri shown text items (f ∷ fs) [] = ⊥
AreDiagnostics client uri shown text items (f ∷ fs) (d ∷ ds) =
    IsDiagnostic client uri shown text items f d × AreDiagnostics client uri shown text items fs ds

-- What is published of a directive that begins a branch, where directives are blanked: that the branches are
-- all read, over its first line.
abbrev pub branch_message : List ℕ
branch_message = codes "14 Directive: not read: both branches of #if are"

abbrev pub hint_data : Encoding → List ℕ → Conditional → Data
hint_data encoding shown place = diagnostic_data Hint 14
    (range_data (position_of encoding shown place.start) (position_of encoding shown place.end))
    branch_message None

abbrev pub hints_of : (blanks : Bool) → Encoding → List ℕ → List Data
hints_of blanks encoding shown = if blanks then map (hint_data encoding shown) (conditionals shown) else []

-- What is published of a name that a text takes from C: as a hint at its token, with a sentence.
pub record IsForeignHint (encoding : Encoding) (shown text : List ℕ) (f : ForeignName) (data' : Data)
    : Type 0 where
  pub end : ℕ
  pub sentence : List ℕ
  pub token : IsEndOfToken text f.spot.start end
  pub data_is : data' ≡ diagnostic_data Hint (fault_number (Rule Unknown))
      (range_data (position_of encoding shown f.spot.start) (position_of encoding shown end))
      (fault_text (Rule Unknown) ++ codes ": " ++ sentence) None

-- of such names, one after another
abbrev pub AreForeignHints : Encoding → (shown text : List ℕ) → List ForeignName → List Data → Type 0
AreForeignHints encoding shown text [] [] = Unit {0}
AreForeignHints encoding shown text [] (d ∷ ds) = ⊥
AreForeignHints encoding shown text (f ∷ fs) [] = ⊥
AreForeignHints encoding shown text (f ∷ fs) (d ∷ ds) =
    IsForeignHint encoding shown text f d × AreForeignHints encoding shown text fs ds

-- the parameters of the note that publishes diagnostics of a version of a document, and the note
abbrev pub params_with : List ℕ → Data → List Data → Data
params_with uri version ds = object
    (member (codes "diagnostics") (array (items_of ds))
    (member (codes "uri") (string uri) (member (codes "version") version no_members)))

abbrev pub published_with : List ℕ → Data → List Data → Data
published_with uri version ds =
    note_data (codes "textDocument/publishDiagnostics") (params_with uri version ds)

abbrev pub published_data : List ℕ → ℤ → List Data → Data
published_data uri version ds = published_with uri (number (of_integer version)) ds

-- the note that publishes that nothing is wrong with a document which was closed
abbrev pub closing_data : List ℕ → Data
closing_data uri = note_data (codes "textDocument/publishDiagnostics")
    (object (member (codes "diagnostics") (array no_items) (member (codes "uri") (string uri) no_members)))
