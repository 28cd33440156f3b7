-- The faults of a text, explained.
use Rattle.std.specs.Prelude.{◌≡◌, ℕ, ◌+◌, ◌-◌, max, Bool, true, false, ◌==◌, List, [], ◌∷◌, ◌++◌, codes}
use Rattle.std.specs.Prelude.{length, take, count_by, Option, None, Some, if◌then◌else◌, slice_range}
use Rattle.std.specs.Prelude.{option_map}
use Rattle.std.specs.List.{flat_map}
use Rattle.std.specs.Option.{option_or}
use Rattle.std.specs.Fmt.{decimal}
use Rattle.x_streams.specs.Streams.{Stream}
use Rattle.x_text.specs.Text.{line_of, column_of}
use Rattle.x_streams.specs.Writing.{Adds, Inked}
use Rattle.x_rules.specs.declared.fault.RuleCode.TheVariants.{UsesFaulty}
use Rattle.x_compile.specs.declared.fault.FaultCode.{FaultCode}
use Rattle.x_compile.specs.declared.fault.FaultCode.TheVariants.{Rule}
use Rattle.x_compile.specs.declared.fault.FaultPlace.{FaultPlace}
use Rattle.x_compile.specs.Compile.{Item, places_of}
use Rattle.x_compile.specs.Faults.{fault_text}
use Rattle.x_session.specs.declared.declared.FirstPlace.{FirstPlace}
use Rattle.x_explain.specs.declared.found.FoundFault.{FoundFault}
use Rattle.x_explain.specs.declared.explained.Pass.{Pass}
use Rattle.x_explain.specs.declared.explained.Pass.TheVariants.{Errors, Notes}
use Rattle.x_explain.specs.Excerpts.{Excerpt, excerpt}
use Rattle.x_explain.specs.Facts.{Known, kind_of, known_of}
use Rattle.x_session.specs.Foreign.{ForeignName}
use Rattle.x_explain.specs.Found.{AreFound}
use Rattle.x_explain.specs.KnownFiles.{FirstDeclaration, KnownPlaces}
use Rattle.x_explain.specs.Sentences.{saying, sentence}
use Rattle.x_explain.specs.Shown.{blank, columns, shown_byte, tildes}
use Rattle.x_explain.specs.Suggestions.{AreSuggested}

-- ten spaces, as wide as the greatest number of a line
abbrev pub margin : List ℕ
margin = codes "          "

-- the number of a line, at the right of five columns, and as much room without it
abbrev pub number_field : ℕ → List ℕ
number_field line = take (5 - length (decimal line)) margin ++ decimal line

abbrev pub gutter : ℕ → List ℕ
gutter line = take (max 5 (length (decimal line))) margin

-- the line of the text, with its number
abbrev pub shown_front : Excerpt → List ℕ
shown_front e = (if e.lacks_before then codes "..." else []) ++ flat_map (shown_byte e.utf8) e.front

abbrev pub shown_rear : Excerpt → List ℕ
shown_rear e = flat_map (shown_byte e.utf8) e.rear ++ (if e.lacks_after then codes "..." else [])

abbrev pub source_line : ℕ → Excerpt → List ℕ
source_line line e = number_field line ++ codes " | " ++ shown_front e ++ shown_rear e ++ codes "\n"

-- the orders by which a terminal begins a colour, and ends it (ECMA-48, 8.3.117): bold red for a fault, bold
-- green for the mark, and bold cyan for what is said beside
abbrev pub red : List ℕ
red = 27 ∷ codes "[1;31m"

abbrev pub green : List ℕ
green = 27 ∷ codes "[1;32m"

abbrev pub cyan : List ℕ
cyan = 27 ∷ codes "[1;36m"

abbrev pub plain : List ℕ
plain = 27 ∷ codes "[0m"

abbrev pub painted : (coloured : Bool) → (colour bytes : List ℕ) → List ℕ
painted coloured colour bytes =
    (if coloured then colour else []) ++ bytes ++ (if coloured then plain else [])

-- the mark under a word of so many bytes
abbrev pub blank_front : Excerpt → List ℕ
blank_front e = (if e.lacks_before then codes "   " else []) ++ flat_map (blank e.utf8) e.front

-- but for the first of its columns, which the mark begins with
abbrev pub other_tildes : (utf8 : Bool) → (word : List ℕ) → List ℕ
other_tildes utf8 [] = []
other_tildes utf8 (b ∷ bs) = take (columns utf8 b - 1) (codes "~~~") ++ flat_map (tildes utf8) bs

abbrev pub word_tildes : Excerpt → ℕ → List ℕ
word_tildes e width = other_tildes e.utf8 (take width e.rear)

abbrev pub mark : Excerpt → ℕ → List ℕ
mark e width = codes "^" ++ word_tildes e width

abbrev pub caret_line : Bool → ℕ → Excerpt → ℕ → List ℕ
caret_line coloured line e width =
    gutter line ++ codes " | " ++ blank_front e ++ painted coloured green (mark e width) ++ codes "\n"

-- `FILE:LINE:COL`
abbrev pub place : (file : List ℕ) → (line column : ℕ) → List ℕ
place file line column = file ++ codes ":" ++ decimal line ++ codes ":" ++ decimal column

-- where a name is declared first, if that is not here:
abbrev pub declared_line : (coloured : Bool) → (file : List ℕ) → ℕ → FirstPlace → List ℕ
declared_line coloured file line f =
    gutter line ++ codes " | " ++ painted coloured cyan (codes "note:") ++ codes " declared at "
    ++ place file f.spot.line f.spot.column ++ codes "\n"

-- in a file that is known before the text, or in the text's own
abbrev pub declared_elsewhere : (coloured : Bool) → (file : List ℕ) → (line start : ℕ)
    → Option (List ℕ) → FirstPlace → List ℕ
declared_elsewhere coloured file line start (Some other) f = declared_line coloured other line f
declared_elsewhere coloured file line start None f =
    if f.spot.start == start then [] else declared_line coloured file line f

abbrev pub note_line : (coloured : Bool) → (file : List ℕ) → (line start : ℕ) → Option FirstDeclaration
    → List ℕ
note_line coloured file line start None = []
note_line coloured file line start (Some f) = declared_elsewhere coloured file line start f.file f.place

-- what helps
abbrev pub help_line : (coloured : Bool) → ℕ → Option (List ℕ) → List ℕ
help_line coloured line None = []
help_line coloured line (Some help) =
    gutter line ++ codes " | " ++ painted coloured cyan (codes "help:") ++ codes " " ++ help ++ codes "\n"

-- `FILE:LINE:COL: `
abbrev pub heading : (file text : List ℕ) → FoundFault → List ℕ
heading file text d = place file (line_of text d.start) (column_of text d.start) ++ codes ": "

-- a name is taken from C
abbrev pub foreign_line : (coloured : Bool) → (file : List ℕ) → ForeignName → List ℕ
foreign_line coloured file f =
    place file f.spot.line f.spot.column ++ codes ": " ++ painted coloured cyan (codes "note:") ++ codes " '"
    ++ f.name ++ codes "' is taken from C\n"

-- how a file's text is told: with or without colours
pub record Telling : Type 0 where
  pub coloured : Bool
  pub file : List ℕ
  pub text : List ℕ

abbrev pub word_of : List ℕ → FoundFault → List ℕ
word_of text d = slice_range text d.start d.end

-- `FILE:LINE:COL: CODE NAME: SENTENCE`, by what is known of the word
abbrev pub headline : Telling → FoundFault → Known → List ℕ
headline t d k = heading t.file t.text d ++ painted t.coloured red (fault_text d.code) ++ codes ": "
    ++ sentence d.code (kind_of k.first) k.name ++ codes "\n"

-- what helps: the name that may have been meant, or what helps against such faults
abbrev pub meant : List ℕ → List ℕ
meant name = codes "did you mean '" ++ name ++ codes "'?"

abbrev pub help_of : FaultCode → Known → Option (List ℕ)
help_of code k = option_or (option_map meant k.suggested) (saying code (kind_of k.first)).help

-- that line, the line of the text, and what helps
abbrev pub line_by : Telling → FoundFault → ℕ
line_by t d = line_of t.text d.start

abbrev pub excerpt_by : Telling → FoundFault → Excerpt
excerpt_by t d = excerpt t.text d.start (column_of t.text d.start)

abbrev pub explained : Telling → FoundFault → Known → List ℕ
explained t d k =
    headline t d k ++ source_line (line_by t d) (excerpt_by t d)
    ++ caret_line t.coloured (line_by t d) (excerpt_by t d) (d.end - d.start)
    ++ note_line t.coloured t.file (line_by t d) d.start k.first
    ++ help_line t.coloured (line_by t d) (help_of d.code k)

-- a fault that comes of others: the definition of the word has faults
abbrev pub is_note : FaultCode → Bool
is_note (Rule UsesFaulty) = true
is_note code = false

-- what a pass over the faults says of one
abbrev pub error_said : Telling → FoundFault → Known → List ℕ
error_said t d k = if is_note d.code then [] else explained t d k

abbrev pub note_said : Telling → FoundFault → Known → List ℕ
note_said t d k = if is_note d.code then headline t d k else []

abbrev pub said_in : Pass → Telling → FoundFault → Known → List ℕ
said_in Errors t d k = error_said t d k
said_in Notes t d k = note_said t d k

-- what it says of one, by what is known before the text, by its items, and by what is suggested for its words
abbrev pub said_by : Pass → KnownPlaces → Telling → List Item → List (ℕ × Option (List ℕ)) → FoundFault
    → List ℕ
said_by pass before t items near d =
    said_in pass t d (known_of before t.text items near d.code d.start (word_of t.text d))

-- `3 errors, 1 note`
abbrev pub counted_noun : ℕ → List ℕ → List ℕ
counted_noun n what = decimal n ++ codes " " ++ what ++ (if n == 1 then [] else codes "s")

abbrev pub counted_notes : ℕ → List ℕ
counted_notes n = if n == 0 then [] else codes ", " ++ counted_noun n (codes "note")

abbrev pub summary : (errors notes : ℕ) → List ℕ
summary errors notes = counted_noun errors (codes "error") ++ counted_notes notes ++ codes "\n"

abbrev pub notes_at : List FaultPlace → ℕ
notes_at places = count_by (λ p. is_note p.code) places

-- the errors of a text, then the notes, the names that it takes from C among them, and how many there are
abbrev pub explanation : KnownPlaces → List ForeignName → Telling → List Item → List (ℕ × Option (List ℕ))
    → (errors notes : List FoundFault) → List ℕ
explanation before foreign t items near errors notes =
    flat_map (said_by Errors before t items near) errors ++ flat_map (said_by Notes before t items near) notes
    ++ flat_map (foreign_line t.coloured t.file) foreign
    ++ summary (length (places_of items) - notes_at (places_of items))
    (notes_at (places_of items) + length foreign)

-- the faults of a text, which has these items, are explained so, where these names are known before it, and
-- it takes these from C
pub record AreExplained (before : KnownPlaces) (foreign : List ForeignName) (t : Telling) (items : List Item)
    (said : List ℕ) : Type 0 where
  pub near : List (ℕ × Option (List ℕ))
  pub errors : List FoundFault
  pub notes : List FoundFault
  pub are_near : AreSuggested t.text items near
  pub are_found : AreFound t.text (places_of items) errors
  pub are_found_too : AreFound t.text (places_of items) notes
  pub said_is : said ≡ explanation before foreign t items near errors notes

-- a pass added what it says of the faults at these places
abbrev pub IsPass : Pass → KnownPlaces → Telling → List Item → List (ℕ × Option (List ℕ)) → List FaultPlace
    → Inked → Stream → Inked → Stream → Type 0
IsPass pass before t items near places p old q new = (found : List FoundFault) × AreFound t.text places found
    × Adds p old q new (flat_map (said_by pass before t items near) found)
