-- What a line of a script asks for.
use Rattle.std.specs.Prelude.{ℕ, ◌+◌, ◌*◌, ◌%◌, Bool, ◌&&◌, ◌==◌, nat_lt, if◌then◌else◌, List, []}
use Rattle.std.specs.Prelude.{◌∷◌, length, Option, Some, None, codes, bytes_eq}
use Rattle.std.specs.List.{list_all, slice_split}
use Rattle.std.specs.Char.{is_ascii_hexdigit, digit_value}
use Rattle.std.specs.Str.Parse.{digits_value}
use Rattle.x_lines.specs.Numbers.{is_number}
use Rattle.x_script.specs.declared.script.command.Command.{Command}
use Rattle.x_script.specs.declared.script.command.Command.TheVariants.{Edit, Tokens, Definitions, Faults}
use Rattle.x_script.specs.declared.script.command.Command.TheVariants.{Text, Bad}
use Rattle.x_pieces.specs.declared.which.Which.TheVariants.{Header, Routines, Stubs, Table}

-- the words of a line; each space parts two, so that one of them may be empty
abbrev pub words_of : List ℕ → List (List ℕ)
words_of line = slice_split (λ b. b == 32) line

-- one or more pairs of hexadecimal digits
abbrev pub is_hex : List ℕ → Bool
is_hex word = nat_lt 0 (length word) && length word % 2 == 0 && list_all is_ascii_hexdigit word

-- the bytes that pairs of hexadecimal digits write
abbrev pub bytes_of : List ℕ → List ℕ
bytes_of (high ∷ low ∷ rest) = (16 * digit_value high + digit_value low) ∷ bytes_of rest
bytes_of _ = []

-- an edit from one number to another
abbrev pub edit_line : List ℕ → List ℕ → List ℕ → Command
edit_line start end insert =
    if is_number start && is_number end then Edit (digits_value 10 start) (digits_value 10 end) insert
    else Bad

-- a line that is one word
abbrev pub one_word : List ℕ → Command
one_word name =
    if bytes_eq name (codes "tokens") then Tokens
    else if bytes_eq name (codes "definitions") then Definitions
    else if bytes_eq name (codes "faults") then Faults
    else if bytes_eq name (codes "header") then Text Header
    else if bytes_eq name (codes "routines") then Text Routines
    else if bytes_eq name (codes "stubs") then Text Stubs
    else if bytes_eq name (codes "table") then Text Table
    else Bad

-- what the words behind `edit` ask for
abbrev pub edit_by : List (List ℕ) → Command
edit_by (start ∷ end ∷ []) = edit_line start end []
edit_by (start ∷ end ∷ hex ∷ []) = if is_hex hex then edit_line start end (bytes_of hex) else Bad
edit_by _ = Bad

-- what the words of a line ask for
abbrev pub asked_by : List (List ℕ) → Command
asked_by [] = Bad
asked_by (name ∷ []) = one_word name
asked_by (name ∷ words) = if bytes_eq name (codes "edit") then edit_by words else Bad

-- what a line asks for
abbrev pub command_of : List ℕ → Command
command_of line = asked_by (words_of line)

-- the line asks to explain the faults
abbrev pub explain_asked : List ℕ → Bool
explain_asked line = bytes_eq line (codes "explain")

-- the line asks for the names that clash in C
abbrev pub clashes_asked : List ℕ → Bool
clashes_asked line = bytes_eq line (codes "clashes")

-- a type's name and a message, if they are asked for
abbrev pub asked_if : Bool → List ℕ → List ℕ → Option (List ℕ × List ℕ)
asked_if is name message = if is then Some (name, message) else None

-- the type and the message that the words behind `dump` name; a type has one or more bytes, and without
-- digits the message is empty
abbrev pub dump_by : List (List ℕ) → Option (List ℕ × List ℕ)
dump_by (name ∷ []) = asked_if (nat_lt 0 (length name)) name []
dump_by (name ∷ hex ∷ []) = asked_if (nat_lt 0 (length name) && is_hex hex) name (bytes_of hex)
dump_by _ = None

abbrev pub dump_asked_by : List (List ℕ) → Option (List ℕ × List ℕ)
dump_asked_by [] = None
dump_asked_by (word ∷ words) = if bytes_eq word (codes "dump") then dump_by words else None

-- the type and the message that a line asks to show, if it asks for a value
abbrev pub dump_asked : List ℕ → Option (List ℕ × List ℕ)
dump_asked line = dump_asked_by (words_of line)
