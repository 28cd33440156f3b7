-- The constants that directives `#define` give.
use Rattle.std.specs.Prelude.{ℕ, ◌-◌, Bool, ◌||◌, ◌&&◌, ◌==◌, not, if◌then◌else◌, List, length, take, drop}
use Rattle.std.specs.Prelude.{codes, slice_index, Option, None, Some}
use Rattle.std.specs.List.{prefix_len, take_while, filter_map}
use Rattle.std.specs.Str.{bytes_eq}
use Rattle.x_lex.specs.Bytes.{is_blank, is_between, is_word_byte, is_number}
use Rattle.x_directives.specs.Directives.{Marked, marked_lines, is_first, is_open, behind_hash, unblanked}
use Rattle.x_directives.specs.Directives.{end_length}

-- a name and a number, as they are spelled
pub record Spelled : Type 0 where
  pub name : List ℕ
  pub number : List ℕ

-- bytes of one kind at the front, and what stands behind them
pub record Split : Type 0 where
  pub front : List ℕ
  pub behind : List ℕ

-- the bytes that pass the test are cut off at the front
abbrev pub split : (ℕ → Bool) → List ℕ → Split
split test bytes = record { front = take_while test bytes; behind = drop (prefix_len test bytes) bytes }

-- a space or a tab stands at the front
abbrev pub begins_blank : List ℕ → Bool
begins_blank bytes = is_blank (slice_index bytes 0)

-- a letter, and then letters, digits and `_`, which each byte of a word is
abbrev pub is_name : List ℕ → Bool
is_name word = is_between 65 90 (slice_index word 0) || is_between 97 122 (slice_index word 0)

-- a byte of a number, or of a word that runs into one
abbrev pub is_number_byte : ℕ → Bool
is_number_byte b = is_word_byte b || b == 45

-- nothing, or a comment, of which C has two forms
abbrev pub is_remark : List ℕ → Bool
is_remark bytes =
    length bytes == 0 || bytes_eq (take 2 bytes) (codes "/*") || bytes_eq (take 2 bytes) (codes "//")

-- a name, blanks and a number, with nothing behind them but blanks and a comment
unfoldable pub constant_of : List ℕ → Option Spelled
constant_of bytes =
    let name = split is_word_byte bytes in
    let number = split is_number_byte (unblanked name.behind) in
    if is_name name.front && begins_blank name.behind && is_number number.front
    && is_remark (unblanked number.behind)
    then Some (record { name = name.front; number = number.front }) else None

-- the word `define` and blanks, and then a constant
unfoldable pub definition_of : List ℕ → Option Spelled
definition_of bytes =
    let word = split is_word_byte bytes in
    if bytes_eq word.front (codes "define") && begins_blank word.behind
    then constant_of (unblanked word.behind) else None

-- a line without what ends it
unfoldable pub without_end : List ℕ → List ℕ
without_end line = take (length line - end_length line) line

-- what a directive of one line defines
unfoldable pub defined_in : Marked → Option Spelled
defined_in line =
    if is_first line.part && not (is_open line.bytes)
    then definition_of (behind_hash (without_end line.bytes)) else None

-- all constants of a text, in order
abbrev pub defined : List ℕ → List Spelled
defined text = filter_map defined_in (marked_lines text)
