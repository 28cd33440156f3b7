-- Where `#if`, `#ifdef` and `#ifndef` stand, but for those that have a file read once.
use Rattle.std.specs.Prelude.{ℕ, ◌+◌, ◌-◌, Bool, false, ◌||◌, ◌&&◌, not, nat_lt, if◌then◌else◌, List, [], ◌∷◌}
use Rattle.std.specs.Prelude.{◌++◌, length, codes, drop, Option, None, Some, option_to_list}
use Rattle.std.specs.List.{prefix_len, take_while, find}
use Rattle.std.specs.Str.{bytes_eq}
use Rattle.x_lex.specs.Bytes.{is_blank, is_word_byte}
use Rattle.x_directives.specs.declared.conditions.Conditional.{Conditional}
use Rattle.x_directives.specs.Comments.{is_bare}
use Rattle.x_directives.specs.Directives.{Marked, marked_lines, directive_word, behind_hash, unblanked}
use Rattle.x_directives.specs.Directives.{end_length}

-- the words whose directives have an `#endif`
abbrev pub is_condition : List ℕ → Bool
is_condition word =
    bytes_eq word (codes "if") || bytes_eq word (codes "ifdef") || bytes_eq word (codes "ifndef")

-- from the `#` to behind the last byte before the line's end
abbrev pub extent : Marked → Conditional
extent line = record {
  start = line.start + prefix_len is_blank line.bytes;
  end = line.start + (length line.bytes - end_length line.bytes);
}

-- the word behind that of the directive, and blanks
unfoldable pub name_behind : Marked → List ℕ
name_behind line =
    let rest = behind_hash line.bytes in
    take_while is_word_byte (unblanked (drop (prefix_len is_word_byte rest) rest))

-- more than white space and comments stands in the line
abbrev pub says_more : Marked → Bool
says_more line = not (is_bare line.commented line.bytes)

-- `#ifndef NAME`, and `#define NAME`
unfoldable pub is_guard : Marked → Option Marked → Bool
is_guard line None = false
is_guard line (Some next) =
    bytes_eq (directive_word line) (codes "ifndef") && bytes_eq (directive_word next) (codes "define")
    && nat_lt 0 (length (name_behind line)) && bytes_eq (name_behind next) (name_behind line)

-- the place of a line that begins such a directive, and is no guard with the next line that says more
unfoldable pub conditional_in : Marked → List Marked → Option Conditional
conditional_in line later =
    if is_condition (directive_word line) && not (is_guard line (find says_more later))
    then Some (extent line) else None

-- their places in lines
unfoldable pub conditionals_in : List Marked → List Conditional
conditionals_in [] = []
conditionals_in (line ∷ later) = option_to_list (conditional_in line later) ++ conditionals_in later

-- their places in a text
abbrev pub conditionals : List ℕ → List Conditional
conditionals text = conditionals_in (marked_lines text)
