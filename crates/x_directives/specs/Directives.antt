-- The lines of a text, and what they are of the directives of the C preprocessor.
use Rattle.std.specs.Prelude.{ℕ, ◌+◌, ◌-◌, Bool, true, false, ◌||◌, ◌&&◌, ◌==◌, nat_lt, not, cond}
use Rattle.std.specs.Prelude.{if◌then◌else◌, List, [], ◌∷◌, length, drop, slice_index}
use Rattle.std.specs.List.{prefix_len, onto_first, take_while}
use Rattle.x_lex.specs.Bytes.{is_blank, is_marker, is_word_byte}
use Rattle.x_directives.specs.declared.lines.Part.{Part}
use Rattle.x_directives.specs.declared.lines.Part.TheVariants.{Outside, First, Later}
use Rattle.x_directives.specs.Comments.{commented_behind}

-- the lines of a text, each with the line feed that ends it, which the last may lack
unfoldable pub lines : List ℕ → List (List ℕ)
lines [] = []
lines (b ∷ text) = cond (b == 10) ((b ∷ []) ∷ lines text) (onto_first b (lines text))

-- what stands behind the spaces and tabs at the front
unfoldable pub unblanked : List ℕ → List ℕ
unblanked bytes = drop (prefix_len is_blank bytes) bytes

-- the first byte that is no space and no tab is `#`, and the line is no marker, which begins with its `#`
unfoldable pub is_directive : List ℕ → Bool
is_directive line =
    slice_index (unblanked line) 0 == 35 && not (slice_index line 0 == 35 && is_marker line)

-- how many bytes end a line: a line feed and a carriage return before it, a line feed, or none
unfoldable pub end_length : List ℕ → ℕ
end_length line =
    cond (slice_index line (length line - 1) == 10) (cond (slice_index line (length line - 2) == 13) 2 1) 0

-- the last byte before the line's end is a backslash
unfoldable pub is_open : List ℕ → Bool
is_open line =
    let end = length line - end_length line in
    nat_lt 0 end && slice_index line (end - 1) == 92

-- what a line is of a directive; `within` says that one of the line before goes on in it, and `commented`
-- that a comment does
unfoldable pub part_of : (within commented : Bool) → List ℕ → Part
part_of within commented line =
    if within then Later else if is_directive line && not commented then First else Outside

-- the line is of a directive
abbrev pub is_inside : Part → Bool
is_inside Outside = false
is_inside First = true
is_inside Later = true

-- a directive begins with the line
abbrev pub is_first : Part → Bool
is_first Outside = false
is_first First = true
is_first Later = false

-- what stands behind the `#` of a directive, and blanks
unfoldable pub behind_hash : List ℕ → List ℕ
behind_hash line = unblanked (drop 1 (unblanked line))

-- the language passes over the line as a whole, which begins with `%` or is a marker
unfoldable pub is_passed : (commented : Bool) → Part → List ℕ → Bool
is_passed commented part line =
    not commented && not (is_inside part) && (slice_index line 0 == 37 || slice_index line 0 == 35)

-- whether a comment goes on behind the line
unfoldable pub remark_goes_on : (commented : Bool) → Part → List ℕ → Bool
remark_goes_on commented part line =
    if is_passed commented part line then false else commented_behind commented line

-- a line: where it starts, its bytes, what it is of a directive, and whether a comment goes on at its start
pub record Marked : Type 0 where
  pub start : ℕ
  pub bytes : List ℕ
  pub part : Part
  pub commented : Bool

-- these lines from the place `start` on; a directive goes on behind each of its lines that is open
unfoldable pub marked : (within commented : Bool) → ℕ → List (List ℕ) → List Marked
marked within commented start [] = []
marked within commented start (line ∷ later) =
    let part = part_of within commented line in
    record { start = start; bytes = line; part = part; commented = commented }
    ∷ marked (is_inside part && is_open line) (remark_goes_on commented part line) (start + length line) later

-- the lines of a text, with what they are of directives
abbrev pub marked_lines : List ℕ → List Marked
marked_lines text = marked false false 0 (lines text)

-- the word behind the `#` of the directive that begins with the line
unfoldable pub directive_word : Marked → List ℕ
directive_word line =
    if is_first line.part then take_while is_word_byte (behind_hash line.bytes) else []
