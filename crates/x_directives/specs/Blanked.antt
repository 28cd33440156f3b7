-- A text without its directives, where no other byte moves.
use Rattle.std.specs.Prelude.{ℕ, Bool, ◌||◌, ◌&&◌, ◌==◌, if◌then◌else◌, List, [], ◌∷◌, slice_index}
use Rattle.std.specs.List.{flat_map}
use Rattle.x_directives.specs.Directives.{Marked, is_inside, marked_lines}

-- what stays of a directive: tabs, the line's end, and the delimiters of comments; `before` and `after` stand
-- next to the byte
unfoldable pub stays : ℕ → ℕ → ℕ → Bool
stays before b after = b == 9 || b == 10 || (b == 13 && after == 10)
    || (b == 47 && (before == 42 || after == 42)) || (b == 42 && (before == 47 || after == 47))

-- a space in place of each byte that does not stay; `before` stands before the first
unfoldable pub blanked_bytes : ℕ → List ℕ → List ℕ
blanked_bytes before [] = []
blanked_bytes before (b ∷ bytes) =
    (if stays before b (slice_index bytes 0) then b else 32) ∷ blanked_bytes b bytes

-- a line, blanked if it is of a directive
unfoldable pub blanked_line : Marked → List ℕ
blanked_line line = if is_inside line.part then blanked_bytes 0 line.bytes else line.bytes

-- a text, with the lines of directives blanked
abbrev pub blanked : List ℕ → List ℕ
blanked text = flat_map blanked_line (marked_lines text)
