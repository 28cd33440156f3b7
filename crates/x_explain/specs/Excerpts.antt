-- The line of a text in which a token stands, and as much of it as is shown.
use Rattle.std.specs.Prelude.{ℕ, ◌+◌, ◌-◌, nat_le, nat_lt, Bool, true, false, ◌&&◌, ◌||◌, ◌==◌, not}
use Rattle.std.specs.Prelude.{List, [], ◌∷◌, length, take, drop, codes}
use Rattle.std.specs.Prelude.{if◌then◌else◌}
use Rattle.std.specs.List.{before_first}
use Rattle.std.specs.Str.{bytes_eq}
use Rattle.std.specs.Str.Lossy.{utf8_valid_len}
use Rattle.x_explain.specs.declared.excerpt.Excerpt as rust
use Rattle.x_explain.specs.Shown.{is_within}

-- without the carriage return at the end of a line
abbrev pub without_return : List ℕ → List ℕ
without_return line =
    if bytes_eq (drop (length line - 1) line) (codes "\r") then take (length line - 1) line else line

-- the line's bytes before a place, which has this column
abbrev pub line_front : (text : List ℕ) → (start column : ℕ) → List ℕ
line_front text start column = drop (length (take start text) - (column - 1)) (take start text)

-- the line's bytes from the place on, but no more than show that the line is long
abbrev pub line_rear : (text : List ℕ) → (start : ℕ) → List ℕ
line_rear text start = without_return (before_first (λ b. b == 10) (take 102 (drop start text)))

-- a control character beyond ASCII, U+0080 to U+009F, stands in some UTF-8
abbrev pub begins_control : List ℕ → Bool
begins_control [] = false
begins_control (b ∷ bs) = nat_le 128 b && nat_le b 159

abbrev pub has_control : List ℕ → Bool
has_control [] = false
has_control (b ∷ bs) = (b == 194 && begins_control bs) || has_control bs

-- some bytes are UTF-8, of which a terminal takes none for an order
abbrev pub is_utf8 : List ℕ → Bool
is_utf8 bs = utf8_valid_len bs == length bs && not (has_control bs)

-- what is shown of a line: the bytes before a word and those from it on, whether either lacks some, and
-- whether what is no ASCII is UTF-8
pub record Excerpt : Type 0 where
  pub front : List ℕ
  pub rear : List ℕ
  pub lacks_before : Bool
  pub lacks_after : Bool
  pub utf8 : Bool

-- without a byte at the front that is within a character
abbrev pub without_part : List ℕ → List ℕ
without_part [] = []
without_part (b ∷ bs) = if is_within b then bs else b ∷ bs

-- the last 40 bytes, but for a character that is cut there
abbrev pub cut_front : List ℕ → List ℕ
cut_front front = if nat_lt 40 (length front)
    then without_part (without_part (without_part (drop (length front - 40) front)))
    else front

-- the front of some bytes that is UTF-8, where they lack no more than a character that is cut
abbrev pub without_cut : (valid : ℕ) → List ℕ → List ℕ
without_cut valid bs = if nat_le 57 valid then take valid bs else bs

-- the first 60 bytes, but for a character that is cut there
abbrev pub cut_rear : List ℕ → List ℕ
cut_rear rear =
    if nat_lt 60 (length rear) then without_cut (utf8_valid_len (take 60 rear)) (take 60 rear) else rear

-- a line of over 100 bytes is shown from 40 bytes before the word to 60 bytes from it on
abbrev pub is_long : (front rear : List ℕ) → Bool
is_long front rear = nat_lt 100 (length front + length rear)

abbrev pub shown : (front rear : List ℕ) → (lacks_before lacks_after : Bool) → Excerpt
shown front rear lacks_before lacks_after = record {
  front = front;
  rear = rear;
  lacks_before = lacks_before;
  lacks_after = lacks_after;
  utf8 = is_utf8 front && is_utf8 rear;
}

abbrev pub cut : (long : Bool) → (front rear : List ℕ) → Excerpt
cut false front rear = shown front rear false false
cut true front rear =
    shown (cut_front front) (cut_rear rear) (nat_lt 40 (length front)) (nat_lt 60 (length rear))

abbrev pub excerpt_of : (front rear : List ℕ) → Excerpt
excerpt_of front rear = cut (is_long front rear) front rear

-- what is shown of the line in which a place has this column
abbrev pub excerpt : (text : List ℕ) → (start column : ℕ) → Excerpt
excerpt text start column = excerpt_of (line_front text start column) (line_rear text start)

-- what an excerpt of the program shows
abbrev pub view_excerpt : rust.Excerpt → Excerpt
view_excerpt e = record {
  front = e.front.now;
  rear = e.rear.now;
  lacks_before = e.lacks_before;
  lacks_after = e.lacks_after;
  utf8 = e.utf8;
}
