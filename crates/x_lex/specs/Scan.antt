-- The token at a place as a function, which the lexer computes: its class from the first two bytes, and then
-- how far it goes. That it is the token which the words define is a law (`token_by_scan`); nothing else but
-- private functions cites it.
use Rattle.std.specs.Prelude.{ℕ, suc, ◌+◌, ◌==◌, ◌&&◌, Bool, List, [], ◌∷◌, length, take, drop, slice_index}
use Rattle.std.specs.Prelude.{Option, Some, None, if◌then◌else◌}
use Rattle.std.specs.List.{prefix_len}
use Rattle.x_lex.specs.declared.kind.Kind.{Kind}
use Rattle.x_lex.specs.declared.kind.Kind.TheVariants.{Space, Comment, OpenComment, Percent, Marker}
use Rattle.x_lex.specs.declared.kind.Kind.TheVariants.{Directive, Keyword, Name, Number, BadNumber, Punct}
use Rattle.x_lex.specs.declared.kind.Kind.TheVariants.{BadByte}
use Rattle.x_lex.specs.Bytes.{is_space, is_digit, is_letter, is_word_byte, is_punct, is_in_line, is_number}
use Rattle.x_lex.specs.Bytes.{is_marker, is_keyword}

-- what the first two bytes of a place tell of the token there
pub data Class : Type 0 where
  blank : Class
  letters : Class
  digits : Class
  signed : Class
  mark : Class
  remark : Class
  percent : Class
  hash : Class
  other : Class

-- the class of the first test that passes
abbrev pub chosen : Bool → Bool → Bool → Bool → Bool → Bool → Bool → Bool → Class
chosen p q r s t u v w =
    if p then blank else
    (if q then letters else
    (if r then digits else
    (if s then signed else
    (if t then mark else (if u then remark else (if v then percent else (if w then hash else other)))))))

-- the class of a place with these two bytes, the second of them 0 where there is none
unfoldable pub class_of : Bool → ℕ → ℕ → Class
class_of start b c =
    chosen (is_space b) (is_letter b) (is_digit b) (b == 45 && is_digit c) (is_punct b) (b == 47 && c == 42)
    (start && b == 37) (start && b == 35)

-- one place later
abbrev pub later : Option ℕ → Option ℕ
later None = None
later (Some i) = Some (suc i)

-- the text of the byte and those behind it begins with `*/`
abbrev pub closes : ℕ → List ℕ → Bool
closes b bs = b == 42 && slice_index bs 0 == 47

-- the place of the first `*/`
unfoldable pub first_close : List ℕ → Option ℕ
first_close [] = None
first_close (b ∷ bs) = if closes b bs then Some 0 else later (first_close bs)

-- the comment whose end was searched for behind its first two bytes
abbrev pub comment_of : Option ℕ → List ℕ → Kind × ℕ
comment_of (Some i) rest = (Comment, i + 4)
comment_of None rest = (OpenComment, length rest)

-- how long a run behind `-` is, with the `-`
abbrev pub signed_len : List ℕ → ℕ
signed_len rest = 1 + prefix_len is_word_byte (drop 1 rest)

-- the kind of the first n bytes as a word of letters
abbrev pub word_kind : List ℕ → ℕ → Kind
word_kind rest n = if is_keyword (take n rest) then Keyword else Name

-- their kind as a run that begins as a number
abbrev pub number_kind : List ℕ → ℕ → Kind
number_kind rest n = if is_number (take n rest) then Number else BadNumber

-- their kind as a line that begins with `#`
abbrev pub hash_kind : List ℕ → ℕ → Kind
hash_kind rest n = if is_marker (take n rest) then Marker else Directive

-- the kind and length of the token of a place of the class
abbrev pub scan_as : Class → List ℕ → Kind × ℕ
scan_as blank rest = (Space, prefix_len is_space rest)
scan_as letters rest = (word_kind rest (prefix_len is_word_byte rest), prefix_len is_word_byte rest)
scan_as digits rest = (number_kind rest (prefix_len is_word_byte rest), prefix_len is_word_byte rest)
scan_as signed rest = (number_kind rest (signed_len rest), signed_len rest)
scan_as mark rest = (Punct, 1)
scan_as remark rest = comment_of (first_close (drop 2 rest)) rest
scan_as percent rest = (Percent, prefix_len is_in_line rest)
scan_as hash rest = (hash_kind rest (prefix_len is_in_line rest), prefix_len is_in_line rest)
scan_as other rest = (BadByte, 1)

-- the kind and length of the token of a place
unfoldable pub scan : Bool → List ℕ → Kind × ℕ
scan start rest = scan_as (class_of start (slice_index rest 0) (slice_index rest 1)) rest
