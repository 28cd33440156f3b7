-- The words of each kind, and the token at a place (RFC 4506, section 6.2, for comments, white space,
-- identifiers and constants). `rest` is the text from the place on, `start` says that the place is a line
-- start, and n is how many bytes a word has.
use Rattle.std.specs.Prelude.{◌≡◌, ℕ, ◌+◌, ◌<◌, ◌≤◌, ◌⊎◌, Bool, true, false, List, length, take, drop}
use Rattle.std.specs.Prelude.{slice_index}
use Rattle.memchr.specs.Find.{OccursAt}
use Rattle.x_lex.specs.declared.kind.Kind.{Kind}
use Rattle.x_lex.specs.declared.kind.Kind.TheVariants.{Space, Comment, OpenComment, Percent, Marker}
use Rattle.x_lex.specs.declared.kind.Kind.TheVariants.{Directive, Keyword, Name, Number, BadNumber, Punct}
use Rattle.x_lex.specs.declared.kind.Kind.TheVariants.{BadByte}
use Rattle.x_lex.specs.Bytes.{is_space, is_digit, is_letter, is_word_byte, is_punct, is_in_line, is_number}
use Rattle.x_lex.specs.Bytes.{is_marker, is_keyword, close}

-- the bytes from place i to before n pass the test
abbrev pub Each : (ℕ → Bool) → List ℕ → ℕ → ℕ → Type 0
Each p rest i n = (k : ℕ) → i ≤ k → k < n → p (slice_index rest k) ≡ true

-- the first n bytes are all before the next line feed or the end
pub record IsLine (rest : List ℕ) (n : ℕ) : Type 0 where
  pub within : Each is_in_line rest 0 n
  pub ends : n < length rest → slice_index rest n ≡ 10

-- a letter or `_`, then letters, digits or `_`
pub record IsIdentifier (rest : List ℕ) (n : ℕ) : Type 0 where
  pub first : is_letter (slice_index rest 0) ≡ true
  pub others : Each is_word_byte rest 1 n

-- a digit, then letters, digits or `_`
pub record IsDigits (rest : List ℕ) (n : ℕ) : Type 0 where
  pub first : is_digit (slice_index rest 0) ≡ true
  pub others : Each is_word_byte rest 1 n

-- `-` and a digit, then letters, digits or `_`
pub record IsSigned (rest : List ℕ) (n : ℕ) : Type 0 where
  pub minus : slice_index rest 0 ≡ 45
  pub long : 1 < n
  pub first : is_digit (slice_index rest 1) ≡ true
  pub others : Each is_word_byte rest 2 n

-- a digit, or `-` and a digit, then letters, digits or `_`
abbrev pub IsRun : List ℕ → ℕ → Type 0
IsRun rest n = IsDigits rest n ⊎ IsSigned rest n

-- the text goes on with `/*`, which opens a comment
pub record Opens (rest : List ℕ) : Type 0 where
  pub slash : slice_index rest 0 ≡ 47
  pub star : slice_index rest 1 ≡ 42

-- `/*` and what follows up to the first `*/` that begins at the third byte or later
pub record IsComment (rest : List ℕ) (n : ℕ) : Type 0 where
  pub opens : Opens rest
  pub place : ℕ
  pub length_is : n ≡ place + 4
  pub closes : OccursAt (drop 2 rest) close place
  pub first : (k : ℕ) → k < place → OccursAt (drop 2 rest) close k → ⊥

-- `/*` and the whole rest of the text, in which no `*/` begins at the third byte or later
pub record IsOpenComment (rest : List ℕ) (n : ℕ) : Type 0 where
  pub opens : Opens rest
  pub to_end : n ≡ length rest
  pub never : (k : ℕ) → OccursAt (drop 2 rest) close k → ⊥

-- the first n bytes of rest have the form of the kind; no word is of the kind BadByte here
abbrev pub HasForm : Kind → Bool → List ℕ → ℕ → Type 0
HasForm Space start rest n = Each is_space rest 0 n
HasForm Comment start rest n = IsComment rest n
HasForm OpenComment start rest n = IsOpenComment rest n
HasForm Percent start rest n = (start ≡ true) × (slice_index rest 0 ≡ 37) × IsLine rest n
HasForm Marker start rest n =
    (start ≡ true) × (slice_index rest 0 ≡ 35) × IsLine rest n × (is_marker (take n rest) ≡ true)
HasForm Directive start rest n =
    (start ≡ true) × (slice_index rest 0 ≡ 35) × IsLine rest n × (is_marker (take n rest) ≡ false)
HasForm Keyword start rest n = IsIdentifier rest n × (is_keyword (take n rest) ≡ true)
HasForm Name start rest n = IsIdentifier rest n × (is_keyword (take n rest) ≡ false)
HasForm Number start rest n = IsRun rest n × (is_number (take n rest) ≡ true)
HasForm BadNumber start rest n = IsRun rest n × (is_number (take n rest) ≡ false)
HasForm Punct start rest n = (n ≡ 1) × (is_punct (slice_index rest 0) ≡ true)
HasForm BadByte start rest n = ⊥

-- the first n bytes of rest are a word of a kind other than BadByte
pub record IsGood (k : Kind) (start : Bool) (rest : List ℕ) (n : ℕ) : Type 0 where
  pub some : 0 < n
  pub within : n ≤ length rest
  pub form : HasForm k start rest n

-- one byte that begins no other word
pub record IsBad (start : Bool) (rest : List ℕ) (n : ℕ) : Type 0 where
  pub one : n ≡ 1
  pub within : n ≤ length rest
  pub none : (k : Kind) (m : ℕ) → IsGood k start rest m → ⊥

-- the first n bytes of rest are a word of kind k
abbrev pub IsWord : Kind → Bool → List ℕ → ℕ → Type 0
IsWord k start rest n = IsGood k start rest n ⊎ ((k ≡ BadByte) × IsBad start rest n)

-- the token at the place: the word with the greatest end
pub record IsToken (k : Kind) (start : Bool) (rest : List ℕ) (n : ℕ) : Type 0 where
  pub word : IsWord k start rest n
  pub longest : (j : Kind) (m : ℕ) → IsWord j start rest m → m ≤ n
