-- The search for a mark: the first bytes of a word leave one candidate.
use Rattle.std.proofs.Common.{◌≡◌, ◌≢◌, ℕ, ◌<◌, Bool, true, false, cond, List, [], ◌∷◌, map, length, Option}
use Rattle.std.proofs.Common.{None, Some, refl, sym, ap, ◌∙◌, lit<}
use Rattle.std.specs.Prelude.{if◌then◌else◌, option_map, is_some, not, ◌||◌, ◌==◌, slice_index_or}
use Rattle.std.specs.List.{find}
use Rattle.std.specs.Str.{bytes_eq}
use Rattle.std.specs.Bool.{then_some}
use Rattle.std.proofs.lemmas.Bool.{false≢true, eqb-true}
use Rattle.std.proofs.lemmas.Option.{none-some, same_Some}
use Rattle.std.proofs.lemmas.Slice.Eq.{bytes_eq-Decides}
use Rattle.x_lex.specs.Bytes.{is_space, is_letter, is_digit, is_punct}
use Rattle.x_lex.specs.Marks.{spellings, mark_of, text_of, place_of, punctuation, keyword, candidate}
use Rattle.x_lex.specs.declared.mark.Mark.{Mark}
use Rattle.x_lex.specs.declared.mark.Mark.TheVariants as marks
use Rattle.x_lex.specs.declared.mark.TheConstants.{MARKS}

-- a single byte is neither white nor part of a word
abbrev pub is_apart : List ℕ → Bool
is_apart (b ∷ []) = not (is_space b || is_letter b || is_digit b || b == 45)
is_apart bytes = true

-- what the table says of a mark
pub record Stands (mark : Mark) : Type 0 where
  pub within : place_of mark < 34
  pub found : mark_of (text_of mark) ≡ Some mark
  pub apart : is_apart (text_of mark) ≡ true

pub stands : (mark : Mark) → Stands mark
unfolding mark_of text_of
stands marks.Bool = record { within = lit< tt; found = refl; apart = refl }
stands mark = record { within = lit< tt; found = refl; apart = refl }

-- the program's table is that of the definitions
same_table : map (λ entry. entry.0.now) MARKS ≡ map (λ entry. entry.0) spellings
same_table = refl

pub within : (mark : Mark) → place_of mark < length MARKS
within mark = (stands mark).within

pub text_in_table : (mark : Mark) → slice_index_or (map (λ entry. entry.0.now) MARKS) (place_of mark) []
    ≡ text_of mark
unfolding text_of
text_in_table mark = ap (λ texts. slice_index_or texts (place_of mark) []) same_table

-- the candidate of each text in the table is the mark that is written so
candidates : map (λ entry. candidate entry.0) spellings ≡ map (λ entry. Some entry.1) spellings
unfolding punctuation keyword
candidates = refl

abbrev head_or : {X : Type 0} → X → List X → X
head_or x [] = x
head_or x (y ∷ ys) = y

abbrev tail_of : {X : Type 0} → List X → List X
tail_of [] = []
tail_of (y ∷ ys) = ys

-- what a search found is the candidate, and it is written so
abbrev Finds : {E : Type 0} → (E → Mark) → List ℕ → Option E → Type 0
Finds mark word None = Unit {0}
Finds mark word (Some e) = candidate word ≡ Some (mark e)

at_head : {E : Type 0} (text : E → List ℕ) (mark : E → Mark) (word : List ℕ) (e : E) (rest : Option E)
    (b : Bool) → bytes_eq (text e) word ≡ b
    → candidate (text e) ≡ Some (mark e) → Finds mark word rest → Finds mark word (cond b (Some e) rest)
at_head text mark word e rest true same is rear =
    ap candidate (sym ((bytes_eq-Decides (text e) word).0 same)) ∙ is
at_head text mark word e rest false same is rear = rear

-- where each text of a table has its mark as candidate, a search finds the candidate or nothing
finds : {E : Type 0} (text : E → List ℕ) (mark : E → Mark) (word : List ℕ) (es : List E)
    → map (λ e. candidate (text e)) es ≡ map (λ e. Some (mark e)) es
    → Finds mark word (find (λ e. bytes_eq (text e) word) es)
finds text mark word [] all = tt
finds text mark word (e ∷ es) all =
    at_head text mark word e (find (λ e. bytes_eq (text e) word) es) (bytes_eq (text e) word) refl
    (ap (head_or None) all) (finds text mark word es (ap tail_of all))

-- the texts of the table are those of its marks
same_texts : map (λ entry. text_of entry.1) spellings ≡ map (λ entry. entry.0) spellings
unfolding text_of
same_texts = refl

-- what a search found is the mark of the word
abbrev IsText : {E : Type 0} → (E → Mark) → List ℕ → Option E → Type 0
IsText mark word None = Unit {0}
IsText mark word (Some e) = text_of (mark e) ≡ word

text_at_head : {E : Type 0} (text : E → List ℕ) (mark : E → Mark) (word : List ℕ) (e : E) (rest : Option E)
    (b : Bool) → bytes_eq (text e) word ≡ b
    → text_of (mark e) ≡ text e → IsText mark word rest → IsText mark word (cond b (Some e) rest)
text_at_head text mark word e rest true same is rear = is ∙ (bytes_eq-Decides (text e) word).0 same
text_at_head text mark word e rest false same is rear = rear

texts : {E : Type 0} (text : E → List ℕ) (mark : E → Mark) (word : List ℕ) (es : List E)
    → map (λ e. text_of (mark e)) es ≡ map text es
    → IsText mark word (find (λ e. bytes_eq (text e) word) es)
texts text mark word [] all = tt
texts text mark word (e ∷ es) all =
    text_at_head text mark word e (find (λ e. bytes_eq (text e) word) es) (bytes_eq (text e) word) refl
    (ap (head_or []) all) (texts text mark word es (ap tail_of all))

-- a mark that is written so is the candidate
found : (word : List ℕ) (mark : Mark) → mark_of word ≡ Some mark → candidate word ≡ Some mark
unfolding mark_of
found word mark is = by_entry (λ entry. entry.1) (find (λ entry. bytes_eq entry.0 word) spellings)
    (finds (λ entry. entry.0) (λ entry. entry.1) word spellings candidates) is
  where
    by_entry : {E : Type 0} (name : E → Mark) (o : Option E) → Finds name word o
        → option_map name o ≡ Some mark → candidate word ≡ Some mark
    by_entry name None h e = absurd (none-some mark e)
    by_entry name (Some x) h e = h ∙ e

-- and it is written so
written : (word : List ℕ) (mark : Mark) → mark_of word ≡ Some mark → text_of mark ≡ word
unfolding mark_of
written word mark is = by_entry (λ entry. entry.1) (find (λ entry. bytes_eq entry.0 word) spellings)
    (texts (λ entry. entry.0) (λ entry. entry.1) word spellings same_texts) is
  where
    by_entry : {E : Type 0} (name : E → Mark) (o : Option E) → IsText name word o
        → option_map name o ≡ Some mark → text_of mark ≡ word
    by_entry name None h e = absurd (none-some mark e)
    by_entry name (Some x) h e = ap text_of (sym (same_Some (name x) mark e)) ∙ h

-- where the first bytes leave no candidate, no mark is written so
pub none_left : (word : List ℕ) → candidate word ≡ None → None ≡ mark_of word
none_left word none = by_mark (mark_of word) (λ mark is. found word mark is)
  where
    by_mark : (o : Option Mark) → ((mark : Mark) → o ≡ Some mark → candidate word ≡ Some mark) → None ≡ o
    by_mark None h = refl
    by_mark (Some mark) h = absurd (none-some mark (sym none ∙ h mark refl))

-- else the candidate is the mark, if it is written so
pub one_left : (word : List ℕ) (mark : Mark) → candidate word ≡ Some mark
    → then_some (bytes_eq (text_of mark) word) mark ≡ mark_of word
one_left word mark is = by_test (bytes_eq (text_of mark) word) refl
  where
    by_mark : (o : Option Mark) → mark_of word ≡ o → bytes_eq (text_of mark) word ≡ false → None ≡ o
    by_mark None h differs = refl
    by_mark (Some other) h differs =
        absurd (false≢true (sym differs
        ∙ (bytes_eq-Decides (text_of mark) word).1
        (ap text_of (sym (same_Some other mark (sym (found word other h) ∙ is))) ∙ written word other h)))

    by_test : (b : Bool) → bytes_eq (text_of mark) word ≡ b → then_some b mark ≡ mark_of word
    by_test true same = sym (ap mark_of (sym ((bytes_eq-Decides (text_of mark) word).0 same))
        ∙ (stands mark).found)
    by_test false differs = by_mark (mark_of word) refl differs

-- a word of one byte is punctuation, all others are keywords
as_keyword : (word : List ℕ) → length word ≢ 1 → keyword word ≡ candidate word
unfolding keyword
as_keyword [] longer = refl
as_keyword (b ∷ []) longer = absurd (longer refl)
as_keyword (b ∷ c ∷ bs) longer = refl

pub no_word_left : (word : List ℕ) → length word ≢ 1 → keyword word ≡ None → None ≡ mark_of word
no_word_left word longer none = none_left word (sym (as_keyword word longer) ∙ none)

pub one_word_left : (word : List ℕ) (mark : Mark) → length word ≢ 1 → keyword word ≡ Some mark
    → then_some (bytes_eq (text_of mark) word) mark ≡ mark_of word
one_word_left word mark longer is = one_left word mark (sym (as_keyword word longer) ∙ is)

-- what a search may find is the byte alone
IsByte : ℕ → Option Mark → Type 0
IsByte b o = (mark : Mark) → o ≡ Some mark → text_of mark ≡ b ∷ []

is_byte_if : (b k : ℕ) (mark : Mark) (rest : Option Mark) (test : Bool) → (b == k) ≡ test
    → text_of mark ≡ k ∷ [] → IsByte b rest
    → IsByte b (if test then Some mark else rest)
unfolding IsByte
is_byte_if b k mark rest true is first others other same =
    ap text_of (sym (same_Some mark other same)) ∙ first ∙ ap (λ n. n ∷ []) (sym (eqb-true b k is))
is_byte_if b k mark rest false is first others other same = others other same

is_byte_at : (b k : ℕ) (mark : Mark) (rest : Option Mark) → text_of mark ≡ k ∷ [] → IsByte b rest
    → IsByte b (if b == k then Some mark else rest)
is_byte_at b k mark rest first others = is_byte_if b k mark rest (b == k) refl first others

is_byte_none : (b : ℕ) → IsByte b None
unfolding IsByte
is_byte_none b mark is = absurd (none-some mark is)

-- each mark of punctuation is its byte
is_byte : (b : ℕ) → IsByte b (punctuation b)
unfolding punctuation text_of
is_byte b =
    is_byte_at b 123 marks.OpenBrace _ refl (
    is_byte_at b 125 marks.CloseBrace _ refl (
    is_byte_at b 91 marks.OpenBracket _ refl (
    is_byte_at b 93 marks.CloseBracket _ refl (
    is_byte_at b 40 marks.OpenParenthesis _ refl (
    is_byte_at b 41 marks.CloseParenthesis _ refl (
    is_byte_at b 60 marks.Less _ refl (
    is_byte_at b 62 marks.Greater _ refl (
    is_byte_at b 44 marks.Comma _ refl (
    is_byte_at b 59 marks.Semicolon _ refl (
    is_byte_at b 58 marks.Colon _ refl (
    is_byte_at b 61 marks.Equals _ refl (
    is_byte_at b 42 marks.Star _ refl (
    is_byte_none b)))))))))))))

pub of_byte : (b : ℕ) → punctuation b ≡ mark_of (b ∷ [])
unfolding IsByte
of_byte b = by_mark (punctuation b) refl
  where
    by_mark : (o : Option Mark) → punctuation b ≡ o → o ≡ mark_of (b ∷ [])
    by_mark None is = none_left (b ∷ []) is
    by_mark (Some mark) is =
        ap (λ test. then_some test mark)
        (sym ((bytes_eq-Decides (text_of mark) (b ∷ [])).1 (is_byte b mark is))) ∙ one_left (b ∷ []) mark is

-- a byte of punctuation begins no other word, nor white space
pub punct_apart : (b : ℕ) → is_punct b ≡ true → is_apart (b ∷ []) ≡ true
punct_apart b is = by_mark (mark_of (b ∷ [])) refl is
  where
    by_mark : (o : Option Mark) → mark_of (b ∷ []) ≡ o → is_some o ≡ true → is_apart (b ∷ []) ≡ true
    by_mark None h e = absurd (false≢true e)
    by_mark (Some mark) h e = ap is_apart (sym (written (b ∷ []) mark h)) ∙ (stands mark).apart
