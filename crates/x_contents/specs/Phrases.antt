-- Phrases that come again and again where symbols are written as JSON, and how texts of them are kept.
use Rattle.std.specs.Prelude.{◌≡◌, ℕ, ◌-◌, ◌==◌, Bool, false, List, [], ◌∷◌, ◌++◌, codes, length, nat_le}
use Rattle.std.specs.Prelude.{option_map}
use Rattle.std.specs.Prelude.{slice_get, unwrap_or}
use Rattle.std.specs.List.{flat_map}
use Rattle.std.specs.Option.{option_map_or}
use denote.Enum.Declared.{tag_of}
use Rattle.x_contents.specs.contracts.phrases.Phrase.{the_type}
use Rattle.x_contents.specs.declared.phrases.Phrase.{Phrase}
use Rattle.x_contents.specs.declared.phrases.Phrase.TheVariants.{Children, Kind, Name, Range, Selection}
use Rattle.x_contents.specs.declared.phrases.Phrase.TheVariants.{End, Line, Start, RangeEnd}

-- how a phrase is written
abbrev pub phrase_text : Phrase → List ℕ
phrase_text Children = codes "{\"children\":"
phrase_text Kind = codes ",\"kind\":"
phrase_text Name = codes ",\"name\":"
phrase_text Range = codes ",\"range\":"
phrase_text Selection = codes ",\"selectionRange\":"
phrase_text End = codes "{\"end\":{\"character\":"
phrase_text Line = codes ",\"line\":"
phrase_text Start = codes "},\"start\":{\"character\":"
phrase_text RangeEnd = codes "}}"

-- the phrases in their order, and the byte that one is kept as: its place
abbrev pub phrases : List Phrase
phrases = Children ∷ Kind ∷ Name ∷ Range ∷ Selection ∷ End ∷ Line ∷ Start ∷ RangeEnd ∷ []

abbrev pub byte_of : Phrase → ℕ
byte_of phrase = tag_of the_type phrase

-- what a byte is kept for: the phrase with that place, and else itself
abbrev pub spelt_byte : ℕ → List ℕ
spelt_byte byte = unwrap_or (option_map phrase_text (slice_get phrases byte)) (byte ∷ [])

abbrev pub spelt_out : List ℕ → List ℕ
spelt_out bytes = flat_map spelt_byte bytes

-- the second bytes are kept for what the first are, with more behind it
abbrev pub Spells : (before after more : List ℕ) → Type 0
Spells before after more = spelt_out after ≡ spelt_out before ++ more

-- the byte is no control character, so it is kept for itself, as is each byte of a text of JSON that is
-- written without blanks
abbrev pub is_own : ℕ → Bool
is_own byte = nat_le 32 byte

-- the last of these bytes is a comma
abbrev pub has_comma : List ℕ → Bool
has_comma bytes = option_map_or (λ byte. byte == 44) (slice_get bytes (length bytes - 1)) false
