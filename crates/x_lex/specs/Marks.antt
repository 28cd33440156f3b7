-- The marks: the words with one spelling each.
use Rattle.std.specs.Prelude.{ℕ, ◌==◌, List, [], ◌∷◌, Option, Some, None, option_map, map, codes, slice_index}
use Rattle.std.specs.Prelude.{slice_index_or, if◌then◌else◌}
use Rattle.std.specs.List.{find}
use Rattle.std.specs.Str.{bytes_eq}
use denote.Enum.Declared.{tag_of}
use Rattle.x_lex.specs.contracts.mark.Mark.{the_type}
use Rattle.x_lex.specs.declared.mark.Mark.{Mark}
use Rattle.x_lex.specs.declared.mark.Mark.TheVariants as marks

-- How each mark is written, in the order of the marks: the keywords of RFC 4506, section 6.4, with `program`
-- and `version` of RFC 5531, section 12.3, and `long`, which is this project's; then the punctuation of the
-- grammar (RFC 4506, section 6.3, and RFC 5531, section 12.2).
abbrev pub spellings : List (List ℕ × Mark)
spellings =
    (codes "bool", marks.Bool)
    ∷ (codes "case", marks.Case)
    ∷ (codes "const", marks.Const)
    ∷ (codes "default", marks.Default)
    ∷ (codes "double", marks.Double)
    ∷ (codes "enum", marks.Enum)
    ∷ (codes "float", marks.Float)
    ∷ (codes "hyper", marks.Hyper)
    ∷ (codes "int", marks.Int)
    ∷ (codes "long", marks.Long)
    ∷ (codes "opaque", marks.Opaque)
    ∷ (codes "program", marks.Program)
    ∷ (codes "quadruple", marks.Quadruple)
    ∷ (codes "string", marks.String)
    ∷ (codes "struct", marks.Struct)
    ∷ (codes "switch", marks.Switch)
    ∷ (codes "typedef", marks.Typedef)
    ∷ (codes "union", marks.Union)
    ∷ (codes "unsigned", marks.Unsigned)
    ∷ (codes "version", marks.Version)
    ∷ (codes "void", marks.Void)
    ∷ (codes "{", marks.OpenBrace)
    ∷ (codes "}", marks.CloseBrace)
    ∷ (codes "[", marks.OpenBracket)
    ∷ (codes "]", marks.CloseBracket)
    ∷ (codes "(", marks.OpenParenthesis)
    ∷ (codes ")", marks.CloseParenthesis)
    ∷ (codes "<", marks.Less)
    ∷ (codes ">", marks.Greater)
    ∷ (codes ",", marks.Comma)
    ∷ (codes ";", marks.Semicolon)
    ∷ (codes ":", marks.Colon)
    ∷ (codes "=", marks.Equals)
    ∷ (codes "*", marks.Star)
    ∷ []

-- the mark that is written so, if one is
unfoldable pub mark_of : List ℕ → Option Mark
mark_of word = option_map (λ entry. entry.1) (find (λ entry. bytes_eq entry.0 word) spellings)

-- the place of a mark in the table, which has the order of the marks
abbrev pub place_of : Mark → ℕ
place_of mark = tag_of the_type mark

-- how the mark is written
unfoldable pub text_of : Mark → List ℕ
text_of mark = slice_index_or (map (λ entry. entry.0) spellings) (place_of mark) []

-- What follows is for the search alone, and no public clause rests on it.

-- the mark that is this byte alone
unfoldable pub punctuation : ℕ → Option Mark
punctuation b =
    if b == 123 then Some marks.OpenBrace else (
    if b == 125 then Some marks.CloseBrace else (
    if b == 91 then Some marks.OpenBracket else (
    if b == 93 then Some marks.CloseBracket else (
    if b == 40 then Some marks.OpenParenthesis else (
    if b == 41 then Some marks.CloseParenthesis else (
    if b == 60 then Some marks.Less else (
    if b == 62 then Some marks.Greater else (
    if b == 44 then Some marks.Comma else (
    if b == 59 then Some marks.Semicolon else (
    if b == 58 then Some marks.Colon else (
    if b == 61 then Some marks.Equals else (
    if b == 42 then Some marks.Star else (
    None)))))))))))))

-- the one keyword that a word with these first bytes can be
unfoldable pub keyword : List ℕ → Option Mark
keyword [] = None
keyword (b ∷ bs) =
    if b == 98 then Some marks.Bool else (
    if b == 99 then (if slice_index bs 0 == 97 then Some marks.Case else Some marks.Const) else (
    if b == 100 then (if slice_index bs 0 == 101 then Some marks.Default else Some marks.Double) else (
    if b == 101 then Some marks.Enum else (
    if b == 102 then Some marks.Float else (
    if b == 104 then Some marks.Hyper else (
    if b == 105 then Some marks.Int else (
    if b == 108 then Some marks.Long else (
    if b == 111 then Some marks.Opaque else (
    if b == 112 then Some marks.Program else (
    if b == 113 then Some marks.Quadruple else (
    if b == 115 then (if slice_index bs 0 == 119 then Some marks.Switch
    else (if slice_index bs 2 == 105 then Some marks.String else Some marks.Struct)) else (
    if b == 116 then Some marks.Typedef else (
    if b == 117 then (if slice_index bs 1 == 105 then Some marks.Union else Some marks.Unsigned) else (
    if b == 118 then (if slice_index bs 0 == 101 then Some marks.Version else Some marks.Void) else (
    None)))))))))))))))

-- the one mark that a word with these first bytes can be
abbrev pub candidate : List ℕ → Option Mark
candidate [] = None
candidate (b ∷ []) = punctuation b
candidate (b ∷ c ∷ bs) = keyword (b ∷ c ∷ bs)
