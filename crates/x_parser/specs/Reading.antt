-- What the functions of the parser say.
use Rattle.std.specs.Prelude.{◌≡◌, ◌≢◌, ℕ, suc, ◌+◌, ◌-◌, ◌≤◌, ◌<◌, List, [], ◌∷◌, ◌++◌, Result, Ok, Err, map}
use Rattle.std.specs.Prelude.{length, if◌then◌else◌}
use Rattle.x_lex.specs.Places.{Lexeme, lexeme}
use Rattle.x_lex.specs.declared.tokens.token.Token.{Token}
use Rattle.x_trees.specs.Words.{Word, Fixed, Name, Number, Other, word_of, words_of, is_significant}
use Rattle.x_trees.specs.Tree as tree
use Rattle.x_trees.specs.Tree.{Definition}
use Rattle.x_trees.specs.Spell.{spell, spell_cases, spell_declaration, KeepsLimits, Begins}
use Rattle.x_parser.specs.Stuck.{code_of, IsStuck}
use Rattle.x_parser.specs.Symbols.{Symbol, ending_mark, go, step}
use Rattle.x_lex.specs.declared.mark.Mark.TheVariants as marks
use Rattle.x_parser.specs.declared.ending.Ending.{Ending}
use Rattle.x_parser.specs.declared.fault_code.FaultCode.{FaultCode}
use Rattle.x_parser.specs.declared.fault_code.FaultCode.TheVariants as codes
use Rattle.x_parser.specs.declared.words.Word as source
use Rattle.x_parser.specs.declared.words.Word.TheVariants as words
use Rattle.x_parser.specs.declared.parse_error.ParseError.{ParseError}
use Rattle.x_parser.specs.declared.parse_error.ParseError.TheVariants as errors

-- the word that the program tells a token for
abbrev pub view_word : source.Word → Word
view_word (words.Mark m) = Fixed m
view_word (words.Name t) = Name t.now
view_word (words.Number t) = Number t.now
view_word words.Other = Other

-- a word of an item, how many tokens there are from it on, and the code of a fault at it
pub record WordAhead : Type 0 where
  pub word : Word
  pub left : ℕ
  pub code : FaultCode

-- the place of a token before others
abbrev pub word_ahead : Lexeme → List Lexeme → WordAhead
word_ahead t ts = record { word = word_of t; left = suc (length ts); code = code_of t.kind }

-- the places of the words among the tokens
abbrev pub places_of : List Lexeme → List WordAhead
places_of [] = []
places_of (t ∷ ts) = if is_significant t.kind then word_ahead t ts ∷ places_of ts else places_of ts

-- the places of the words that are ahead
unfoldable pub ahead : List Token → List WordAhead
ahead tokens = places_of (map lexeme tokens)

abbrev pub first_left : List WordAhead → ℕ
first_left [] = 0
first_left (p ∷ ps) = p.left

abbrev pub first_code : List WordAhead → FaultCode
first_code [] = codes.Syntax
first_code (p ∷ ps) = p.code

-- how many tokens there are from the first word on
unfoldable pub left_in : List Token → ℕ
left_in tokens = first_left (ahead tokens)

-- the code of a fault at the first word
unfoldable pub code_in : List Token → FaultCode
code_in tokens = first_code (ahead tokens)

-- the words of the places
abbrev pub words_at : List WordAhead → List Word
words_at ps = map (λ p. p.word) ps

-- what is left after what the symbols take, or why reading stops
abbrev pub read : List Symbol → List WordAhead → Result (List WordAhead) ParseError
read [] ps = Ok ps
read (s ∷ ss) [] = Err errors.AtEnd
read (s ∷ ss) (p ∷ ps) =
    go (step s p.word) (λ symbols. read (symbols ++ ss) ps) (Err (errors.Stuck p.left p.code))

-- reading stops where the error says
abbrev pub IsAt : ParseError → Result (List WordAhead) ParseError → Type 0
IsAt errors.Memory r = Unit {0}
IsAt errors.AtEnd r = r ≡ Err errors.AtEnd
IsAt (errors.Stuck left code) r = r ≡ Err (errors.Stuck left code)

-- by these symbols reading stops where the error says, whatever symbols follow them
pub record Fails (from : List Symbol) (tokens : List Token) (e : ParseError) : Type 0 where
  pub by : (ss : List Symbol) → IsAt e (read (from ++ ss) (ahead tokens))

-- A part was read after the words `before`: with them it is spelled by `words`, reading by the symbols `from`
-- comes to the symbols `to` at the rest, whatever symbols follow, and the rest is shorter.
pub record ReadsPart (before : List Word) (from : List Symbol) (tokens : List Token) (words : List Word)
    (to : List Symbol)
    (rest : List Token) : Type 0 where
  pub found : before ++ words_at (ahead tokens) ≡ words ++ words_at (ahead rest)
  pub leads : (ss : List Symbol) → read (from ++ ss) (ahead tokens) ≡ read (to ++ ss) (ahead rest)
  pub shorter : length rest < length before + length tokens

-- a part that one symbol stands for
abbrev pub IsPart : Symbol → List Token → List Word → List Token → Type 0
IsPart symbol tokens words rest = ReadsPart [] (symbol ∷ []) tokens words [] rest

-- a word, and what stands after it
pub record IsSplit (tokens : List Token) (token : Token) (rest : List Token) : Type 0 where
  pub all : ahead tokens
      ≡ record { word = word_of (lexeme token); left = left_in tokens; code = code_in tokens } ∷ ahead rest
  pub left : left_in tokens ≡ length rest + 1
  pub code : code_in tokens ≡ code_of token.kind
  pub shorter : length rest < length tokens

-- the error stands at the first word
pub record IsBefore (tokens : List Token) (e : ParseError) : Type 0 where
  pub token : Token
  pub rest : List Token
  pub split : IsSplit tokens token rest
  pub is : e ≡ errors.Stuck (left_in tokens) (code_in tokens)

-- the first word, and what stands after it
pub record HasFirst (tokens : List Token) (word : Word) (rest : List Token) : Type 0 where
  pub found : ahead tokens ≡ record { word = word; left = left_in tokens; code = code_in tokens } ∷ ahead rest
  pub shorter : length rest < length tokens

-- no word is ahead, or another one
pub record LacksFirst (tokens : List Token) (word : Word) : Type 0 where
  pub by : (p : WordAhead) (ps : List WordAhead) → ahead tokens ≡ p ∷ ps → p.word ≢ word

-- a declaration and its ending
abbrev pub spell_ended : tree.Declaration → Ending → List Word
spell_ended d ending = spell_declaration d ++ Fixed (ending_mark ending) ∷ []

-- an arm of a union
abbrev pub spell_arm : List tree.Value → tree.Declaration → List Word
spell_arm cases d = spell_cases cases ++ (spell_declaration d ++ Fixed marks.Semicolon ∷ [])

-- the item spells no definition, and the error says where it is stuck
abbrev pub IsRefused : List Lexeme → ParseError → Type 0
IsRefused item errors.Memory = Unit {0}
IsRefused item errors.AtEnd =
    Begins (words_of item) × ((d : Definition) → KeepsLimits d → spell d ≢ words_of item)
IsRefused item (errors.Stuck left code) = (left ≤ length item) × IsStuck item (length item - left) code
