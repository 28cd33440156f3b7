-- What the tokens of an item parse to.
use Rattle.std.specs.Prelude.{◌≡◌, ◌≢◌, ℕ, IsTrue, List, [], ◌∷◌, ◌++◌, ◌⊎◌, length}
use Rattle.x_lex.specs.Places.{Lexeme}
use Rattle.x_trees.specs.Words.{words_of, is_significant}
use Rattle.x_trees.specs.Tree.{Definition}
use Rattle.x_trees.specs.Spell.{spell, KeepsLimits, Begins}
use Rattle.x_trees.specs.View.{view_definition}
use Rattle.x_parser.specs.Stuck.{IsStuck}
use Rattle.x_item.specs.declared.item.Parsed.{Parsed}
use Rattle.x_item.specs.declared.item.Parsed.TheVariants as parsed
use Rattle.x_parser.specs.declared.fault_code.FaultCode.{FaultCode}
use Rattle.x_parser.specs.declared.fault_code.FaultCode.TheVariants as codes

-- a definition, or the fault at a token of the item, counted from 0
pub data Parse : Type 0 where
  Nothing : Parse
  Def : (definition : Definition) → Parse
  Fault : (token : ℕ) (code : FaultCode) → Parse

-- the token is a word, and there is none behind it
pub record IsLastWord (item : List Lexeme) (at : ℕ) : Type 0 where
  pub front : List Lexeme
  pub token : Lexeme
  pub rear : List Lexeme
  pub parts : item ≡ front ++ token ∷ rear
  pub place : at ≡ length front
  pub is_word : IsTrue (is_significant token.kind)
  pub behind : words_of rear ≡ []

-- all words begin a spelling and are none, and the token is the last of them
pub record IsUnfinished (item : List Lexeme) (at : ℕ) (code : FaultCode) : Type 0 where
  pub last : IsLastWord item at
  pub begins : Begins (words_of item)
  pub no_whole : (d : Definition) → KeepsLimits d → spell d ≢ words_of item
  pub unfinished : code ≡ codes.Unfinished

-- what an item parses to
abbrev pub IsParse : List Lexeme → Parse → Type 0
IsParse item Nothing = words_of item ≡ []
IsParse item (Def d) = KeepsLimits d × (spell d ≡ words_of item)
IsParse item (Fault at code) = IsStuck item at code ⊎ IsUnfinished item at code

-- what the program says that an item is
abbrev pub view_parsed : Parsed → Parse
view_parsed parsed.Nothing = Nothing
view_parsed (parsed.Def d) = Def (view_definition d)
view_parsed (parsed.Fault token code) = Fault token code
