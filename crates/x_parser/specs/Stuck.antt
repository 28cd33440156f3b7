-- Where no spelling goes on.
use Rattle.std.specs.Prelude.{◌≡◌, ℕ, IsTrue, List, [], ◌∷◌, ◌++◌, length}
use Rattle.x_lex.specs.Places.{Lexeme}
use Rattle.x_lex.specs.declared.kind.Kind.{Kind}
use Rattle.x_lex.specs.declared.kind.Kind.TheVariants as kinds
use Rattle.x_trees.specs.Words.{word_of, words_of, is_significant}
use Rattle.x_trees.specs.Spell.{Begins}
use Rattle.x_parser.specs.declared.fault_code.FaultCode.{FaultCode}
use Rattle.x_parser.specs.declared.fault_code.FaultCode.TheVariants as codes

-- the code of a word with which no spelling goes on
abbrev pub code_of : Kind → FaultCode
code_of kinds.BadByte = codes.BadByte
code_of kinds.BadNumber = codes.BadNumber
code_of kinds.OpenComment = codes.OpenComment
code_of kinds.Directive = codes.Directive
code_of kind = codes.Syntax

-- the token is a word; the words before it begin a spelling, and with it they begin none
pub record IsStuck (item : List Lexeme) (at : ℕ) (code : FaultCode) : Type 0 where
  pub front : List Lexeme
  pub token : Lexeme
  pub rear : List Lexeme
  pub parts : item ≡ front ++ token ∷ rear
  pub place : at ≡ length front
  pub is_word : IsTrue (is_significant token.kind)
  pub before : Begins (words_of front)
  pub here : Begins (words_of front ++ word_of token ∷ []) → ⊥
  pub by_kind : code ≡ code_of token.kind
