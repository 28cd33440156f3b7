-- What is expected at a place of a text, by the words before it.
use Rattle.std.specs.Prelude.{◌&&◌, ◌||◌, ℕ, ◌+◌, ◌-◌, ◌^◌, min, Bool, true, false, nat_le, nat_lt}
use Rattle.std.specs.Prelude.{List, [], ◌∷◌, ◌++◌, length, take, Option, None, Some, slice_get, if◌then◌else◌}
use Rattle.x_lex.specs.Marks.{mark_of}
use Rattle.x_lex.specs.Places.{Lexeme}
use Rattle.x_lex.specs.declared.kind.Kind.{Kind}
use Rattle.x_lex.specs.declared.kind.Kind.TheVariants as kinds
use Rattle.x_lex.specs.declared.mark.Mark.{Mark}
use Rattle.x_lex.specs.declared.mark.Mark.TheVariants as marks
use Rattle.x_trees.specs.Words.{is_significant}
use Rattle.x_trees.specs.declared.names.declared_name.NameKind.{NameKind}
use Rattle.x_trees.specs.declared.names.declared_name.NameKind.TheVariants as names
use Rattle.x_lookups.specs.declared.surroundings.Expected.{Expected}
use Rattle.x_lookups.specs.declared.surroundings.Expected.TheVariants.{Definition, «Type», EnumName}
use Rattle.x_lookups.specs.declared.surroundings.Expected.TheVariants.{StructName, UnionName, Unsigned}
use Rattle.x_lookups.specs.declared.surroundings.Expected.TheVariants.{Constant, Arm, Version, Nothing}
use Rattle.x_lookups.specs.declared.surroundings.Last.{Last}
use Rattle.x_lookups.specs.declared.surroundings.Last.TheVariants as last

-- the keywords that can stand where this is expected
abbrev pub keywords : Expected → List Mark
keywords Definition =
    marks.Const ∷ marks.Enum ∷ marks.Program ∷ marks.Struct ∷ marks.Typedef ∷ marks.Union ∷ []
keywords «Type» =
    marks.Bool ∷ marks.Double ∷ marks.Enum ∷ marks.Float ∷ marks.Hyper ∷ marks.Int ∷ marks.Long
    ∷ marks.Opaque ∷ marks.Quadruple ∷ marks.String ∷ marks.Struct ∷ marks.Union ∷ marks.Unsigned
    ∷ marks.Void ∷ []
keywords Unsigned = marks.Hyper ∷ marks.Int ∷ marks.Long ∷ []
keywords Arm = marks.Case ∷ marks.Default ∷ []
keywords Version = marks.Version ∷ []
keywords expected = []

-- whether a name can stand there
abbrev pub takes_names : Expected → Bool
takes_names Constant = true
takes_names «Type» = true
takes_names EnumName = true
takes_names StructName = true
takes_names UnionName = true
takes_names expected = false

-- whether a name can that is declared as this
abbrev pub takes : Expected → NameKind → Bool
takes Constant names.Constant = true
takes EnumName names.Enum = true
takes StructName names.Struct = true
takes UnionName names.Union = true
takes «Type» names.Enum = true
takes «Type» names.Struct = true
takes «Type» names.Union = true
takes «Type» names.Typedef = true
takes expected kind = false

-- a word is being typed at a place within it, or where it ends
abbrev pub is_typed_as : Kind → Bool
is_typed_as kinds.Keyword = true
is_typed_as kinds.Name = true
is_typed_as kinds.Number = true
is_typed_as kinds.BadNumber = true
is_typed_as kind = false

abbrev pub is_typed : Lexeme → ℕ → Bool
is_typed token at = is_typed_as token.kind && nat_le at token.end

-- a place stands within a token of which no part is a word; one that goes to the end of its line, or of the
-- text, holds its end too
abbrev pub is_within_as : Kind → (at end : ℕ) → Bool
is_within_as kinds.Comment at end = nat_lt at end
is_within_as kinds.OpenComment at end = nat_le at end
is_within_as kinds.Percent at end = nat_le at end
is_within_as kinds.Marker at end = nat_le at end
is_within_as kinds.Directive at end = nat_le at end
is_within_as kind at end = false

abbrev pub is_within : Lexeme → ℕ → Bool
is_within token at = is_within_as token.kind at token.end

-- ---- what stands around a place

-- the last word before it ends a body, or arguments
abbrev pub ends : Last → Bool
ends (last.Mark marks.CloseBrace) = true
ends (last.Mark marks.CloseParenthesis) = true
ends word = false

-- A word behind another. The number of a program, a version or a procedure is no constant's name, so its `=`
-- counts as none.
abbrev pub last_by : Option Mark → (before : Last) → Last
last_by None before = last.Other
last_by (Some marks.Equals) before = if ends before then last.Other else last.Mark marks.Equals
last_by (Some mark) before = last.Mark mark

-- the keyword of the body that is open and inmost
abbrev pub inmost : List Mark → Option Mark
inmost bodies = slice_get bodies (length bodies - 1)

-- what is expected at the start of a part of a body with this keyword, or of none
abbrev pub expected_in : Option Mark → Expected
expected_in None = Definition
expected_in (Some marks.Enum) = Nothing
expected_in (Some marks.Switch) = Arm
expected_in (Some marks.Program) = Version
expected_in (Some mark) = «Type»

-- what is expected behind a word, within so many parentheses in that body
abbrev pub expected_behind : Last → (parentheses : ℕ) → (body : Option Mark) → Expected
expected_behind last.Start parentheses body = Definition
expected_behind last.Other parentheses body = Nothing
expected_behind (last.Mark marks.OpenBracket) parentheses body = Constant
expected_behind (last.Mark marks.Less) parentheses body = Constant
expected_behind (last.Mark marks.Equals) parentheses body = Constant
expected_behind (last.Mark marks.Case) parentheses body = Constant
expected_behind (last.Mark marks.OpenParenthesis) parentheses body = «Type»
expected_behind (last.Mark marks.Typedef) parentheses body = «Type»
expected_behind (last.Mark marks.Colon) parentheses body = «Type»
expected_behind (last.Mark marks.Comma) parentheses body = if nat_lt 0 parentheses then «Type» else Nothing
expected_behind (last.Mark marks.Enum) parentheses body = EnumName
expected_behind (last.Mark marks.Struct) parentheses body = StructName
expected_behind (last.Mark marks.Union) parentheses body = UnionName
expected_behind (last.Mark marks.Unsigned) parentheses body = Unsigned
expected_behind (last.Mark marks.OpenBrace) parentheses body = expected_in body
expected_behind (last.Mark marks.Semicolon) parentheses body = expected_in body
expected_behind (last.Mark mark) parentheses body = Nothing

-- The keywords of the bodies that are open, from the outermost on, with `switch` for that of a union; the
-- last keyword that a body may stand behind; how many parentheses are open; and the last word.
pub record Around : Type 0 where
  pub bodies : List Mark
  pub head : Option Mark
  pub parentheses : ℕ
  pub last : Last

abbrev pub at_start : Around
at_start = record { bodies = []; head = None; parentheses = 0; last = last.Start }

-- the keyword of a body that opens behind a word
abbrev pub body_by : (before : Last) → (head : Option Mark) → Mark
body_by (last.Mark marks.CloseParenthesis) head = marks.Switch
body_by before None = marks.Struct
body_by before (Some head) = head

-- what a word does to what stands around
abbrev pub marked : Around → (before now : Last) → Around
marked a before (last.Mark marks.OpenParenthesis) =
    record a { parentheses = min (a.parentheses + 1) (2 ^ 64 - 1) }
marked a before (last.Mark marks.CloseParenthesis) = record a { parentheses = a.parentheses - 1 }
marked a before (last.Mark marks.OpenBrace) = record a { bodies = a.bodies ++ body_by before a.head ∷ [] }
marked a before (last.Mark marks.CloseBrace) = record a { bodies = take (length a.bodies - 1) a.bodies }
marked a before (last.Mark marks.Enum) = record a { head = Some marks.Enum }
marked a before (last.Mark marks.Struct) = record a { head = Some marks.Struct }
marked a before (last.Mark marks.Program) = record a { head = Some marks.Program }
marked a before (last.Mark marks.Version) = record a { head = Some marks.Version }
marked a before now = a

abbrev pub passed : Around → (word : List ℕ) → Around
passed a word = let now = last_by (mark_of word) a.last in marked (record a { last = now }) a.last now

abbrev pub passed_token : Around → Lexeme → Around
passed_token a token = if is_significant token.kind then passed a token.text else a

-- what is expected at a place, by the words that end before it; the word that is being typed there is none
abbrev pub expected_from : Around → (at : ℕ) → List Lexeme → Expected
expected_from a at [] = expected_behind a.last a.parentheses (inmost a.bodies)
expected_from a at (t ∷ ts) =
    if nat_le at t.start || is_typed t at then expected_behind a.last a.parentheses (inmost a.bodies)
    else if is_within t at then Nothing
    else expected_from (passed_token a t) at ts

abbrev pub expected_at : (at : ℕ) → List Lexeme → Expected
expected_at at tokens = expected_from at_start at tokens
