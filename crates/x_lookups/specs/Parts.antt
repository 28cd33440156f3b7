-- The parts of a definition that have a name: what they are, and how their words are read.
use Rattle.std.specs.Prelude.{ℕ, suc, ◌-◌, false, List, [], ◌∷◌, ◌++◌, length, take, slice_get}
use Rattle.std.specs.Prelude.{Option, None, Some, is_some, option_and_then, if◌then◌else◌}
use Rattle.x_lex.specs.Marks.{mark_of}
use Rattle.x_lex.specs.Places.{Lexeme}
use Rattle.x_lex.specs.declared.kind.Kind.{Kind}
use Rattle.x_lex.specs.declared.kind.Kind.TheVariants as kinds
use Rattle.x_lex.specs.declared.mark.Mark.{Mark}
use Rattle.x_lex.specs.declared.mark.Mark.TheVariants as marks
use Rattle.x_trees.specs.Words.{is_significant}
use Rattle.x_lookups.specs.declared.parts.Begun.{Begun}
use Rattle.x_lookups.specs.declared.parts.Body.{Body}
use Rattle.x_lookups.specs.declared.parts.Part.{Part}
use Rattle.x_lookups.specs.declared.parts.PartKind.{PartKind}
use Rattle.x_lookups.specs.declared.parts.PartKind.TheVariants.{Constant, Enum, Enumerator}
use Rattle.x_lookups.specs.declared.parts.PartKind.TheVariants.{Struct, Union, Typedef, Field}
use Rattle.x_lookups.specs.declared.parts.PartKind.TheVariants.{Program, Version, Procedure}

-- what the definition is that begins with a keyword
abbrev pub defined_by : Mark → Option PartKind
defined_by marks.Const = Some Constant
defined_by marks.Enum = Some Enum
defined_by marks.Program = Some Program
defined_by marks.Struct = Some Struct
defined_by marks.Typedef = Some Typedef
defined_by marks.Union = Some Union
defined_by mark = None

-- what stands in the body of a keyword
abbrev pub inside : Mark → Option PartKind
inside marks.Enum = Some Enumerator
inside marks.Struct = Some Field
inside marks.Union = Some Field
inside marks.Program = Some Version
inside marks.Version = Some Procedure
inside mark = None

-- ---- a part while its words are read, each told by its index

abbrev pub nothing : Begun
nothing = record { first = None; name = None; settled = false; inside = None }

abbrev pub first_or : Option ℕ → ℕ → Option ℕ
first_or None index = Some index
first_or (Some first) index = Some first

-- it has a word
abbrev pub begun : Begun → ℕ → Begun
begun b index = record b { first = first_or b.first index }

-- no later word is its name, if it has one
abbrev pub settled : Begun → Begun
settled b = record b { settled = is_some b.name }

-- the last name so far that can be its own: that of a type may stand before it
abbrev pub with_name : Begun → ℕ → Begun
with_name b index = record (begun b index) { name = if b.settled then b.name else Some index }

-- What a mark does. Behind a name stand its size, its value, or the discriminant of a union. The value of a
-- case stands before a colon.
abbrev pub marked : Begun → Mark → Begun
marked b marks.OpenBracket = settled b
marked b marks.Less = settled b
marked b marks.Equals = settled b
marked b marks.Switch = settled b
marked b marks.Colon = record b { name = None; settled = false }
marked b mark = b

abbrev pub opening : Begun → Mark → Begun
opening b mark = if is_some (inside mark) then record b { inside = Some mark } else b

abbrev pub with_mark : Begun → ℕ → Mark → Begun
with_mark b index mark = opening (marked (begun b index) mark) mark

-- ---- bodies

abbrev pub body_of : Option PartKind → Option Mark → Body
body_of kind within = record { kind = kind; within = within; begun = nothing }

-- what the parts of a body in another one are; those of arguments are not told, nor what stands in them
abbrev pub kind_within : Option PartKind → Option Mark → Option PartKind
kind_within (Some kind) (Some mark) = inside mark
kind_within (Some kind) None = None
kind_within None within = None

-- the part that ends at a word, so deep, if it has a name and is told
abbrev pub part_with : Option Mark → ℕ → Option PartKind → Option ℕ → Option ℕ → (last : ℕ) → List Part
part_with within depth (Some kind) (Some first) (Some name) last =
    record { kind = kind; depth = depth; within = within; first = first; name = name; last = last } ∷ []
part_with within depth (Some kind) (Some first) None last = []
part_with within depth (Some kind) None name last = []
part_with within depth None first name last = []

abbrev pub part_of : Body → (depth last : ℕ) → List Part
part_of body depth last = part_with body.within depth body.kind body.begun.first body.begun.name last

-- ---- a definition while its words are read

-- the parts that have ended, the bodies around the one that is read, that body, and the word before, if it is
-- a mark, with its index
pub record Reading : Type 0 where
  pub parts : List Part
  pub outer : List Body
  pub body : Body
  pub before : Option Mark
  pub last : ℕ

abbrev pub at_first : (kind : Option PartKind) → Reading
at_first kind =
    record { parts = []; outer = []; body = body_of kind None; before = None; last = 0 }

-- a part ends at this word
abbrev pub ended : Reading → (last : ℕ) → Reading
ended r last = record r {
  parts = r.parts ++ part_of r.body (length r.outer) last;
  body = record r.body { begun = nothing };
}

-- the body of a keyword begins, or arguments
abbrev pub opened : Reading → Option Mark → Reading
opened r within = record r {
  outer = r.outer ++ record r.body { begun = settled r.body.begun } ∷ [];
  body = body_of (kind_within r.body.kind within) within;
}

-- a body ends
abbrev pub closed_to : Reading → Option Body → Reading
closed_to r None = r
closed_to r (Some body) = record r { outer = take (length r.outer - 1) r.outer; body = body }

abbrev pub closed : Reading → Reading
closed r = closed_to r (slice_get r.outer (length r.outer - 1))

-- behind `switch` stands the discriminant of a union
abbrev pub in_parentheses : (before : Option Mark) → Option Mark
in_parentheses (Some marks.Switch) = Some marks.Union
in_parentheses before = None

abbrev pub with_begun : Reading → Begun → Reading
with_begun r begun = record r { body = record r.body { begun = begun } }

abbrev pub read_mark : Reading → (index : ℕ) → Mark → Reading
read_mark r index marks.OpenBrace = opened r r.body.begun.inside
read_mark r index marks.OpenParenthesis = opened r (in_parentheses r.before)
read_mark r index marks.CloseBrace = closed (ended r r.last)
read_mark r index marks.CloseParenthesis = closed (ended r r.last)
read_mark r index marks.Comma = ended r r.last
read_mark r index marks.Semicolon = ended r index
read_mark r index mark = with_begun r (with_mark r.body.begun index mark)

abbrev pub read_other : Reading → (index : ℕ) → Kind → Reading
read_other r index kinds.Name = with_begun r (with_name r.body.begun index)
read_other r index kind = with_begun r (begun r.body.begun index)

abbrev pub read_as : Reading → (index : ℕ) → Kind → Option Mark → Reading
read_as r index kind None = read_other r index kind
read_as r index kind (Some mark) = read_mark r index mark

-- a word is read
abbrev pub read : Reading → (index : ℕ) → Lexeme → Reading
read r index token =
    record (read_as r index token.kind (mark_of token.text)) { before = mark_of token.text; last = index }

abbrev pub read_token : Reading → (index : ℕ) → Lexeme → Reading
read_token r index token = if is_significant token.kind then read r index token else r

-- the parts of a definition with these tokens, the first of which has this index
abbrev pub parts_from : Reading → (index : ℕ) → List Lexeme → List Part
parts_from r index [] = r.parts
parts_from r index (t ∷ ts) = parts_from (read_token r index t) (suc index) ts

-- what the definition with these tokens is
abbrev pub kind_of : List Lexeme → Option PartKind
kind_of [] = None
kind_of (t ∷ ts) =
    if is_significant t.kind then option_and_then defined_by (mark_of t.text) else kind_of ts

abbrev pub parts_of : List Lexeme → List Part
parts_of tokens = parts_from (at_first (kind_of tokens)) 0 tokens
