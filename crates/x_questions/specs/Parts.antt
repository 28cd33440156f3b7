-- What is told of a part of a definition.
use Rattle.std.specs.Prelude.{ℕ, ◌-◌, Bool, true, false, List, [], Option, None, Some, codes, length}
use Rattle.std.specs.Prelude.{slice_get}
use Rattle.x_lex.specs.Places.{Lexeme}
use Rattle.x_lookups.specs.declared.parts.PartKind.{PartKind}
use Rattle.x_lookups.specs.declared.parts.PartKind.TheVariants.{Constant, Enum, Enumerator}
use Rattle.x_lookups.specs.declared.parts.PartKind.TheVariants.{Struct, Union, Typedef, Field}
use Rattle.x_lookups.specs.declared.parts.PartKind.TheVariants.{Program, Version, Procedure}

-- what a part is called
abbrev pub kind_text : PartKind → List ℕ
kind_text Constant = codes "constant"
kind_text Enum = codes "enum"
kind_text Enumerator = codes "enumerator"
kind_text Struct = codes "struct"
kind_text Union = codes "union"
kind_text Typedef = codes "typedef"
kind_text Field = codes "field"
kind_text Program = codes "program"
kind_text Version = codes "version"
kind_text Procedure = codes "procedure"

-- whether it has a number at its end
abbrev pub has_number : PartKind → Bool
has_number Program = true
has_number Version = true
has_number Procedure = true
has_number kind = false

-- where the first of some tokens starts and the last one ends
abbrev pub span_with : Option Lexeme → Option Lexeme → Option (ℕ × ℕ)
span_with (Some first) (Some last) = Some (first.start, last.end)
span_with (Some first) None = None
span_with None last = None

abbrev pub span_of : List Lexeme → Option (ℕ × ℕ)
span_of tokens = span_with (slice_get tokens 0) (slice_get tokens (length tokens - 1))

-- the bytes of a token, if there is one
abbrev pub text_of : Option Lexeme → List ℕ
text_of None = []
text_of (Some token) = token.text
