-- What is refused that asks for all places of a name.
use Rattle.std.specs.Prelude.{◌≡◌, ◌⊎◌, ◌+◌, ℕ, List, IfSome, Result, Err}
use Rattle.x_lex.specs.declared.kind.Kind.{Kind}
use Rattle.x_lex.specs.Places.{Lexeme}
use Rattle.x_compile.specs.Compile.{Item, IsCompilation}
use Rattle.x_session.specs.Session.{Document}
use Rattle.x_positions.specs.Positions.{lines_before}
use Rattle.x_frames.specs.declared.answers.ErrorCode.{ErrorCode}
use Rattle.x_frames.specs.declared.answers.ErrorCode.TheVariants.{InternalError, NameUnparsed}
use Rattle.x_lookups.specs.Unparsed.{unparsed_use_at}

-- it is refused with the line of this token, or for want of memory
abbrev pub IsRefusedBy : {V : Type 0} → List ℕ → Result V ErrorCode → Lexeme → Type 0
IsRefusedBy shown result t =
    (result ≡ Err (NameUnparsed (lines_before shown t.start + 1))) ⊎ (result ≡ Err InternalError)

-- Where the name at a place stands in an item that does not parse, the question is refused by the first token
-- that it is there. The client has the text that is shown, and this session's is compiled.
abbrev pub RefusesUnparsed : {V : Type 0} → Document → List ℕ → ℕ → Result V ErrorCode → Type 0
RefusesUnparsed session shown at result =
    (tokens : List (Kind × ℕ)) (items : List Item) → IsCompilation session.known session.text tokens items
    → IfSome (unparsed_use_at items at) (IsRefusedBy shown result)
