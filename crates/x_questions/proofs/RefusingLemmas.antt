-- What is refused that asks for all places of a name.
use Rattle.std.proofs.Common.{◌≡◌, ◌+◌, ℕ, List, Option, None, Some, Result, Ok, Err, inl, ap, sym, subst}
use Rattle.std.proofs.Common.{◌∙◌}
use Rattle.std.specs.Prelude.{IfOk, IfSome, option_map}
use Rattle.x_lex.specs.Places.{Lexeme, lexeme}
use Rattle.x_lex.specs.declared.tokens.token.Token.{Token}
use Rattle.x_lex.specs.declared.kind.Kind.{Kind}
use Rattle.x_compile.specs.Compile.{Item, IsCompilation}
use Rattle.x_compile.proofs.Compiled.{one_compilation}
use Rattle.x_session.specs.Session.{Compiles, Document}
use Rattle.x_positions.specs.Positions.{lines_before}
use Rattle.x_frames.specs.declared.answers.ErrorCode.{ErrorCode}
use Rattle.x_frames.specs.declared.answers.ErrorCode.TheVariants.{NameUnparsed}
use Rattle.x_lookups.specs.Unparsed.{unparsed_use_at}
use Rattle.x_questions.specs.Refusing.{IsRefusedBy, RefusesUnparsed}

-- what is found in one compilation of a text is found in each
in_each : (session : Document) (at : ℕ) (P : Option Lexeme → Type 0) (o : Option Lexeme)
    → Compiles session.known session.text (λ items. o ≡ unparsed_use_at items at) → P o
    → (tokens : List (Kind × ℕ)) (items : List Item) → IsCompilation session.known session.text tokens items
    → P (unparsed_use_at items at)
in_each session at P o found h tokens items compiles =
    let same = (one_compilation session.known session.text found.0 tokens found.1 items found.2 compiles).1 in
    subst P (found.3 ∙ ap (λ is. unparsed_use_at is at) same) h

-- by the token that was found
pub found_refuses : (V : Type 0) (session : Document) (shown : List ℕ) (at : ℕ) (o : Option Token)
    (t : Token) (code : ErrorCode) → o ≡ Some t → Compiles session.known session.text
    (λ items. option_map lexeme o ≡ unparsed_use_at items at)
    → code ≡ NameUnparsed (lines_before shown t.start + 1)
    → RefusesUnparsed {V = V} session shown at (Err code)
found_refuses V session shown at o t code is found told =
    in_each session at (λ u. IfSome u (IsRefusedBy {V = V} shown (Err code))) (option_map lexeme o) found
    (subst (λ x. IfSome (option_map lexeme x) (IsRefusedBy {V = V} shown (Err code))) (sym is)
    (inl (ap Err told)))

-- there is no such token
pub none_refuses : (V : Type 0) (session : Document) (shown : List ℕ) (at : ℕ) (o : Option Token)
    (result : Result V ErrorCode) → o ≡ None → Compiles session.known session.text
    (λ items. option_map lexeme o ≡ unparsed_use_at items at)
    → RefusesUnparsed session shown at result
none_refuses V session shown at o result is found = in_each session at
    (λ u. IfSome u (IsRefusedBy shown result)) (option_map lexeme o) found
    (subst (λ x. IfSome (option_map lexeme x) (IsRefusedBy shown result)) (sym is) tt)

pub none_refuses_if_ok : (V E : Type 0) (session : Document) (shown : List ℕ) (at : ℕ) (o : Option Token)
    (result : Result (Result V ErrorCode) E) → o ≡ None
    → Compiles session.known session.text (λ items. option_map lexeme o ≡ unparsed_use_at items at)
    → IfOk result (RefusesUnparsed session shown at)
none_refuses_if_ok V E session shown at o (Ok r) is found = none_refuses V session shown at o r is found
none_refuses_if_ok V E session shown at o (Err e) is found = tt
