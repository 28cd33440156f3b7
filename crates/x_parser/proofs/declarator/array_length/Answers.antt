use Rattle.std.proofs.Common.{[], ◌∷◌}
use Rattle.x_lex.specs.declared.mark.Mark.TheVariants as marks
use Rattle.x_parser.specs.Symbols.{AnyValue, Token}
use Rattle.x_parser.proofs.ReadLemmas.{exit, fails_alike, fails_more, fails_then, read_alike, read_more}
use Rattle.x_parser.proofs.ReadLemmas.{read_then}
use Rattle.x_parser.proofs.LoopLemmas.{any_length}
use Rattle.x_parser.proofs.declarator.array_length.Goals as goal

pub returns-in_err-rest-clause-stuck : goal.returns-in_err-rest-clause-stuck
returns-in_err-rest-clause-stuck c =
    let same = any_length c.in_default.ensures.none in
    exit _ _ c.from_residual-in_err-rest.ensures.1
    (fails_alike same (fails_more (Token marks.OpenBracket ∷ []) (AnyValue ∷ Token marks.CloseBracket ∷ [])
    c.in_err-rest.ensures.stuck))

pub returns-in_err-size-2-clause-stuck : goal.returns-in_err-size-2-clause-stuck
returns-in_err-size-2-clause-stuck c =
    let same = any_length c.in_default.ensures.none in
    let start = read_alike same (read_more (Token marks.OpenBracket ∷ [])
    (AnyValue ∷ Token marks.CloseBracket ∷ []) c.in_ok-rest.ensures.read) in
    exit _ _ c.from_residual-in_err-size-2.ensures.1
    (fails_then (AnyValue ∷ []) (Token marks.CloseBracket ∷ []) start c.in_err-size-2.ensures.stuck)

pub returns-in_err-rest-2-clause-stuck : goal.returns-in_err-rest-2-clause-stuck
returns-in_err-rest-2-clause-stuck c =
    let same = any_length c.in_default.ensures.none in
    let start = read_alike same (read_more (Token marks.OpenBracket ∷ [])
    (AnyValue ∷ Token marks.CloseBracket ∷ []) c.in_ok-rest.ensures.read) in
    let sized = read_then (AnyValue ∷ []) (Token marks.CloseBracket ∷ []) start c.in_ok-size-2.ensures.read in
    exit _ _ c.from_residual-in_err-rest-2.ensures.1
    (fails_then (Token marks.CloseBracket ∷ []) [] sized c.in_err-rest-2.ensures.stuck)

pub returns-clause-read : goal.returns-clause-read
returns-clause-read c =
    let same = any_length c.in_default.ensures.none in
    let start = read_alike same (read_more (Token marks.OpenBracket ∷ [])
    (AnyValue ∷ Token marks.CloseBracket ∷ []) c.in_ok-rest.ensures.read) in
    let sized = read_then (AnyValue ∷ []) (Token marks.CloseBracket ∷ []) start c.in_ok-size-2.ensures.read in
    read_then (Token marks.CloseBracket ∷ []) [] sized c.in_ok-rest-2.ensures.read
