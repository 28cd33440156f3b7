use Rattle.std.proofs.Common.{[], ◌∷◌}
use Rattle.x_lex.specs.declared.mark.Mark.TheVariants as marks
use Rattle.x_parser.specs.Symbols.{AnyValue, Token}
use Rattle.x_parser.proofs.ReadLemmas.{exit, fails_alike, fails_more, fails_then, read_alike, read_more}
use Rattle.x_parser.proofs.ReadLemmas.{read_then}
use Rattle.x_parser.proofs.LoopLemmas.{after_less}
use Rattle.x_parser.proofs.declarator.greatest_length.Goals as goal

pub returns-in_err-size-clause-stuck : goal.returns-in_err-size-clause-stuck
returns-in_err-size-clause-stuck c =
    let same = after_less c.in_default.ensures.none in
    exit _ _ c.from_residual.ensures.1
    (fails_alike same (fails_more (AnyValue ∷ []) (Token marks.Greater ∷ []) c.in_err-size.ensures.stuck))

pub returns-in_err-rest-clause-stuck : goal.returns-in_err-rest-clause-stuck
returns-in_err-rest-clause-stuck c =
    let same = after_less c.in_default.ensures.none in
    let start = read_alike same
    (read_more (AnyValue ∷ []) (Token marks.Greater ∷ []) c.in_ok-size.ensures.read) in
    exit _ _ c.from_residual-in_err-rest.ensures.1
    (fails_then (Token marks.Greater ∷ []) [] start c.in_err-rest.ensures.stuck)

pub returns-clause-read : goal.returns-clause-read
returns-clause-read c =
    let same = after_less c.in_default.ensures.none in
    let start = read_alike same
    (read_more (AnyValue ∷ []) (Token marks.Greater ∷ []) c.in_ok-size.ensures.read) in
    read_then (Token marks.Greater ∷ []) [] start c.in_ok-rest.ensures.read
