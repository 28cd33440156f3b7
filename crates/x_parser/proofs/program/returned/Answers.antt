use Rattle.x_parser.specs.Symbols.{InResult}
use Rattle.x_parser.proofs.ReadLemmas.{exit, fails_alike, read_alike, read_on}
use Rattle.x_parser.proofs.ProgramLemmas.{typed_result, after_result}
use Rattle.x_parser.proofs.program.returned.Goals as goal

pub returns-in_err-data-clause-stuck : goal.returns-in_err-data-clause-stuck
returns-in_err-data-clause-stuck c =
    let same = typed_result c.in_default.ensures.none c.in_default-strip_mark.ensures.none in
    exit _ _ c.from_residual.ensures.1 (fails_alike same (c.in_err-data.ensures.stuck InResult))

pub returns-clause-read : goal.returns-clause-read
returns-clause-read c =
    let same = typed_result c.in_default.ensures.none c.in_default-strip_mark.ensures.none in
    read_on (read_alike same (c.in_ok-data.ensures.read InResult)) (after_result c.in_ok-data.rest.now)
