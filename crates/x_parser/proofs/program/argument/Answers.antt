use Rattle.x_parser.specs.Symbols.{InArguments}
use Rattle.x_parser.proofs.ReadLemmas.{exit, fails_alike, read_alike}
use Rattle.x_parser.proofs.ProgramLemmas.{no_string}
use Rattle.x_parser.proofs.program.argument.Goals as goal

pub returns-in_err-data-clause-stuck : goal.returns-in_err-data-clause-stuck
returns-in_err-data-clause-stuck c =
    let same = no_string c.in_default.ensures.none in
    exit _ _ c.from_residual.ensures.1 (fails_alike same (c.in_err-data.ensures.stuck InArguments))

pub returns-clause-read : goal.returns-clause-read
returns-clause-read c =
    let same = no_string c.in_default.ensures.none in
    read_alike same (c.in_ok-data.ensures.read InArguments)
