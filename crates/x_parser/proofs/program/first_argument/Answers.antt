use Rattle.x_parser.proofs.ReadLemmas.{exit, fails_alike, read_alike}
use Rattle.x_parser.proofs.ProgramLemmas.{no_void}
use Rattle.x_parser.proofs.program.first_argument.Goals as goal

pub returns-in_err-argument-clause-stuck : goal.returns-in_err-argument-clause-stuck
returns-in_err-argument-clause-stuck c =
    let same = no_void c.in_default.ensures.none in
    exit _ _ c.from_residual.ensures.1 (fails_alike same c.in_err-argument.ensures.stuck)

pub returns-clause-read : goal.returns-clause-read
returns-clause-read c =
    let same = no_void c.in_default.ensures.none in
    read_alike same c.in_ok-argument.ensures.read
