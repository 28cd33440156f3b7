use Rattle.std.proofs.Common.{subst}
use Rattle.memchr.specs.Find.{IsFirstByte, is_byte}
use Rattle.x_directives.proofs.LineLemmas.{line_found, line_last}
use Rattle.x_directives.proofs.lines.split_line.Goals as goal

pub returns-in-Some-clause-lines : goal.returns-in-Some-clause-lines
returns-in-Some-clause-lines c =
    line_found c.args.text.now c.split_at.result.0.now c.split_at.result.1.now c.in-Some.at
    (subst (IsFirstByte (is_byte 10) c.args.text.now) c.in-Some.is c.memchr.ensures)
    c.split_at.ensures.front c.split_at.ensures.back

pub returns-in-None-clause-lines : goal.returns-in-None-clause-lines
returns-in-None-clause-lines c =
    let cut = c.split_at-in-None in
    line_last c.args.text.now cut.result.0.now cut.result.1.now c.memchr.result c.requires c.memchr.ensures
    c.in-None.is cut.ensures.front cut.ensures.back
