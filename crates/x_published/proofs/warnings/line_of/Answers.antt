use Rattle.std.proofs.Common.{◌+◌, ap, arith}
use Rattle.x_positions.specs.declared.positions.Position.{Position}
use Rattle.x_published.proofs.WarningLemmas.{lines_few}
use Rattle.x_published.proofs.warnings.line_of.Goals as goal

pub overflow_add-result : goal.overflow_add-result
overflow_add-result c =
    let line = ap (λ (p : Position). p.line) c.position.ensures in
    let few = lines_few c.args.shown.now c.args.start in
    omega (arith, line, few, c.requires.small)

pub returns : goal.returns
returns c = ap (λ (p : Position). p.line + 1) c.position.ensures
