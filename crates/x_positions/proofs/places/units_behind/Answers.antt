use Rattle.std.proofs.Common.{◌≤◌, ◌+◌, ◌∙◌, ap, arith, length, take, slice_range}
use Rattle.std.proofs.lemmas.List.{take_all}
use Rattle.std.specs.Prelude.{sum_by}
use Rattle.x_positions.specs.Encodings.{unit}
use Rattle.x_positions.specs.Positions.{units_before}
use Rattle.x_positions.proofs.PassedLineLemmas.{units_between}
use Rattle.x_positions.proofs.places.units_behind.Goals as goal

pub returns-clause-units : goal.returns-clause-units
returns-clause-units c =
    let e = c.args.encoding in
    let line = c.args.line.now in
    let passed = slice_range line c.args.from c.args.to in
    let all : length passed ≤ c.loop-byte.byte-index = omega arith in
    c.loop-byte.invariant.units
    ∙ ap (λ n. n + sum_by (unit e) (take c.loop-byte.byte-index passed)) c.requires.units
    ∙ ap (λ l. units_before e line c.args.from + sum_by (unit e) l)
    (take_all c.loop-byte.byte-index passed all)
    ∙ units_between e line c.args.from c.args.to c.requires.from
