use Rattle.std.proofs.Common.{map, sym, subst}
use Rattle.std.specs.List.{flat_map}
use Rattle.std.proofs.lemmas.List.{drop_all}
use Rattle.x_streams.specs.Writing.{Adds}
use Rattle.x_streams.proofs.Pens.{adds_none}
use Rattle.x_warnings.specs.WarningLines.{warning_line}
use Rattle.x_warnings.specs.Warnings.{view_warning}
use Rattle.x_warnings.proofs.WarningLemmas.{line_more}
use Rattle.x_warnings.proofs.lines.add_warnings.Goals as goal

pub loop-warning-init : goal.loop-warning-init
loop-warning-init g c q end h = h

pub loop-warning-preserved : goal.loop-warning-preserved
loop-warning-preserved g c q end h =
    c.loop-warning.invariant q end
    (line_more c.args.file.now c.args.warnings.now c.loop-warning.warning-index c.warning-item.result
    c.loop-warning.pen c.add_warning.new.pen q (g.S.Sink.state c.loop-warning.sink)
    (g.S.Sink.state c.add_warning.new.sink) end c.loop-warning-test.true c.warning-item.is
    c.add_warning.ensures h)

pub returns : goal.returns
returns g c =
    let line = warning_line c.args.file.now in
    let now = g.S.Sink.state c.loop-warning.sink in
    c.loop-warning.invariant c.loop-warning.pen now
    (subst (λ ws. Adds c.loop-warning.pen now c.loop-warning.pen now (flat_map line (map view_warning ws)))
    (sym (drop_all c.loop-warning.warning-index c.args.warnings.now c.loop-warning-test.false))
    (adds_none c.loop-warning.pen now))
