use Rattle.std.proofs.Common.{drop, sym, subst}
use Rattle.std.specs.List.{flat_map}
use Rattle.std.proofs.lemmas.List.{drop_all}
use Rattle.x_streams.specs.Writing.{Adds}
use Rattle.x_streams.proofs.Pens.{adds_none}
use Rattle.x_explain.specs.Explained.{foreign_line}
use Rattle.x_session.specs.Foreign.{view_all}
use Rattle.x_explain.proofs.ForeignLemmas.{line_more}
use Rattle.x_explain.proofs.foreign.add_foreign_lines.Goals as goal

pub loop-name-init : goal.loop-name-init
loop-name-init g c q end h = h

pub loop-name-preserved : goal.loop-name-preserved
loop-name-preserved g c q end h =
    c.loop-name.invariant q end
    (line_more c.args.coloured c.args.file.now c.args.names.now c.loop-name.name-index _ c.loop-name.pen
    c.add_foreign_line.new.pen q (g.S.Sink.state c.loop-name.sink)
    (g.S.Sink.state c.add_foreign_line.new.sink)
    end c.loop-name-test.true c.add_foreign_line.ensures h)

pub returns : goal.returns
returns g c =
    let line = foreign_line c.args.coloured c.args.file.now in
    let now = g.S.Sink.state c.loop-name.sink in
    c.loop-name.invariant c.loop-name.pen now
    (subst (λ ns. Adds c.loop-name.pen now c.loop-name.pen now (flat_map line (view_all ns)))
    (sym (drop_all c.loop-name.name-index c.args.names.now c.loop-name-test.false))
    (adds_none c.loop-name.pen now))
