use Rattle.std.proofs.Common.{◌<◌, ◌+◌, drop, length, subst, arith}
use Rattle.x_lists.proofs.ListLemmas.{drop_none}
use Rattle.x_text.proofs.Listing.{HasListed, lists_more, lists_all}
use Rattle.x_value.specs.Lines.{node_line}
use Rattle.x_value.specs.Shown.{Node}
use Rattle.x_value.proofs.LineLemmas.{left_at}
use Rattle.x_value.proofs.nodes.compact_node.Dump.add_lines.Goals as goal

pub loop-index-preserved : goal.loop-index-preserved
loop-index-preserved g c =
    let nodes = c.args.self.now in
    let i = c.loop-index.index in
    let start = g.S.Sink.state c.args.sink.now in
    let mid = g.S.Sink.state c.loop-index.sink in
    let told = c.add_line_at.ensures in
    let lt : i < length nodes = let h = c.loop-index-test.true in let e = c.len-index-end.ensures in
    omega (arith, h, e) in
    lists_more node_line nodes (drop (i + 1) nodes) told.0 c.args.pen.now c.loop-index.pen
    c.add_line_at.new.pen start mid (g.S.Sink.state c.add_line_at.new.sink)
    (subst (λ ns. HasListed Node node_line nodes ns c.args.pen.now start c.loop-index.pen mid)
    (left_at nodes i told.0 lt told.1) c.loop-index.invariant)
    told.2

pub returns : goal.returns
returns g c =
    let nodes = c.args.self.now in
    lists_all node_line nodes (drop c.loop-index.index nodes) c.args.pen.now c.loop-index.pen
    (g.S.Sink.state c.args.sink.now) (g.S.Sink.state c.loop-index.sink)
    (drop_none nodes c.loop-index.index (let over = c.loop-index-test.false in
    let e = c.len-index-end.ensures in omega (arith, over, e))) c.loop-index.invariant
