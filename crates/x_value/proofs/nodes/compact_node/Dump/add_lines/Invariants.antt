use Rattle.std.proofs.Common.{drop}
use Rattle.x_text.proofs.Listing.{HasListed}
use Rattle.x_value.specs.Lines.{node_line}
use Rattle.x_value.specs.Shown.{Node}
use Rattle.x_value.proofs.nodes.compact_node.Dump.add_lines.Given as goal

abbrev pub invariant-loop-index : goal.invariant-loop-index
invariant-loop-index g l = HasListed Node node_line l.self (drop l.index l.self)
    l.initial.pen (g.S.Sink.state l.initial.sink) l.pen (g.S.Sink.state l.sink)
