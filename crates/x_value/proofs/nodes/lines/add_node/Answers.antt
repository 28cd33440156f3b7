use Rattle.std.proofs.Common.{codes}
use Rattle.std.specs.Fmt.{decimal}
use Rattle.x_text.proofs.Adding.{six}
use Rattle.x_value.specs.Lines.{label_text, leaf_text}
use Rattle.x_value.specs.NodeList.{shown_label, shown_leaf}
use Rattle.x_value.proofs.nodes.lines.add_node.Goals as goal

pub returns : goal.returns
returns g c =
    six c.args.pen.now c.add_number.new.pen c.add.new.self c.add_label.new.pen c.add-2.new.self
    c.add_leaf.new.pen c.add-3.new.self
    (g.S.Sink.state c.args.sink.now) (g.S.Sink.state c.add_number.new.sink) (g.S.Sink.state c.add.new.sink)
    (g.S.Sink.state c.add_label.new.sink)
    (g.S.Sink.state c.add-2.new.sink) (g.S.Sink.state c.add_leaf.new.sink) (g.S.Sink.state c.add-3.new.sink)
    (decimal c.args.node.now.level) (codes " ") (label_text (shown_label c.args.node.now.label)) (codes " = ")
    (leaf_text (shown_leaf c.args.node.now.leaf)) (codes "\n")
    c.add_number.ensures c.add.ensures c.add_label.ensures c.add-2.ensures c.add_leaf.ensures c.add-3.ensures
