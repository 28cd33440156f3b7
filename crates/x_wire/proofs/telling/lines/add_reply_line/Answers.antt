use Rattle.std.proofs.Common.{codes, ◌++◌, decimal}
use Rattle.x_text.proofs.Adding.{three}
use Rattle.x_wire.specs.MessageTexts.{call_number}
use Rattle.x_wire.proofs.telling.lines.add_reply_line.Goals as goal

pub returns : goal.returns
returns g c =
    let heading = c.args.heading.now in
    three c.args.pen.now c.add_numbers.new.pen c.add_state.new.pen c.add_name.new.pen
    (g.S.Sink.state c.args.sink.now) (g.S.Sink.state c.add_numbers.new.sink)
    (g.S.Sink.state c.add_state.new.sink) (g.S.Sink.state c.add_name.new.sink)
    (codes "# " ++ decimal heading.id.number ++ codes " reply xid=" ++ decimal heading.id.xid)
    (codes " " ++ (c.args.word.now ++ c.args.state.now) ++ codes " call=" ++ call_number heading.call)
    (codes " " ++ heading.name.now ++ codes "\n")
    c.add_numbers.ensures c.add_state.ensures c.add_name.ensures
