use Rattle.std.proofs.Common.{sym, subst, ◌∙◌}
use Rattle.x_streams.specs.Writing.{Adds}
use Rattle.x_value.proofs.Quoting.{plain_text}
use Rattle.x_value.proofs.nodes.lines.add_quoted_bytes.Goals as goal

pub returns-then-are_plain : goal.returns-then-are_plain
returns-then-are_plain g c =
    subst (λ t. Adds c.args.pen.now (g.S.Sink.state c.args.sink.now) c.add.new.self
    (g.S.Sink.state c.add.new.sink) t)
    (sym (plain_text c.args.bytes.now (sym c.are_plain.ensures ∙ c.if-are_plain.true))) c.add.ensures
