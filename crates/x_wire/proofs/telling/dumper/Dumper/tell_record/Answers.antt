use Rattle.std.proofs.Common.{◌≡◌, ◌||◌, sym, ap, ◌∙◌}
use Rattle.x_wire.proofs.Dumping.{tells_more}
use Rattle.x_wire.proofs.telling.dumper.Dumper.tell_record.Goals as goal
use Rattle.x_wire.proofs.telling.dumper.Dumper.tell_record.Goals.{then-self, else-self}

pub returns-clause-told : goal.returns-clause-told
returns-clause-told g c told t h =
    let refuses = c.in_ok-refused.refused in
    let is : c.if-self.self ≡ (c.args.self.now.refused || c.in_ok-refused.refused) = elim c.if-self.branch [
      | then-self w ↦ w.self-is ∙ w.if-self.true ∙ sym (ap (λ b. b || refuses) w.if-self.true)
      | else-self w ↦ w.self-is ∙ sym (ap (λ b. b || refuses) w.if-self.false)
    ] in
    tells_more c.args.schema.now told c.args.self.now.framer.joined.items c.joined-record.result.now t
    c.args.self.now.teller c.tell.new.self
    c.args.self.now.refused refuses c.if-self.self c.args.pen.now c.tell.new.pen
    (g.S.Sink.state c.args.sink.now) (g.S.Sink.state c.tell.new.sink)
    h c.joined-record.ensures c.in_ok-refused.ensures.told c.in_ok-refused.ensures.count is
