use Rattle.std.proofs.Common.{Option, ℕ, ap, subst, arith}
use Rattle.x_wire.specs.Dumpers.{IsOverAt}
use Rattle.x_wire.proofs.Dumping.{taken_none, taken_more, taken_rest, taken_front, on_err}
use Rattle.x_wire.proofs.telling.dumper.Dumper.take.Goals as goal

pub loop-rest-init : goal.loop-rest-init
loop-rest-init g c = record {
  is_open = c.requires.is_open;
  under = λ less. absurd (omega (arith, less));
  taken = taken_none c.args.schema.now c.args.self.now c.args.block.now c.args.pen.now
      (g.S.Sink.state c.args.sink.now);
}

pub returns-in_err-used-clause-front : goal.returns-in_err-used-clause-front
returns-in_err-used-clause-front g c = on_err c.from_residual.result _ (λ read t h.
    taken_front c.args.schema.now c.args.self.now c.loop-rest.self c.args.block.now
    c.loop-rest.rest.now read t
    c.args.pen.now c.loop-rest.pen c.take_record.new.pen (g.S.Sink.state c.args.sink.now)
    (g.S.Sink.state c.loop-rest.sink) (g.S.Sink.state c.take_record.new.sink)
    c.loop-rest.invariant.taken c.in_err-used.ensures.same.0
    (ap g.S.Sink.state c.in_err-used.ensures.same.1) h)

pub returns-in_default-clause-told : goal.returns-in_default-clause-told
returns-in_default-clause-told g c read t h =
    taken_rest c.args.schema.now c.args.self.now c.loop-rest.self c.take_record.new.self c.args.block.now
    c.loop-rest.rest.now read t c.in_ok-used.field-0
    c.args.pen.now c.loop-rest.pen c.take_record.new.pen (g.S.Sink.state c.args.sink.now)
    (g.S.Sink.state c.loop-rest.sink) (g.S.Sink.state c.take_record.new.sink)
    c.loop-rest.invariant.taken c.in_default.is c.in_ok-used.ensures.told h

pub loop-rest-preserved : goal.loop-rest-preserved
loop-rest-preserved g c = record {
  is_open = c.in_ok-used.ensures.is_open;
  under = λ less. subst (λ (v : Option ℕ). IsOverAt v c.take_record.new.self) c.in-Some.is
      c.in_ok-used.ensures.over;
  taken = taken_more c.args.schema.now c.args.self.now c.loop-rest.self c.take_record.new.self
      c.args.block.now c.loop-rest.rest.now c.in_ok-used.field-0 c.in-Some.used
      c.args.pen.now c.loop-rest.pen c.take_record.new.pen (g.S.Sink.state c.args.sink.now)
      (g.S.Sink.state c.loop-rest.sink) (g.S.Sink.state c.take_record.new.sink)
      c.loop-rest.invariant.taken c.in-Some.is c.in_ok-used.ensures.told;
}
