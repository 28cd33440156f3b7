use Rattle.rpcx.specs.Dumping.{type_asked}
use Rattle.rpcx.proofs.Dumping.{shown_kept}
use Rattle.rpcx.proofs.rpcdump.showing.show.Goals as goal

pub returns-in-Ok : goal.returns-in-Ok
returns-in-Ok g c = (
  shown_kept c.args.mode (type_asked c.args.args.now) c.args.schema.now (g.I.Tap.state c.args.input.now)
      (g.I.Tap.state c.show_by_mode.new.input)
      (g.O.Sink.state c.args.out.now) (g.O.Sink.state c.show_by_mode.new.out)
      (g.O.Sink.state c.flush.new.self) c.in_ok-outcome.outcome c.in_ok-outcome.ensures.0
      c.flush.ensures.same,
  c.in_ok-outcome.ensures.1,
  c.in-Ok.ensures.fails.failed,
)

pub returns-in-Err : goal.returns-in-Err
returns-in-Err g c = (
  (
    c.in_ok-outcome.outcome,
    shown_kept c.args.mode (type_asked c.args.args.now) c.args.schema.now (g.I.Tap.state c.args.input.now)
        (g.I.Tap.state c.show_by_mode.new.input)
        (g.O.Sink.state c.args.out.now) (g.O.Sink.state c.show_by_mode.new.out)
        (g.O.Sink.state c.flush.new.self) c.in_ok-outcome.outcome c.in_ok-outcome.ensures.0
        c.flush.ensures.same,
  ),
  c.in-Err.ensures.fails.failed,
)
