use Rattle.std.proofs.Common.{◌<◌, length}
use Rattle.x_wire.specs.Dumpers.{IsUnder}
use Rattle.x_wire.specs.Framers.{IsOpen}
use Rattle.x_wire.proofs.Dumping.{HasTaken}
use Rattle.x_wire.proofs.telling.dumper.Dumper.take.Given as goal

abbrev pub invariant-loop-rest : goal.invariant-loop-rest
invariant-loop-rest g l = record {
  is_open : IsOpen l.self.framer.phase;
  under : length l.rest < length l.fn.block → IsUnder l.self;
  taken : HasTaken l.schema l.fn.self l.fn.block l.rest l.self l.fn.pen (g.S.Sink.state l.fn.sink) l.pen
      (g.S.Sink.state l.sink);
}

abbrev pub decreases-loop-rest : goal.decreases-loop-rest
decreases-loop-rest g l = length l.rest
