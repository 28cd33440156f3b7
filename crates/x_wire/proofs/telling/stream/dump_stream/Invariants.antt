use Rattle.std.proofs.Common.{◌≡◌, ◌<◌, ◌≤◌, vec_len}
use Rattle.x_wire.specs.Limits.{most_block}
use Rattle.x_wire.specs.Framers.{IsOpen}
use Rattle.x_wire.proofs.Turning.{IsRunning}
use Rattle.x_wire.proofs.telling.stream.dump_stream.Given as goal

abbrev pub invariant-loop : goal.invariant-loop
invariant-loop g l = record {
  is_open : IsOpen l.dumper.framer.phase;
  room : 0 < vec_len l.block;
  few : vec_len l.block ≤ most_block;
  tap_is : (g.R.Tap.state l.tap).failed ≡ (g.R.Tap.state l.fn.tap).failed;
  runs : IsRunning l.schema (g.S.Sink.state l.fn.sink) (g.R.Tap.state l.fn.tap).bytes
      (g.R.Tap.state l.tap).bytes l.dumper l.pen (g.S.Sink.state l.sink);
}
