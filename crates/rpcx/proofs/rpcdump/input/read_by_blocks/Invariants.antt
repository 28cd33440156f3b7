use Rattle.std.proofs.Common.{◌≡◌, ◌-◌, ◌+◌, length}
use Rattle.std.specs.Io.KnownBytes.{Consumes}
use Rattle.x_text.specs.declared.text.source.TheConstants.{MAX_TEXT}
use Rattle.rpcx.proofs.rpcdump.input.read_by_blocks.Given as goal

abbrev pub invariant-loop-bytes : goal.invariant-loop-bytes
invariant-loop-bytes g l = record {
  read : Consumes (g.I.Tap.state l.initial.input).bytes (g.I.Tap.state l.input).bytes l.bytes.items;
  working : (g.I.Tap.state l.input).failed ≡ (g.I.Tap.state l.initial.input).failed;
}

abbrev pub decreases-loop-bytes : goal.decreases-loop-bytes
decreases-loop-bytes g l = MAX_TEXT + 1 - length l.bytes.items
