use Rattle.std.proofs.Common.{◌≡◌, ◌≤◌, ◌+◌, ◌*◌, take, slice_range}
use Rattle.std.specs.Prelude.{sum_by}
use Rattle.x_positions.specs.Encodings.{unit}
use Rattle.x_positions.proofs.places.units_behind.Given as goal

abbrev pub invariant-loop-byte : goal.invariant-loop-byte
invariant-loop-byte l = record {
  units : l.units ≡ l.fn.units + sum_by (unit l.encoding)
      (take l.byte-index (slice_range l.line l.from l.to));
  few : l.units ≤ 4 * (l.from + l.byte-index);
}
