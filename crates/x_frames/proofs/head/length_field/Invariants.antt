use Rattle.std.proofs.Common.{◌≡◌, drop, map}
use Rattle.httparse.specs.Spans.{header_bytes}
use Rattle.x_frames.specs.Framing.{length_field}
use Rattle.x_frames.proofs.head.length_field.Given as goal

abbrev pub invariant-loop-field : goal.invariant-loop-field
invariant-loop-field l = length_field (map (header_bytes l.bytes)
    (drop l.field-index l.fields)) ≡ length_field (map (header_bytes l.bytes) l.fields)
