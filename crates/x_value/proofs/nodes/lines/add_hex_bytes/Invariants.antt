use Rattle.std.proofs.Common.{◌≡◌, ℕ, List, ◌++◌}
use Rattle.std.specs.List.{flat_map}
use Rattle.std.specs.Slice.Iter.{chunks_rest, chunks_size}
use Rattle.x_streams.specs.Writing.{Adds}
use Rattle.x_value.specs.Lines.{hex_byte}
use Rattle.x_value.proofs.nodes.lines.add_hex_bytes.Given as goal

abbrev pub invariant-loop-chunk : goal.invariant-loop-chunk
invariant-loop-chunk g l =
    (goal.iterator-loop-chunk g).can_next l.chunk-iterator
    × (goal.iterator-loop-chunk g).is_finite l.chunk-iterator
    × (chunks_size l.chunk-iterator ≡ 64)
    × ((done : List ℕ) × (done ++ chunks_rest l.chunk-iterator ≡ l.initial.bytes)
    × Adds l.initial.pen (g.S.Sink.state l.initial.sink) l.pen (g.S.Sink.state l.sink)
    (flat_map hex_byte done))
