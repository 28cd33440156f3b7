use Rattle.std.proofs.Common.{drop}
use Rattle.std.specs.List.{flat_map}
use Rattle.x_streams.specs.Streams.{Stream}
use Rattle.x_streams.specs.Writing.{Adds, Inked}
use Rattle.x_explain.specs.Explained.{foreign_line}
use Rattle.x_session.specs.Foreign.{view_all}
use Rattle.x_explain.proofs.foreign.add_foreign_lines.Given as goal

-- what comes of adding the lines that are left is what comes of adding all
abbrev pub invariant-loop-name : goal.invariant-loop-name
invariant-loop-name g l = (q : Inked) (end : Stream)
    → Adds l.pen (g.S.Sink.state l.sink) q end
    (flat_map (foreign_line l.coloured l.file) (view_all (drop l.name-index l.names)))
    → Adds l.initial.pen (g.S.Sink.state l.initial.sink) q end
    (flat_map (foreign_line l.coloured l.file) (view_all l.names))
