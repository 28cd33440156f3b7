use Rattle.std.proofs.Common.{drop, map}
use Rattle.std.specs.List.{flat_map}
use Rattle.x_streams.specs.Streams.{Stream}
use Rattle.x_streams.specs.Writing.{Adds, Inked}
use Rattle.x_warnings.specs.WarningLines.{warning_line}
use Rattle.x_warnings.specs.Warnings.{view_warning}
use Rattle.x_warnings.proofs.lines.add_warnings.Given as goal

-- what comes of adding the lines that are left is what comes of adding all
abbrev pub invariant-loop-warning : goal.invariant-loop-warning
invariant-loop-warning g l = (q : Inked) (end : Stream)
    → Adds l.pen (g.S.Sink.state l.sink) q end
    (flat_map (warning_line l.file) (map view_warning (drop l.warning-index l.warnings)))
    → Adds l.initial.pen (g.S.Sink.state l.initial.sink) q end
    (flat_map (warning_line l.file) (map view_warning l.warnings))
