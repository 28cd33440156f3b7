use Rattle.std.proofs.Common.{◌≡◌, map}
use Rattle.x_compile.specs.Compile.{in_lines}
use Rattle.x_explain.specs.Facts.{before_in, near_in}
use Rattle.x_explain.proofs.PassLemmas.{HasPassed}
use Rattle.x_explain.proofs.explained.Telling.add_pass.Given as goal

-- the faults of the places that are left, and what was said of the others
abbrev pub invariant-loop-place : goal.invariant-loop-place
invariant-loop-place g l = (l.faults ≡ map (in_lines l.text) l.place-iterator)
    × HasPassed l.pass l.self.session.now.known (before_in l.self.facts.now)
    (record { coloured = l.self.coloured; file = l.self.file.now; text = l.self.session.now.text })
    (near_in l.self.facts.now)
    l.initial.place-iterator l.place-iterator
    l.initial.pen (g.S.Sink.state l.initial.sink) l.pen (g.S.Sink.state l.sink)
