use Rattle.std.proofs.Common.{◌≡◌, List, ℕ, Some}
use Rattle.x_streams.specs.Engines.{is_refused}
use Rattle.x_prelude.specs.Followed.{IsOver}
use Rattle.x_script.specs.Situations.{situation}
use Rattle.x_script.proofs.Running.{IsBetween}
use Rattle.x_session.proofs.Working.{IsWorking}
use Rattle.x_script.proofs.script.run_script.Given as goal

abbrev pub invariant-loop : goal.invariant-loop
invariant-loop g l =
    IsWorking (g.S.Sink.state l.fn.sink) l.pen (g.S.Sink.state l.sink) (g.R.Tap.state l.fn.tap).failed
    (g.R.Tap.state l.tap).failed
    × IsOver l.text
    × ((script : List ℕ) → (g.R.Tap.state l.fn.tap).bytes ≡ Some script
    → IsBetween script (situation l.file l.fn.text) (g.S.Sink.state l.fn.sink) (situation l.file l.text)
    l.reader (g.R.Tap.state l.tap).bytes (is_refused l.outcome) l.pen (g.S.Sink.state l.sink))
