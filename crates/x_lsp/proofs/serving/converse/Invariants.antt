use Rattle.std.proofs.Common.{◌≡◌, List, ℕ, Some}
use Rattle.x_session.proofs.Working.{IsWorking}
use Rattle.x_lsp.proofs.ServingLemmas.{IsBetween}
use Rattle.x_documents.specs.Grounds.{ground_of}
use Rattle.x_lsp.specs.States.{state_of}
use Rattle.x_lsp.proofs.serving.converse.Given as goal

abbrev pub invariant-loop : goal.invariant-loop
invariant-loop g l =
    IsWorking (g.O.Sink.state l.fn.out) l.pen (g.O.Sink.state l.out) (g.I.Tap.state l.fn.input).failed
    (g.I.Tap.state l.input).failed
    × ((input : List ℕ) → (g.I.Tap.state l.fn.input).bytes ≡ Some input
    → IsBetween (ground_of l.fn.server.setting) input (g.O.Sink.state l.fn.out)
    (state_of l.server) l.reader (g.I.Tap.state l.input).bytes l.pen (g.O.Sink.state l.out))
