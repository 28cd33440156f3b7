use Rattle.x_script.proofs.DefinitionLemmas.{HasDefinitions}
use Rattle.x_script.proofs.script.answer.add_definitions.Given as goal

abbrev pub invariant-loop-item : goal.invariant-loop-item
invariant-loop-item g l = HasDefinitions l.session.known l.session.text l.item l.initial.pen
    (g.S.Sink.state l.initial.sink) l.pen (g.S.Sink.state l.sink)
