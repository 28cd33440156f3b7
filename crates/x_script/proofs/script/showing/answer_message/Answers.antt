use Rattle.std.proofs.Common.{ap, ◌∙◌}
use denote.Enum.Bare.{sameb}
use Rattle.x_value.specs.contracts.fault.ReadCode.{the_type}
use Rattle.x_value.specs.declared.fault.ReadCode.TheVariants.{NoMemory}
use Rattle.x_text.proofs.Cases.{false_true}
use Rattle.x_script.proofs.ShowingLemmas.{tells_shown, tells_stuck}
use Rattle.x_script.proofs.script.showing.answer_message.Goals as goal

pub returns-in-Ok-clause-told : goal.returns-in-Ok-clause-told
returns-in-Ok-clause-told g c =
    tells_shown c.args.pen.now c.add_value.new.pen (g.S.Sink.state c.args.sink.now)
    (g.S.Sink.state c.add_value.new.sink) c.args.schema.now c.args.id
    c.args.message.now c.in-Ok.dump c.in-Ok.ensures.ok c.add_value.ensures

pub returns-else-eq-clause-told : goal.returns-else-eq-clause-told
returns-else-eq-clause-told g c =
    tells_stuck c.args.pen.now c.add_line.new.pen (g.S.Sink.state c.args.sink.now)
    (g.S.Sink.state c.add_line.new.sink) c.args.schema.now c.args.id
    c.args.message.now c.in-Err.fault.at c.in-Err.fault.code c.in-Err.ensures.err
    (λ is. false_true (c.if-eq.ensures ∙ ap (λ code. sameb the_type code NoMemory) is)) c.add_line.ensures
