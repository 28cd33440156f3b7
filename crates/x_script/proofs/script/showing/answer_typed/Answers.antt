use Rattle.std.proofs.Common.{◌∙◌}
use Rattle.std.specs.Prelude.{IfOk}
use Rattle.std.proofs.Common.{List, ℕ, subst, sym}
use Rattle.x_script.specs.Commands.{bytes_of}
use Rattle.x_script.specs.Script.{TellsOver}
use Rattle.x_script.specs.Showing.{IsMessageAnswer}
use Rattle.x_script.proofs.ShowingLemmas.{tells_no_type, tells_typed}
use Rattle.x_script.proofs.script.showing.answer_typed.Goals as goal

pub returns-in_default-clause-told : goal.returns-in_default-clause-told
returns-in_default-clause-told g c =
    tells_no_type c.args.pen.now c.add_line.new.pen (g.S.Sink.state c.args.sink.now)
    (g.S.Sink.state c.add_line.new.sink) c.args.schema.now c.args.name.now
    (bytes_of c.args.hex.now) (sym c.type_named.ensures.named ∙ c.in_default.is) c.add_line.ensures

pub returns-clause-told : goal.returns-clause-told
returns-clause-told g c =
    tells_typed c.args.pen.now c.answer_message.new.pen (g.S.Sink.state c.args.sink.now)
    (g.S.Sink.state c.answer_message.new.sink) c.args.schema.now c.in-Some.id
    c.args.name.now (bytes_of c.args.hex.now) c.answer_message.result
    (sym c.type_named.ensures.named ∙ c.in-Some.is)
    (subst (λ (m : List ℕ). IfOk c.answer_message.result
    (λ refused. TellsOver (IsMessageAnswer c.args.schema.now c.in-Some.id m) refused
    c.args.pen.now (g.S.Sink.state c.args.sink.now) c.answer_message.new.pen
    (g.S.Sink.state c.answer_message.new.sink)))
    (c.deref.ensures.value ∙ c.in_ok-message.ensures) c.answer_message.ensures.told)
