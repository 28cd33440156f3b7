use Rattle.std.proofs.Common.{Ok, subst}
use Rattle.x_frames.specs.Framing.{ReadsFrame}
use Rattle.x_lsp.specs.Saying.{said_by}
use Rattle.x_lsp.specs.States.{IsTakenBefore, state_of}
use Rattle.x_lsp.proofs.ServingLemmas.{long_answered, message_answered}
use Rattle.x_lsp.proofs.serving.answer_next.Goals as goal

pub returns-in-Ok-Message-clause-answers : goal.returns-in-Ok-Message-clause-answers
returns-in-Ok-Message-clause-answers g c =
    let left = (g.I.Tap.state c.args.input.now).bytes in
    let left' = (g.I.Tap.state c.next.new.tap).bytes in
    let reads = subst (λ f. ReadsFrame c.args.reader.now c.next.new.self left left'
    (Ok f)) c.in-Ok-Message.field-0-is c.in-Ok-Message.ensures.frame in
    let state = state_of c.args.server.now in
    let state' = state_of c.take_message-said.new.server in
    let said = said_by c.take_message-said.result in
    message_answered c.args.reader.now c.next.new.self left left' state state' c.args.pen.now
    c.add_said.new.pen
    (g.O.Sink.state c.args.out.now) (g.O.Sink.state c.add_said.new.sink) said reads
    (subst (λ l. IsTakenBefore state c.next.new.self.body l said state') c.unread.ensures
    (subst (λ b. IsTakenBefore state b c.unread.result.now said state') c.body.ensures
    c.take_message-said.ensures))
    c.add_said.ensures

pub returns-in-Ok-Long-clause-answers : goal.returns-in-Ok-Long-clause-answers
returns-in-Ok-Long-clause-answers g c =
    let left = (g.I.Tap.state c.args.input.now).bytes in
    let left' = (g.I.Tap.state c.next.new.tap).bytes in
    let reads = subst (λ f. ReadsFrame c.args.reader.now c.next.new.self left left'
    (Ok f)) c.in-Ok-Long.field-0-is c.in-Ok-Long.ensures.frame in
    long_answered c.args.reader.now c.next.new.self left left' (state_of c.args.server.now)
    (state_of c.refuse_long-said.new.self) c.args.pen.now c.add_said-in-Ok-Long.new.pen
    (g.O.Sink.state c.args.out.now) (g.O.Sink.state c.add_said-in-Ok-Long.new.sink)
    (said_by c.refuse_long-said.result) reads c.refuse_long-said.ensures c.add_said-in-Ok-Long.ensures
