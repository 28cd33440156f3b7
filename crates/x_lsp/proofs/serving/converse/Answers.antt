use Rattle.std.proofs.Common.{sym, ap, subst, false, ◌∙◌, Ok, Err}
use Rattle.x_session.proofs.Working.{works_at_start, works_on}
use Rattle.x_text.proofs.Cases.{match_some}
use Rattle.x_streams.specs.Streams.{Stream}
use Rattle.x_frames.specs.Answers.{framed_if}
use Rattle.x_lsp.specs.Serving.{AnswersNext, Serves, stop_by}
use Rattle.x_lsp.proofs.ServingLemmas.{at_start, behind, between, at_exit, at_end, at_fault, so_far, at_stop}
use Rattle.x_documents.specs.Grounds.{ground_of}
use Rattle.x_lsp.specs.States.{state_of}
use Rattle.x_lsp.proofs.serving.converse.Goals as goal

pub loop-init : goal.loop-init
loop-init g c = (
  works_at_start (g.O.Sink.state c.args.out.now) c.new-pen.result
      (g.I.Tap.state c.args.input.now).failed c.new-pen.ensures,
  λ input e. at_start (ground_of c.args.server.now.setting) input (g.O.Sink.state c.args.out.now)
      (state_of c.args.server.now) c.new-reader.result
      (g.I.Tap.state c.args.input.now).bytes c.new-pen.result c.requires c.new-reader.ensures e
      c.new-pen.ensures,
)

pub loop-preserved : goal.loop-preserved
loop-preserved g c =
    let start = g.O.Sink.state c.args.out.now in
    let now = g.O.Sink.state c.loop.out in
    let now' = g.O.Sink.state c.answer_next.new.out in
    let now'' = g.O.Sink.state c.flush.new.sink in
    let left = (g.I.Tap.state c.loop.input).bytes in
    let left' = (g.I.Tap.state c.answer_next.new.input).bytes in
    let state = (state_of c.loop.server) in
    let state' = (state_of c.answer_next.new.server) in
    let new = c.answer_next.new.reader in
    let answered = subst
    (λ n. AnswersNext (Ok n) c.loop.reader new left left' state state' c.loop.pen now
    c.answer_next.new.pen now') c.in-Ok-Answered.field-0-is c.in-Ok-Answered.ensures.answers in
    let goes = sym c.has_stopped.ensures ∙ c.if-has_stopped.false in (
      works_on start c.loop.pen c.answer_next.new.pen c.flush.new.self now now' now''
          (g.I.Tap.state c.args.input.now).failed (g.I.Tap.state c.loop.input).failed
          (g.I.Tap.state c.answer_next.new.input).failed c.loop.invariant.0
          (framed_if answered.said, answered.adds) c.flush.ensures.adds goes c.flush.ensures.working
          c.in-Ok-Answered.ensures.failed,
      λ input e.
          let done = behind (ground_of c.args.server.now.setting) input start state state' c.loop.reader new
          left left' c.loop.pen c.answer_next.new.pen c.flush.new.self now now' now''
          (c.loop.invariant.1 input e) answered c.flush.ensures.adds in
          between (ground_of c.args.server.now.setting) input start state' new left' c.flush.new.self now''
          done goes (c.flush.ensures.empty goes) (sym c.end.ensures ∙ c.in_default.is),
    )

pub returns-in-Ok-NoMore-clause-serves : goal.returns-in-Ok-NoMore-clause-serves
returns-in-Ok-NoMore-clause-serves g c = match_some (g.I.Tap.state c.args.input.now).bytes _ (λ input e.
    let start = g.O.Sink.state c.args.out.now in
    let now = g.O.Sink.state c.loop.out in
    let now' = g.O.Sink.state c.answer_next.new.out in
    let left = (g.I.Tap.state c.loop.input).bytes in
    let left' = (g.I.Tap.state c.answer_next.new.input).bytes in
    let state = (state_of c.loop.server) in
    let new = c.answer_next.new.reader in
    let none = subst (λ n. AnswersNext (Ok n) c.loop.reader new left left' state
    (state_of c.answer_next.new.server) c.loop.pen now c.answer_next.new.pen now')
    c.in-Ok-NoMore.field-0-is c.in-Ok-NoMore.ensures.answers in
    subst (λ (n : Stream). Serves (ground_of c.args.server.now.setting) input left' start n (Ok false))
    (sym none.1.2)
    (at_end (ground_of c.args.server.now.setting) input start state c.loop.reader new left left' c.loop.pen
    now (c.loop.invariant.1 input e) none.0))

pub returns-in-Err-clause-serves : goal.returns-in-Err-clause-serves
returns-in-Err-clause-serves g c = match_some (g.I.Tap.state c.args.input.now).bytes _ (λ input e.
    let start = g.O.Sink.state c.args.out.now in
    let left' = (g.I.Tap.state c.answer_next.new.input).bytes in
    let fault = c.in-Err.fault in
    let count_is = c.written.ensures ∙ ap (λ p. p.written) c.in-Err.ensures.answers.1.1 in
    subst (λ r. Serves (ground_of c.args.server.now.setting) input left' start
    (g.O.Sink.state c.answer_next.new.out) (Err r)) (sym c.stop_by.ensures)
    (subst (λ (n : Stream). Serves (ground_of c.args.server.now.setting) input left' start n
    (Err (stop_by fault c.written.result))) (sym c.in-Err.ensures.answers.1.2)
    (at_fault (ground_of c.args.server.now.setting) fault input start
    (state_of c.loop.server) c.loop.reader c.answer_next.new.reader
    (g.I.Tap.state c.loop.input).bytes left' c.loop.pen (g.O.Sink.state c.loop.out) c.written.result
    (c.loop.invariant.1 input e) c.in-Err.ensures.answers.0 count_is)))

pub returns-then-has_stopped-clause-serves : goal.returns-then-has_stopped-clause-serves
returns-then-has_stopped-clause-serves g c = match_some (g.I.Tap.state c.args.input.now).bytes _ (λ input e.
    let start = g.O.Sink.state c.args.out.now in
    let now = g.O.Sink.state c.loop.out in
    let now' = g.O.Sink.state c.answer_next.new.out in
    let now'' = g.O.Sink.state c.flush.new.sink in
    let left = (g.I.Tap.state c.loop.input).bytes in
    let left' = (g.I.Tap.state c.answer_next.new.input).bytes in
    let state = (state_of c.loop.server) in
    let state' = (state_of c.answer_next.new.server) in
    let new = c.answer_next.new.reader in
    let answered = subst
    (λ n. AnswersNext (Ok n) c.loop.reader new left left' state state' c.loop.pen now
    c.answer_next.new.pen now') c.in-Ok-Answered.field-0-is c.in-Ok-Answered.ensures.answers in
    let done = behind (ground_of c.args.server.now.setting) input start state state' c.loop.reader new left
    left' c.loop.pen c.answer_next.new.pen c.flush.new.self now now' now''
    (c.loop.invariant.1 input e) answered c.flush.ensures.adds in
    at_stop (ground_of c.args.server.now.setting) input start state' new left' c.flush.new.self now''
    c.written-then-has_stopped.result done (sym c.has_stopped.ensures
    ∙ c.if-has_stopped.true) c.written-then-has_stopped.ensures)

pub returns-in-Some-clause-serves : goal.returns-in-Some-clause-serves
returns-in-Some-clause-serves g c = match_some (g.I.Tap.state c.args.input.now).bytes _ (λ input e.
    let start = g.O.Sink.state c.args.out.now in
    let now = g.O.Sink.state c.loop.out in
    let now' = g.O.Sink.state c.answer_next.new.out in
    let now'' = g.O.Sink.state c.flush.new.sink in
    let left = (g.I.Tap.state c.loop.input).bytes in
    let left' = (g.I.Tap.state c.answer_next.new.input).bytes in
    let state = (state_of c.loop.server) in
    let state' = (state_of c.answer_next.new.server) in
    let new = c.answer_next.new.reader in
    let answered = subst
    (λ n. AnswersNext (Ok n) c.loop.reader new left left' state state' c.loop.pen now
    c.answer_next.new.pen now') c.in-Ok-Answered.field-0-is c.in-Ok-Answered.ensures.answers in
    let goes = sym c.has_stopped.ensures ∙ c.if-has_stopped.false in
    let done = behind (ground_of c.args.server.now.setting) input start state state' c.loop.reader new left
    left' c.loop.pen c.answer_next.new.pen c.flush.new.self now now' now''
    (c.loop.invariant.1 input e) answered c.flush.ensures.adds in
    at_exit (ground_of c.args.server.now.setting) input start state' new left' c.flush.new.self now''
    c.in-Some.asked done goes (c.flush.ensures.empty goes) (sym c.end.ensures ∙ c.in-Some.is))

pub returns-clause-serves : goal.returns-clause-serves
returns-clause-serves g c = match_some (g.I.Tap.state c.args.input.now).bytes _ (λ input e.
    so_far (ground_of c.args.server.now.setting) input (g.O.Sink.state c.args.out.now)
    (state_of c.loop.server) c.loop.reader (g.I.Tap.state c.loop.input).bytes c.loop.pen
    (g.O.Sink.state c.loop.out) c.written-2.result (c.loop.invariant.1 input e) c.written-2.ensures)
