use Rattle.std.proofs.Common.{Bool, ◌||◌, ◌++◌, Option, Ok, Err, refl, sym, subst, ◌∙◌}
use Rattle.x_lines.specs.Lines.{script_lines}
use Rattle.x_streams.specs.Engines.{is_refused}
use Rattle.x_script.specs.Situations.{situation}
use Rattle.x_script.specs.Script.{GoesOn, HasRun, HasStopped, HasFailed, IsFrontOf, script_run}
use Rattle.x_script.proofs.Running.{IsBetween, added_some, at_start, behind, between, at_stop, at_fault}
use Rattle.x_script.proofs.Running.{so_still}
use Rattle.x_session.proofs.Working.{works_at_start, works_on}
use Rattle.x_text.proofs.Cases.{match_some}
use Rattle.x_script.proofs.script.run_script.Goals as goal

pub loop-init : goal.loop-init
loop-init g c = (
  works_at_start (g.S.Sink.state c.args.sink.now) c.new-pen.result (g.R.Tap.state c.args.tap.now).failed
      c.new-pen.ensures,
  c.requires,
  λ script e. at_start script (situation c.args.file.now c.args.text.now) (g.S.Sink.state c.args.sink.now)
      c.new-reader.result (g.R.Tap.state c.args.tap.now).bytes c.new-pen.result e c.new-reader.ensures
      c.new-pen.ensures,
)

pub loop-preserved : goal.loop-preserved
loop-preserved g c = (
  let start = g.S.Sink.state c.args.sink.now in
      let goes = sym c.has_stopped.ensures ∙ c.if-has_stopped.false in
      works_on start c.loop.pen c.next_answer.new.pen c.flush.new.self (g.S.Sink.state c.loop.sink)
      (g.S.Sink.state c.next_answer.new.sink) (g.S.Sink.state c.flush.new.sink)
      (g.R.Tap.state c.args.tap.now).failed (g.R.Tap.state c.loop.tap).failed
      (g.R.Tap.state c.next_answer.new.tap).failed c.loop.invariant.0
      (added_some c.in-Ok-Some.field-0 c.in-Ok-Some.refused c.loop.sink c.next_answer.new.sink _
      c.in-Ok-Some.field-0-is c.in-Ok-Some.ensures.adds) c.flush.ensures.adds goes c.flush.ensures.working
      c.in-Ok-Some.ensures.failed,
  c.in-Ok-Some.ensures.over,
  λ script e.
      let h = c.loop.invariant.2 script e in
      let k = subst (λ (r : Option Bool).
      GoesOn (situation c.args.file.now c.loop.text) (situation c.args.file.now c.next_answer.new.text) script
      c.next_answer.new.reader (g.R.Tap.state c.next_answer.new.tap).bytes h.given (Ok r)
      c.loop.pen (g.S.Sink.state c.loop.sink) c.next_answer.new.pen (g.S.Sink.state c.next_answer.new.sink))
      c.in-Ok-Some.field-0-is (c.in-Ok-Some.ensures.given script h.given h.reads) in
      let done = behind script (situation c.args.file.now c.args.text.now) (g.S.Sink.state c.args.sink.now)
      (situation c.args.file.now c.loop.text) (situation c.args.file.now c.next_answer.new.text) c.loop.reader
      c.next_answer.new.reader (g.R.Tap.state c.loop.tap).bytes (g.R.Tap.state c.next_answer.new.tap).bytes
      (is_refused c.loop.outcome) c.in-Ok-Some.refused c.loop.pen c.next_answer.new.pen c.flush.new.self
      (g.S.Sink.state c.loop.sink) (g.S.Sink.state c.next_answer.new.sink) (g.S.Sink.state c.flush.new.sink) h
      k c.flush.ensures.adds in
      let refused = is_refused c.loop.outcome || c.in-Ok-Some.refused in
      let goes = sym c.has_stopped.ensures ∙ c.if-has_stopped.false in
      subst (λ b. IsBetween script (situation c.args.file.now c.args.text.now)
      (g.S.Sink.state c.args.sink.now) (situation c.args.file.now c.next_answer.new.text)
      c.next_answer.new.reader (g.R.Tap.state c.next_answer.new.tap).bytes b c.flush.new.self
      (g.S.Sink.state c.flush.new.sink))
      (sym c.with-outcome.ensures)
      (between script (situation c.args.file.now c.args.text.now) (g.S.Sink.state c.args.sink.now)
      (situation c.args.file.now c.next_answer.new.text) c.next_answer.new.reader
      (g.R.Tap.state c.next_answer.new.tap).bytes refused c.flush.new.self (g.S.Sink.state c.flush.new.sink)
      done goes (c.flush.ensures.empty goes)),
)

pub returns-then-has_stopped-clause-runs : goal.returns-then-has_stopped-clause-runs
returns-then-has_stopped-clause-runs g c = match_some (g.R.Tap.state c.args.tap.now).bytes _ (λ script e.
    let h = c.loop.invariant.2 script e in
    let k = subst (λ (r : Option Bool).
    GoesOn (situation c.args.file.now c.loop.text) (situation c.args.file.now c.next_answer.new.text) script
    c.next_answer.new.reader (g.R.Tap.state c.next_answer.new.tap).bytes h.given (Ok r)
    c.loop.pen (g.S.Sink.state c.loop.sink) c.next_answer.new.pen (g.S.Sink.state c.next_answer.new.sink))
    c.in-Ok-Some.field-0-is (c.in-Ok-Some.ensures.given script h.given h.reads) in
    let done = behind script (situation c.args.file.now c.args.text.now) (g.S.Sink.state c.args.sink.now)
    (situation c.args.file.now c.loop.text) (situation c.args.file.now c.next_answer.new.text) c.loop.reader
    c.next_answer.new.reader (g.R.Tap.state c.loop.tap).bytes (g.R.Tap.state c.next_answer.new.tap).bytes
    (is_refused c.loop.outcome) c.in-Ok-Some.refused c.loop.pen c.next_answer.new.pen c.flush.new.self
    (g.S.Sink.state c.loop.sink) (g.S.Sink.state c.next_answer.new.sink) (g.S.Sink.state c.flush.new.sink) h k
    c.flush.ensures.adds in
    let refused = is_refused c.loop.outcome || c.in-Ok-Some.refused in
    let stop = at_stop script (situation c.args.file.now c.args.text.now) (g.S.Sink.state c.args.sink.now)
    (situation c.args.file.now c.next_answer.new.text) c.next_answer.new.reader
    (g.R.Tap.state c.next_answer.new.tap).bytes refused c.flush.new.self (g.S.Sink.state c.flush.new.sink)
    done (sym c.has_stopped.ensures ∙ c.if-has_stopped.true) in (
      subst (λ w. IsFrontOf script
          (λ lines. HasFailed lines (script_run (situation c.args.file.now c.args.text.now)
          (situation c.args.file.now c.next_answer.new.text) (g.S.Sink.state c.args.sink.now)
          (g.S.Sink.state c.flush.new.sink)) w)) (sym c.written-then-has_stopped.ensures) stop.0,
      stop.1,
    ))

pub returns-clause-runs : goal.returns-clause-runs
returns-clause-runs g c = match_some (g.R.Tap.state c.args.tap.now).bytes _ (λ script e.
    let h = c.loop.invariant.2 script e in
    let stop = at_fault script (situation c.args.file.now c.args.text.now) (g.S.Sink.state c.args.sink.now)
    (situation c.args.file.now c.loop.text) (situation c.args.file.now c.loop.text) c.loop.reader
    (g.R.Tap.state c.loop.tap).bytes (is_refused c.loop.outcome) c.loop.pen c.loop.pen
    (g.S.Sink.state c.loop.sink) (g.S.Sink.state c.loop.sink) c.written-2.result h
    (record { session_same = refl; pen_same = refl; sink_same = refl }) c.written-2.ensures in
    (h.given, script_lines (h.reads.unread ++ h.reads.later), h.reads.lines_are, stop))

pub returns-in-Ok-None-clause-runs : goal.returns-in-Ok-None-clause-runs
returns-in-Ok-None-clause-runs g c = match_some (g.R.Tap.state c.args.tap.now).bytes _ (λ script e.
    let h = c.loop.invariant.2 script e in
    let k = subst (λ (r : Option Bool).
    GoesOn (situation c.args.file.now c.loop.text) (situation c.args.file.now c.next_answer.new.text) script
    c.next_answer.new.reader (g.R.Tap.state c.next_answer.new.tap).bytes h.given (Ok r)
    c.loop.pen (g.S.Sink.state c.loop.sink) c.next_answer.new.pen (g.S.Sink.state c.next_answer.new.sink))
    c.in-Ok-None.field-0-is (c.in-Ok-None.ensures.given script h.given h.reads) in
    let start = g.S.Sink.state c.args.sink.now in
    let now = g.S.Sink.state c.next_answer.new.sink in
    let refused = is_refused c.loop.outcome in
    let run = so_still script (situation c.args.file.now c.args.text.now) start
    (situation c.args.file.now c.loop.text) (situation c.args.file.now c.next_answer.new.text) c.loop.reader
    (g.R.Tap.state c.loop.tap).bytes refused c.loop.pen c.next_answer.new.pen (g.S.Sink.state c.loop.sink)
    now h k.1 in
    subst (λ lines. HasRun lines (script_run (situation c.args.file.now c.args.text.now)
    (situation c.args.file.now c.next_answer.new.text) start now) refused) (sym k.0) run)

pub returns-in-Err-Read-clause-runs : goal.returns-in-Err-Read-clause-runs
returns-in-Err-Read-clause-runs g c = match_some (g.R.Tap.state c.args.tap.now).bytes _ (λ script e.
    let h = c.loop.invariant.2 script e in
    let start = g.S.Sink.state c.args.sink.now in
    let now = g.S.Sink.state c.next_answer.new.sink in
    let k =
    subst (λ fault. GoesOn (situation c.args.file.now c.loop.text)
    (situation c.args.file.now c.next_answer.new.text) script c.next_answer.new.reader
    (g.R.Tap.state c.next_answer.new.tap).bytes h.given (Err fault)
    c.loop.pen (g.S.Sink.state c.loop.sink) c.next_answer.new.pen now) c.in-Err-Read.field-0-is
    (c.in-Err-Read.ensures.given script h.given h.reads) in
    let stop = at_fault script (situation c.args.file.now c.args.text.now) start
    (situation c.args.file.now c.loop.text) (situation c.args.file.now c.next_answer.new.text) c.loop.reader
    (g.R.Tap.state c.loop.tap).bytes (is_refused c.loop.outcome) c.loop.pen c.next_answer.new.pen
    (g.S.Sink.state c.loop.sink) now c.written.result h k.1 c.written.ensures in (
      k.0.0,
      k.0.1,
      subst (λ lines. HasStopped lines (script_run (situation c.args.file.now c.args.text.now)
          (situation c.args.file.now c.next_answer.new.text) start now) c.written.result) (sym k.0.2) stop,
    ))

pub returns-in-Err-NoMemory-clause-runs : goal.returns-in-Err-NoMemory-clause-runs
returns-in-Err-NoMemory-clause-runs g c = match_some (g.R.Tap.state c.args.tap.now).bytes _ (λ script e.
    let h = c.loop.invariant.2 script e in
    let k =
    subst (λ fault. GoesOn (situation c.args.file.now c.loop.text)
    (situation c.args.file.now c.next_answer.new.text) script c.next_answer.new.reader
    (g.R.Tap.state c.next_answer.new.tap).bytes h.given (Err fault)
    c.loop.pen (g.S.Sink.state c.loop.sink) c.next_answer.new.pen (g.S.Sink.state c.next_answer.new.sink))
    c.in-Err-NoMemory.field-0-is (c.in-Err-NoMemory.ensures.given script h.given h.reads) in
    let stop = at_fault script (situation c.args.file.now c.args.text.now) (g.S.Sink.state c.args.sink.now)
    (situation c.args.file.now c.loop.text) (situation c.args.file.now c.next_answer.new.text) c.loop.reader
    (g.R.Tap.state c.loop.tap).bytes (is_refused c.loop.outcome) c.loop.pen c.next_answer.new.pen
    (g.S.Sink.state c.loop.sink) (g.S.Sink.state c.next_answer.new.sink) c.written-in-Err-NoMemory.result h
    k.1 c.written-in-Err-NoMemory.ensures in
    (h.given, k.0.0, k.0.1, stop))
