use Rattle.std.proofs.Common.{ℕ, Bool, Option, Result, Err, List, Ok, refl, sym, ap, subst, ◌∙◌}
use Rattle.x_script.specs.Answers.{refused_by}
use Rattle.x_script.specs.LineAnswers.{too_long}
use Rattle.x_script.specs.declared.script.refusal.LineRefusal.TheVariants.{LongLine}
use Rattle.x_lines.specs.declared.lines.LineFault.{LineFault}
use Rattle.x_lines.specs.declared.lines.LineEvent.TheVariants.{Line, TooLong, End}
use Rattle.x_script.specs.Script.{IsGiven, LineAnswers, GoesOn}
use Rattle.x_script.specs.Situations.{situation}
use Rattle.std.proofs.lemmas.Result.{err_from_is_err_and}
use Rattle.x_script.proofs.Scripts.{has_read, line_given, all_given, found_as, stops_behind, before_line}
use Rattle.x_script.proofs.Scripts.{before_long, before_fault}
use Rattle.x_script.proofs.script.next_answer.Goals as goal

pub returns-in-End-clause-given : goal.returns-in-End-clause-given
returns-in-End-clause-given g c script given h =
    let left = (g.R.Tap.state c.next.new.tap).bytes in
    let read = has_read script given c.args.reader.now c.next.new.self (g.R.Tap.state c.args.tap.now).bytes
    left c.next.result h c.next.ensures.lines in
    let told = found_as script given c.args.reader.now c.next.new.self left c.next.result End read
    (c.in_ok-next.was ∙ ap Ok c.in-End.is) in (
      all_given script given read.text read.later read.lines_are told.0 told.3,
      record { session_same = refl; pen_same = refl; sink_same = refl },
    )

pub returns-in-TooLong-clause-given : goal.returns-in-TooLong-clause-given
returns-in-TooLong-clause-given g c script given h =
    let left = (g.R.Tap.state c.next.new.tap).bytes in
    let read = has_read script given c.args.reader.now c.next.new.self (g.R.Tap.state c.args.tap.now).bytes
    left c.next.result h c.next.ensures.lines in
    let told = found_as script given c.args.reader.now c.next.new.self left c.next.result TooLong read
    (c.in_ok-next.was ∙ ap Ok c.in-TooLong.is) in
    let text = c.args.text.now.session.text in
    let a = refused_by text LongLine in (
      told.0,
      line_given script given c.args.reader.now c.next.new.self left c.next.result told.0 read
          (before_long c.args.reader.now.state c.next.result c.next.ensures.ended
          (c.in_ok-next.was ∙ ap Ok c.in-TooLong.is)) told.2,
      (
        a,
        too_long told.1 refl,
        record {
          added = c.add_line.ensures;
          refused_is = refl;
          session_is = record { text_is = refl; how_is = refl };
        },
      ),
    )

pub returns-in-Ok-clause-given : goal.returns-in-Ok-clause-given
returns-in-Ok-clause-given g c script given h =
    let left = (g.R.Tap.state c.next.new.tap).bytes in
    let read = has_read script given c.args.reader.now c.next.new.self (g.R.Tap.state c.args.tap.now).bytes
    left c.next.result h c.next.ensures.lines in
    let told = found_as script given c.args.reader.now c.next.new.self left c.next.result Line read
    (c.in_ok-next.was ∙ ap Ok c.in-Line.is) in
    let old = situation c.args.file.now c.args.text.now in
    let new = situation c.args.file.now c.answer_line.new.text in
    let is_given : List ℕ → Type 0 =
    λ line. LineAnswers old.how old.text line (λ a. IsGiven a old new c.in-Ok.refused
    c.args.pen.now (g.S.Sink.state c.args.sink.now) c.answer_line.new.pen
    (g.S.Sink.state c.answer_line.new.sink)) in (
      c.next.new.self.line,
      line_given script given c.args.reader.now c.next.new.self left c.next.result c.next.new.self.line read
          (before_line c.args.reader.now.state c.next.result c.next.ensures.ended
          (c.in_ok-next.was ∙ ap Ok c.in-Line.is)) told.1,
      subst is_given c.line.ensures.line c.in-Ok.ensures.given,
    )

pub returns-in_err-next-clause-given : goal.returns-in_err-next-clause-given
returns-in_err-next-clause-given g c script given h =
    let left = (g.R.Tap.state c.next.new.tap).bytes in
    let read = has_read script given c.args.reader.now c.next.new.self (g.R.Tap.state c.args.tap.now).bytes
    left c.next.result h c.next.ensures.lines in
    let fault = c.in_err-next.field-0.0 in
    let p = err_from_is_err_and c.from_residual.result c.from_residual.ensures.1 in
    let stops = stops_behind script given c.args.reader.now c.next.new.self left c.next.result fault read
    (before_fault c.args.reader.now.state c.next.result fault c.next.ensures.ended c.in_err-next.was)
    c.in_err-next.was in
    let gives : Result (Option Bool) LineFault → Type 0 =
    λ r. GoesOn (situation c.args.file.now c.args.text.now) (situation c.args.file.now c.args.text.now) script
    c.next.new.self left given r
    c.args.pen.now (g.S.Sink.state c.args.sink.now) c.args.pen.now (g.S.Sink.state c.args.sink.now) in
    subst gives (sym (p.1 ∙ ap Err p.2))
    (stops, record { session_same = refl; pen_same = refl; sink_same = refl })
