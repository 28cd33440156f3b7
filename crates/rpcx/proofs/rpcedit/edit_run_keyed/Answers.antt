use Rattle.std.proofs.Common.{refl, subst, ◌∙◌, codes}
use Rattle.x_explain.specs.KnownFiles.{places_of_files}
use Rattle.x_prelude.specs.declared.followed.FollowedText.{FollowedText}
use Rattle.rpcx.specs.Course.{course}
use Rattle.rpcx.specs.Editing.{IsStopped, found_over, stopped, unopened}
use Rattle.x_opening.specs.Opened.{NoRoom}
use Rattle.rpcx.proofs.Editing.{answers_by, found_is, opened_fits}
use Rattle.x_opening.proofs.Unopened.{not_opened}
use Rattle.rpcx.proofs.rpcedit.edit_run_keyed.Goals as goal

pub returns-clause-answers : goal.returns-clause-answers
returns-clause-answers g c =
    let how = c.args.how.now in
    let file = c.args.args.now.file.now in
    let bytes = c.args.bytes.now in
    let places = places_of_files c.in-Ok-places.places.list.items in
    let t = c.in-Ok.text in
    let h = c.in-Ok.ensures in
    answers_by how (g.I.Tap.state c.args.input.now).bytes file bytes places (found_over how file places t)
    (g.O.Sink.state c.args.out.now) (g.O.Sink.state c.answer_over-status.new.out) c.answer_over-status.result
    c.in-Ok-places.ensures
    (found_is how file bytes places t (h.base ∙ c.base_of_file.ensures) h.files h.from_c h.text)
    c.answer_over-status.ensures.answers

pub returns-clause-failed : goal.returns-clause-failed
returns-clause-failed g c e =
    let how = c.args.how.now in
    let file = c.args.args.now.file.now in
    let bytes = c.args.bytes.now in
    let places = places_of_files c.in-Ok-places.places.list.items in
    let t = c.in-Ok.text in
    let h = c.in-Ok.ensures in
    let run = course (g.I.Tap.state c.args.input.now) (g.I.Tap.state c.answer_over-status.new.input)
    (g.O.Sink.state c.args.out.now) (g.O.Sink.state c.answer_over-status.new.out) in
    let is_closed = g.O.Outlet.is_closed c.answer_over-status.new.out in
    let before = g.E.Sink.state c.args.err.now in
    let after = g.E.Sink.state c.answer_over-status.new.err in
    stopped (opened_fits bytes t h.too_large) (
      places,
      c.in-Ok-places.ensures,
      subst (λ s. IsStopped s run is_closed before after)
          (found_is how file bytes places t (h.base ∙ c.base_of_file.ensures) h.files h.from_c h.text)
          (c.answer_over-status.ensures.stopped e),
    )

pub returns-in_default-clause-failed : goal.returns-in_default-clause-failed
returns-in_default-clause-failed g c e =
    unopened (NoRoom (opened_fits c.args.bytes.now c.in-Ok.text c.in-Ok.ensures.too_large)
    c.tell_unopened-in_default.ensures) (record { unread = refl; unwritten = refl })

pub returns-in-Err-clause-failed : goal.returns-in-Err-clause-failed
returns-in-Err-clause-failed g c e =
    let fault = c.in-Err.ensures in
    unopened (not_opened FollowedText c.args.how.now (codes "rpcedit") c.args.args.now.file.now
    c.args.bytes.now
    (g.E.Sink.state c.args.err.now) (g.E.Sink.state c.tell_unopened.new.err)
    c.in-Err.fault fault.too_large fault.large fault.in_range c.tell_unopened.ensures)
    (record { unread = refl; unwritten = refl })
