use Rattle.std.proofs.Common.{◌∙◌, [], codes, map, refl, sym, subst, true}
use Rattle.std.specs.Prelude.{IfErr}
use Rattle.x_args.specs.Telling.{IsTold, told_of}
use Rattle.x_opening.specs.Opened.{NotKnown, no_room}
use Rattle.x_opening.specs.Opening.{AreRead}
use Rattle.x_opening.proofs.Before.{not_known, not_read, on_ok, opened_parts, reads_all, reads_more}
use Rattle.x_opening.proofs.Passing.{passed_on}
use Rattle.x_opening.proofs.known.KnownSources.read.Goals as goal

pub returns-in_err-bytes-clause-told : goal.returns-in_err-bytes-clause-told
returns-in_err-bytes-clause-told g c =
    let state = g.E.Sink.state in
    let style = c.args.style in
    let program = c.args.program.now in
    let after = state c.read_text.new.err in
    let error = c.in_err-bytes.ensures in
    passed_on (λ r. IfErr r (NotKnown style program (state c.args.err.now) after)) c.from_residual.result
    c.in_err-bytes.field-0.0 c.from_residual.ensures.1
    (not_read style program _ state c.args.err.now c.loop-name.err after c.in_err-bytes.field-0.0
    c.loop-name.invariant.0 error.failed error.told)

pub returns-in_err-session-clause-told : goal.returns-in_err-session-clause-told
returns-in_err-session-clause-told g c =
    let state = g.E.Sink.state in
    let style = c.args.style in
    let program = c.args.program.now in
    let after = state c.open.new.err in
    passed_on (λ r. IfErr r (NotKnown style program (state c.args.err.now) after))
    c.from_residual-in_err-session.result c.in_err-session.field-0.0 c.from_residual-in_err-session.ensures.1
    (not_known style c.loop-name.known _ program _ c.deref.result.now state c.args.err.now
    c.read_text.new.err after
    c.in_err-session.field-0.0 (c.in_ok-bytes.ensures.quiet ∙ c.loop-name.invariant.0)
    c.in_err-session.ensures.opened)

pub returns-then-is_err-clause-told : goal.returns-then-is_err-clause-told
returns-then-is_err-clause-told g c =
    let state = g.E.Sink.state in
    let quiet = c.in_ok-session.ensures.quiet ∙ c.in_ok-bytes.ensures.quiet ∙ c.loop-name.invariant.0 in
    no_room (subst (λ e. IsTold (state e) (state c.tell_of_file.new.err)
    (told_of c.args.program.now (codes "out of memory"))) quiet c.tell_of_file.ensures)

pub loop-name-preserved : goal.loop-name-preserved
loop-name-preserved g c =
    let parts = opened_parts c.args.style c.loop-name.known _ c.args.program.now _ c.deref.result.now _ _
    c.in_ok-session.session c.in_ok-session.ensures.opened in
    let added = sym c.is_err.ensures.value ∙ c.if-is_err.false in (
      c.in_ok-session.ensures.quiet ∙ c.in_ok-bytes.ensures.quiet ∙ c.loop-name.invariant.0,
      reads_more _ c.deref-name-items.result.now c.loop-name.name-index _ c.loop-name.known c.add.new.self _ _
          c.loop-name-test.true
          c.loop-name.invariant.1 refl parts.0 parts.1 (parts.2 ∙ c.deref.ensures.value
          ∙ sym c.deref-in-loop-name.ensures.value) (on_ok c.add.result added c.add.ensures.files)
          (on_ok c.add.result added c.add.ensures.text),
    )

pub returns-clause-read : goal.returns-clause-read
returns-clause-read g c =
    let options = c.args.options.now in
    let known = c.loop-name.known in
    subst (λ f. AreRead f [] true (map (λ n. n.now) options.known.items) known.files.items known.text.items
    known.is_plain)
    c.from_options-from_c.ensures
    (subst (λ ns. AreRead c.from_options-from_c.result [] true (map (λ n. n.now) ns) known.files.items
    known.text.items known.is_plain)
    c.deref-name-items.ensures.value
    (reads_all _ c.deref-name-items.result.now c.loop-name.name-index known c.loop-name-test.false
    c.loop-name.invariant.1))
