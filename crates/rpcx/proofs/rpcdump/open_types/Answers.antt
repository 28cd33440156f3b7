use Rattle.std.proofs.Common.{Ok, inr, codes, subst}
use Rattle.x_session.specs.Session.{Compiles}
use Rattle.x_session.specs.Typed.{GivesSchema}
use Rattle.rpcx.specs.Dumping.{Opens}
use Rattle.x_args.specs.Telling.{IsTold}
use Rattle.x_opening.proofs.Passing.{faultless, passed_on}
use Rattle.rpcx.proofs.Dumping.{has_types, not_opened}
use Rattle.rpcx.proofs.rpcdump.open_types.Goals as goal

pub returns-in_err-session-clause-opens : goal.returns-in_err-session-clause-opens
returns-in_err-session-clause-opens g c =
    let before = g.E.Sink.state c.args.err.now in
    let after = g.E.Sink.state c.open_text.new.err in
    let h = c.in_err-session.ensures.opened in
    passed_on (Opens c.args.how.now c.args.file.now c.args.text.now before after) c.from_residual.result
    c.in_err-session.field-0.0 c.from_residual.ensures.1
    (not_opened c.args.how.now c.args.file.now c.args.text.now before after c.in_err-session.field-0.0
    h.faulty h.too_large h.failed h.others)

pub returns-in-Ok-clause-opens : goal.returns-in-Ok-clause-opens
returns-in-Ok-clause-opens g c =
    let opens = c.in_ok-session.ensures.opened in
    let known = c.in_ok-session.session.known in
    has_types c.args.how.now c.args.text.now c.in-Ok.schema known
    (λ more. let off = opens.too_large more in cc) opens.known
    (subst (λ text. Compiles known text (λ items. GivesSchema known text items (Ok c.in-Ok.schema)))
    opens.text c.in-Ok.ensures)

pub returns-in-Err-clause-opens : goal.returns-in-Err-clause-opens
returns-in-Err-clause-opens g c =
    inr (
      faultless c.args.how.now c.args.text.now
          (λ more. let off = c.in_ok-session.ensures.opened.too_large more in cc)
          c.in_ok-session.ensures.opened.clean,
      subst (λ e. IsTold (g.E.Sink.state e) (g.E.Sink.state c.tell_of_file.new.err)
          (codes "rpcdump: out of memory\n")) c.in_ok-session.ensures.quiet c.tell_of_file.ensures,
    )
