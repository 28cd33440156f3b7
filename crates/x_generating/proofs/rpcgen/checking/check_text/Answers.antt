use Rattle.std.proofs.Common.{Err, ap, subst}
use Rattle.x_session.specs.Session.{Compiles}
use Rattle.x_generating.specs.Warnings.{IsFaulty, IsGood}
use Rattle.x_generating.proofs.ClashLemmas.{clashes_so, faults_so}
use Rattle.x_generating.proofs.rpcgen.checking.check_text.Goals as goal

pub returns-in-Ok-clause-good : goal.returns-in-Ok-clause-good
returns-in-Ok-clause-good g c done =
    let opens = c.in-Ok.ensures.opened in
    let session = c.in-Ok.session in
    let state = g.E.Sink.state in
    let strict = c.args.strict in
    let style = c.args.how.now.style in
    let file = c.args.file.now in
    let after = state c.warn.new.err in
    let before = state c.args.err.now in (
      session.known,
      opens.known,
      subst (λ text. Compiles session.known text (λ items. IsGood strict style file text items before after))
          opens.text
          (subst (λ old. Compiles session.known session.text
          (λ items. IsGood strict style file session.text items (state old) after))
          c.in-Ok.ensures.quiet (c.warn.ensures.good done)),
    )

pub returns-in-Ok-clause-faulty : goal.returns-in-Ok-clause-faulty
returns-in-Ok-clause-faulty g c e =
    let opens = c.in-Ok.ensures.opened in
    let session = c.in-Ok.session in
    let state = g.E.Sink.state in
    let strict = c.args.strict in
    let how = c.args.how.now in
    let file = c.args.file.now in
    let after = state c.warn.new.err in
    let before = state c.args.err.now in
    let told = c.warn.ensures.faulty e in (
      session.known,
      opens.known,
      subst (λ text. Compiles session.known text
          (λ items. IsFaulty strict how file text items before after)) opens.text
          (subst (λ old. Compiles session.known session.text
          (λ items. IsFaulty strict how file session.text items (state old) after)) c.in-Ok.ensures.quiet
          (clashes_so strict how file session.text _ after told.0 opens.faultless told.1)),
    )

pub returns-in-Err-clause-faulty : goal.returns-in-Err-clause-faulty
returns-in-Err-clause-faulty g c e =
    let state = g.E.Sink.state in
    let h = c.in-Err.ensures.opened.faulty (ap Err e) in (
      h.0,
      h.1,
      faults_so c.args.strict c.args.how.now c.args.file.now c.args.bytes.now (state c.args.err.now)
          (state c.gen_open.new.err) h.2,
    )

pub returns-in-Err-clause-failed : goal.returns-in-Err-clause-failed
returns-in-Err-clause-failed g c e = c.in-Err.ensures.opened.failed (ap Err e)
