use Rattle.std.proofs.Common.{◌≡◌, ℕ, List, Err, IsTrue, ap, codes, subst, ◌∙◌}
use Rattle.std.specs.Io.KnownBytes.{Appends}
use Rattle.x_compile.specs.Generated.{text_of}
use Rattle.x_session.specs.Session.{Compiles}
use Rattle.x_generating.specs.Generate.{unopened, unwritten, NotWritten}
use Rattle.x_generating.specs.Outputs.{Holds}
use Rattle.x_generating.specs.Warnings.{IsFaulty, IsGood}
use Rattle.x_generating.proofs.ClashLemmas.{clashes_so, faults_so}
use Rattle.x_opening.proofs.Passing.{faultless}
use Rattle.x_generating.proofs.rpcgen.gen_run.Goals as goal

pub returns-clause-written : goal.returns-clause-written
returns-clause-written g c done =
    let is = c.write_checked-status.ensures.written done in
    let opens = c.in-Ok.ensures.opened in
    let known = c.in-Ok.session.known in
    let before = (g.O.Opened.Sink.state is.0).bytes in
    let after = (g.O.Opened.Sink.state is.1).bytes in (
      is.0,
      is.1,
      (
        known,
        opens.known,
        subst (λ (p : List ℕ × List ℕ). Compiles known p.1
            (λ items. Appends before after (text_of c.args.which p.0 items)))
            (λ i. (opens.base i, opens.text i)) is.2,
      ),
    )

pub returns-clause-whole : goal.returns-clause-whole
returns-clause-whole g c done =
    let opens = c.in-Ok.ensures.opened in
    let known = c.in-Ok.session.known in
    let before = g.O.Output.standing c.args.output.now in
    let after = g.O.Output.standing c.write_checked-status.new.output in (
      known,
      opens.known,
      subst (λ (p : List ℕ × List ℕ). Compiles known p.1
          (λ items. Holds before after (text_of c.args.which p.0 items)))
          (λ i. (opens.base i, opens.text i)) (c.write_checked-status.ensures.whole done),
    )

pub returns-clause-good : goal.returns-clause-good
returns-clause-good g c done =
    let opens = c.in-Ok.ensures.opened in
    let session = c.in-Ok.session in
    let state = g.E.Sink.state in
    let strict = c.args.args.now.strict in
    let style = c.args.how.now.style in
    let file = c.args.args.now.file.now in
    let after = state c.write_checked-status.new.err in
    let before = state c.args.err.now in (
      session.known,
      opens.known,
      subst (λ text. Compiles session.known text (λ items. IsGood strict style file text items before after))
          opens.text
          (subst (λ old. Compiles session.known session.text
          (λ items. IsGood strict style file session.text items (state old) after))
          c.in-Ok.ensures.quiet (c.write_checked-status.ensures.good done)),
    )

pub returns-clause-faulty : goal.returns-clause-faulty
returns-clause-faulty g c e =
    let opens = c.in-Ok.ensures.opened in
    let session = c.in-Ok.session in
    let state = g.E.Sink.state in
    let strict = c.args.args.now.strict in
    let how = c.args.how.now in
    let file = c.args.args.now.file.now in
    let after = state c.write_checked-status.new.err in
    let before = state c.args.err.now in
    let told = c.write_checked-status.ensures.faulty e in (
      session.known,
      opens.known,
      subst (λ text. Compiles session.known text
          (λ items. IsFaulty strict how file text items before after)) opens.text
          (subst (λ old. Compiles session.known session.text
          (λ items. IsFaulty strict how file session.text items (state old) after)) c.in-Ok.ensures.quiet
          (clashes_so strict how file session.text _ after told.0 opens.faultless told.1)),
    )

pub returns-clause-failed : goal.returns-clause-failed
returns-clause-failed g c e =
    unwritten (faultless c.args.how.now c.args.bytes.now
    (λ more. let off = c.in-Ok.ensures.opened.too_large more in cc) c.in-Ok.ensures.opened.clean)
    (subst (λ old. NotWritten c.args.args.now (λ is_closed. (left : g.row.O-Opened.Denot)
    × IsTrue (g.O.Opened.Sink.state left).failed × (g.O.Opened.Outlet.is_closed left ≡ is_closed))
    (g.E.Sink.state old) (g.E.Sink.state c.write_checked-status.new.err)) c.in-Ok.ensures.quiet
    (c.write_checked-status.ensures.failed e))

pub returns-in-Err-clause-failed : goal.returns-in-Err-clause-failed
returns-in-Err-clause-failed g c e = unopened (c.in-Err.ensures.opened.failed (ap Err e))

pub returns-in-Err-clause-faulty : goal.returns-in-Err-clause-faulty
returns-in-Err-clause-faulty g c e =
    let state = g.E.Sink.state in
    let h = c.in-Err.ensures.opened.faulty (ap Err e) in (
      h.0,
      h.1,
      faults_so c.args.args.now.strict c.args.how.now c.args.args.now.file.now c.args.bytes.now
          (state c.args.err.now) (state c.gen_open.new.err) h.2,
    )

pub returns-clause-quiet : goal.returns-clause-quiet
returns-clause-quiet g c plain done =
    c.write_checked-status.ensures.quiet plain done ∙ c.in-Ok.ensures.quiet
