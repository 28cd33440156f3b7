use Rattle.std.proofs.Common.{sym, subst}
use Rattle.x_args.specs.Telling.{IsTold}
use Rattle.x_opening.specs.Opened.{TellsBy, told_faults}
use Rattle.x_opening.proofs.opening.tell_all_faults.Goals as goal

pub returns-in-Plain-clause-told : goal.returns-in-Plain-clause-told
returns-in-Plain-clause-told g c =
    let before = g.E.Sink.state c.args.err.now in
    let after = g.E.Sink.state c.tell_faults.new.err in
    let all = c.faults.ensures in
    let told = subst (λ fs. IsTold before after (told_faults c.args.file.now fs)) all.3
    c.tell_faults.ensures in (
      all.0,
      all.1,
      all.2,
      subst (λ s. TellsBy s c.args.how.now c.args.file.now c.args.session.now.text all.1 before after)
          (sym c.in-Plain.is) told,
    )
