use Rattle.std.proofs.Common.{inl, subst, sym}
use Rattle.x_generating.specs.Checking.{IsChecked}
use Rattle.x_generating.proofs.Checking.{checked}
use Rattle.x_generating.proofs.rpcgen.checking.check_file.Goals as goal

pub returns-in-Ok : goal.returns-in-Ok
returns-in-Ok g c =
    let state = g.E.Sink.state in
    let after = state c.check_text.new.err in
    let text = c.check_text.ensures in
    subst (λ now. IsChecked c.args.strict c.args.how.now c.args.file.now
    (state now) after c.check_text.result) c.in-Ok.ensures.quiet
    (checked c.args.strict c.args.how.now c.args.file.now c.deref.result.now (state c.read_text.new.err) after
    c.check_text.result
    text.faulty text.clean text.failed text.good)

pub returns-in-Err : goal.returns-in-Err
returns-in-Err g c =
    subst (IsChecked c.args.strict c.args.how.now c.args.file.now (g.E.Sink.state c.args.err.now)
    (g.E.Sink.state c.read_text.new.err)) (sym c.in-Err.ensures.failed)
    (inl c.in-Err.ensures.told)
