use Rattle.std.proofs.Common.{map, subst}
use Rattle.x_generating.specs.Checking.{AreChecked}
use Rattle.x_generating.proofs.Checking.{checks_all, checks_next, checks_none}
use Rattle.x_generating.proofs.rpcgen.checking.check_run.Goals as goal

pub loop-file-init : goal.loop-file-init
loop-file-init g c = checks_none c.args.args.now.strict c.args.how.now (g.E.Sink.state c.args.err.now)

pub loop-file-preserved : goal.loop-file-preserved
loop-file-preserved g c =
    let state = g.E.Sink.state in
    checks_next c.args.args.now.strict c.args.how.now c.deref-file-items.result.now c.loop-file.file-index _
    (state c.args.err.now) (state c.loop-file.err)
    (state c.begin_file.new.self) (state c.check_file.new.err) c.loop-file.status c.check_file.result
    c.worse-status.result
    c.loop-file-test.true c.loop-file.invariant c.begin_file.ensures c.check_file.ensures
    c.worse-status.ensures.worse

pub returns : goal.returns
returns g c =
    let strict = c.args.args.now.strict in
    let how = c.args.how.now in
    let before = g.E.Sink.state c.args.err.now in
    let after = g.E.Sink.state c.loop-file.err in
    let all = checks_all strict how c.deref-file-items.result.now c.loop-file.file-index before after
    c.loop-file.status c.loop-file-test.false c.loop-file.invariant in
    subst (λ files. AreChecked strict how (map (λ f. f.now) files) before after c.loop-file.status)
    c.deref-file-items.ensures.value all
