use Rattle.std.proofs.Common.{ℕ, List, subst}
use Rattle.rpcx.specs.Dumping.{Opens}
use Rattle.x_opening.proofs.Passing.{now_or}
use Rattle.rpcx.proofs.rpcdump.open_schema.Goals as goal

pub returns-clause-opens : goal.returns-clause-opens
returns-clause-opens g c =
    let file = now_or c.args.args.now.schema _ c.unwrap_or-file.result c.unwrap_or-file.ensures in
    let text = now_or c.args.text _ c.unwrap_or.result c.unwrap_or.ensures in
    subst (λ (p : List ℕ × List ℕ). Opens c.args.how.now p.0 p.1 (g.E.Sink.state c.args.err.now)
    (g.E.Sink.state c.open_types.new.err) c.open_types.result)
    (λ i. (file i, text i)) c.open_types.ensures.opens
