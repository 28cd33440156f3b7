use Rattle.x_compile.proofs.KeepingLemmas.{kept_with, with_at}
use Rattle.x_follow.proofs.placing.keep_fresh.Goals as goal

pub returns-clause-put : goal.returns-clause-put
returns-clause-put c =
    with_at c.args.patch.now.fresh c.exchange-kept.new.self.fresh c.exchange.new.self.fresh c.args.index
    c.exchange-kept.result c.default.result c.keep.new.self c.args.found c.exchange-kept.ensures.out
    c.exchange-kept.ensures.counts c.exchange-kept.ensures.bytes c.exchange-kept.ensures.kept
    c.exchange.ensures.counts c.exchange.ensures.bytes c.exchange.ensures.kept
    (kept_with c.exchange-kept.result c.keep.new.self c.args.found c.keep.ensures.parse c.keep.ensures.lines
    c.keep.ensures.result c.keep.ensures.pieces c.keep.ensures.marked)
