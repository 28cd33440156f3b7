use Rattle.x_compile.proofs.KeepingLemmas.{kept_with, with_at}
use Rattle.x_follow.proofs.placing.keep_at.Goals as goal

pub returns-clause-put : goal.returns-clause-put
returns-clause-put c =
    with_at c.args.items.now.list c.exchange-kept.new.self.list c.exchange-back.new.self.list c.args.index
    c.exchange-kept.result.0 c.default.result c.keep.new.self c.args.found c.exchange-kept.ensures.out
    c.exchange-kept.ensures.counts c.exchange-kept.ensures.bytes c.exchange-kept.ensures.kept
    c.exchange-back.ensures.counts c.exchange-back.ensures.bytes c.exchange-back.ensures.kept
    (kept_with c.exchange-kept.result.0 c.keep.new.self c.args.found c.keep.ensures.parse c.keep.ensures.lines
    c.keep.ensures.result c.keep.ensures.pieces c.keep.ensures.marked)
