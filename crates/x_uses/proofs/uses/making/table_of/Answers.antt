use Rattle.x_uses.proofs.TableOf.{declarers_next, users_next, short_item}
use Rattle.x_uses.proofs.uses.making.table_of.Goals as goal

pub loop-index-preserved : goal.loop-index-preserved
loop-index-preserved c =
    let all = c.args.definitions.now in
    let at = c.loop-index.index in
    let here = c.index-definitions-index.result in
    let same = c.in-Ok.ensures.1 in
    record {
      declarers = λ short name. declarers_next c.loop-index.table.entries c.add_item.new.table.entries
          c.in-Ok.item at all here c.loop-index-test.true c.index-definitions-index.is same
          (c.in_ok-add_item.ensures (short_item all at here c.loop-index-test.true
          c.index-definitions-index.is short)) (c.loop-index.invariant.declarers short) name;
      users = λ short name. users_next c.loop-index.table.entries c.add_item.new.table.entries c.in-Ok.item at
          all here c.loop-index-test.true c.index-definitions-index.is same
          (c.in_ok-add_item.ensures (short_item all at here c.loop-index-test.true
          c.index-definitions-index.is short)) (c.loop-index.invariant.users short) name;
    }
