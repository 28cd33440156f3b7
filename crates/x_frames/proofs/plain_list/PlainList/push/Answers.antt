use Rattle.x_frames.proofs.JsonLemmas.{plain_pushed}
use Rattle.x_frames.proofs.plain_list.PlainList.push.Goals as goal

pub invariant_of-self : goal.invariant_of-self
invariant_of-self c = record {
  plain = plain_pushed c.push.result c.args.self.now.values.items c.push.new.list.items c.args.value
      c.push.ensures.ok c.push.ensures.err c.args.self.now.plain c.requires;
}
