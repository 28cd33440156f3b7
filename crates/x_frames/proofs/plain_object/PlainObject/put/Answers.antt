use Rattle.x_frames.proofs.JsonLemmas.{plain_stored}
use Rattle.x_frames.proofs.plain_object.PlainObject.put.Goals as goal

pub invariant_of-self : goal.invariant_of-self
invariant_of-self c = record {
  plain = plain_stored c.put.result c.args.self.now.members.entries c.put.new.map.entries c.args.key.now
      c.args.value c.put.ensures.ok c.put.ensures.err c.args.self.now.plain c.requires;
}
