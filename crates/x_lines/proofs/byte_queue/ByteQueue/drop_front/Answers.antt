use Rattle.std.proofs.Common.{◌≤◌, ◌∙◌, length, drop, sym, ap, subst, slice_range}
use Rattle.x_lines.proofs.QueueLemmas.{fewer}
use Rattle.x_lines.proofs.byte_queue.ByteQueue.drop_front.Goals as goal

pub returns : goal.returns
returns c =
    let held = slice_range c.self.inside.buffer.items c.self.inside.start c.self.inside.end in
    fewer c.self.inside.buffer.items c.self.inside.start c.self.inside.end c.args.count c.self.invariant.0
    (subst (λ l. c.args.count ≤ length l) (sym c.self.view_is) c.requires)
    ∙ ap (drop c.args.count) c.self.view_is
