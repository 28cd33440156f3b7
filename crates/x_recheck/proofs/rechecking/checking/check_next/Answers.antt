use Rattle.std.proofs.Common.{arith, sym, ◌∙◌}
use Rattle.x_recheck.specs.inside.Deciding.{text_edit, is_waiting}
use Rattle.x_recheck.proofs.NextLemmas.{ready_after, ready_end, ready_to}
use Rattle.x_recheck.proofs.rechecking.checking.check_next.Goals as goal

pub returns-in_default-clause-turned : goal.returns-in_default-clause-turned
returns-in_default-clause-turned g c =
    ready_end (text_edit g.L.CheckedItems.text c.args.items.now) c.args.queue.now c.args.rechecked.now.items
    c.args.low c.requires.items.edit c.requires.ready c.in_default.ensures.none

pub returns-clause-turned : goal.returns-clause-turned
returns-clause-turned g c =
    let e = text_edit g.L.CheckedItems.text c.args.items.now in
    let queue = c.args.queue.now in
    let rechecked = c.args.rechecked.now.items in
    let item = c.in-Some.item in
    let popped = c.in-Some.ensures in
    let ready = c.requires.ready in
    let at = ready.range item popped.waited in (
      at.0,
      at.1,
      ready_after e queue c.pop_first.new.self c.decide.new.queue rechecked c.decide.new.rechecked.items
          c.args.low item c.requires.items.edit ready popped.waited popped.least popped.kept popped.out
          c.in_ok-decide.ensures.adds
          (λ after are. c.in_ok-decide.ensures.decided after (is_waiting queue) are
          (ready_to e queue rechecked c.args.low item c.requires.items.edit ready popped.waited
          popped.least after are)
          (λ k lt rests. sym (popped.kept k (λ same. omega (arith, same, lt))) ∙ rests)),
    )
