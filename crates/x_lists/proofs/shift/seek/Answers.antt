use Rattle.x_lists.proofs.SeqLemmas.{turned}
use Rattle.x_lists.proofs.shift.seek.Goals as goal

pub returns-then-seat-place-clause-entries : goal.returns-then-seat-place-clause-entries
returns-then-seat-place-clause-entries g c = turned c.shift.new.from.items c.shift.new.onto.items
    c.args.rear.now.items c.args.front.now.items c.shift.ensures.entries
