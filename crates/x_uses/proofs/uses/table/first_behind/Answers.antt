use Rattle.std.proofs.Common.{map, ap, ◌∙◌}
use Rattle.x_uses.specs.Occurrences.{declarer_of}
use Rattle.x_uses.specs.Slots.{first_of}
use Rattle.x_uses.proofs.SeenLists.{rear_seen, rest_of}
use Rattle.x_uses.proofs.uses.table.first_behind.Goals as goal

pub returns : goal.returns
returns c =
    c.first_of.ensures ∙ ap (λ l. first_of (map declarer_of l))
    (rest_of c.count_below.result c.args.declarers.now ∙ c.count_below.ensures.rear)
    ∙ ap first_of (rear_seen c.args.bound c.args.declarers.now)
