use Rattle.std.proofs.Common.{map, ap, ◌∙◌}
use Rattle.x_uses.specs.Occurrences.{declarer_of}
use Rattle.x_uses.specs.Slots.{first_of}
use Rattle.x_uses.proofs.SeenLists.{front_seen}
use Rattle.x_uses.proofs.uses.table.first_before.Goals as goal

pub returns : goal.returns
returns c = c.first_of.ensures ∙ ap (λ l. first_of (map declarer_of l)) c.count_below.ensures.front
    ∙ ap first_of (front_seen c.args.bound c.args.declarers.now)
