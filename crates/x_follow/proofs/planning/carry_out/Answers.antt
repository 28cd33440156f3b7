use Rattle.std.proofs.Common.{arith}
use Rattle.x_follow.proofs.planning.carry_out.Goals as goal

pub returns-clause-uses : goal.returns-clause-uses
returns-clause-uses c =
    let small = c.len-2.ensures.small in
    let count = c.len-2.ensures.count in
    c.carry_out.ensures c.args.items.now.entries.list c.args.plan.items c.requires.room.items.among
    (omega (arith, small, count)) c.requires.room.items.of_text c.requires.room.names c.requires.uses
