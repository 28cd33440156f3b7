use Rattle.std.proofs.Common.{arith}
use Rattle.x_uses.proofs.Follows.{room_stays, room_numbered, table_follows}
use Rattle.x_uses.proofs.uses.replacing.replace_in.Goals as goal

pub put_in_each-requires : goal.put_in_each-requires
put_in_each-requires c =
    room_numbered c.args.place c.take_out_each.new.table.entries c.renumber.new.table.entries
    c.args.fresh.now.entries c.renumber.ensures.same c.renumber.ensures.moved
    (room_stays c.args.place (omega arith) c.args.table.now.entries c.take_out_each.new.table.entries
    c.args.gone.now.entries c.args.fresh.now.entries c.take_out_each.ensures c.requires)

pub returns : goal.returns
returns c old put is_old is_gone is_put within added few =
    let room = room_numbered c.args.place c.take_out_each.new.table.entries c.renumber.new.table.entries
    c.args.fresh.now.entries c.renumber.ensures.same c.renumber.ensures.moved
    (room_stays c.args.place (omega arith) c.args.table.now.entries c.take_out_each.new.table.entries
    c.args.gone.now.entries c.args.fresh.now.entries c.take_out_each.ensures c.requires)
    in
    table_follows c.args.place c.args.table.now.entries c.take_out_each.new.table.entries
    c.renumber.new.table.entries c.put_in_each.new.table.entries c.forget_each.new.table.entries
    c.args.gone.now.entries c.args.fresh.now.entries c.take_out_each.ensures c.renumber.ensures.same
    c.renumber.ensures.moved room c.put_in_each.ensures c.forget_each.ensures old put is_old is_gone is_put
    (record { within = within; added_is = added; few = few })
