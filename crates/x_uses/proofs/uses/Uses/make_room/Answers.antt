use Rattle.std.proofs.lemmas.Result.{on_ok_weaker}
use Rattle.x_uses.proofs.TableLemmas.{lists_seen, room_seen}
use Rattle.x_uses.proofs.uses.Uses.make_room.Goals as goal

pub returns-clause-same : goal.returns-clause-same
returns-clause-same c = lists_seen c.self.inside.table.entries c.make_room_in.new.table.entries
    c.args.self.now c.self.view_is c.make_room_in.ensures.same

pub returns-clause-room : goal.returns-clause-room
returns-clause-room c =
    on_ok_weaker c.make_room_in.result
    (λ room. room_seen c.make_room_in.new.table.entries c.fresh.inside.table.entries c.args.fresh.now
    c.fresh.view_is room) c.make_room_in.ensures.room
