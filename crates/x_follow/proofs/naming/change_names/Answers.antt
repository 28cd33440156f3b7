use Rattle.std.proofs.Common.{map, drop, take, ap, ◌∙◌}
use Rattle.x_trees.specs.View.{tree_at}
use Rattle.x_compile.specs.KeptView.{entry_definitions}
use Rattle.x_follow.proofs.StaleLemmas.{same_uses, short_removed, uses_of}
use Rattle.x_follow.proofs.naming.change_names.Goals as goal

pub returns-in_err-room-clause-uses : goal.returns-in_err-room-clause-uses
returns-in_err-room-clause-uses c = same_uses (entry_definitions c.args.items.now.entries.list)
    c.in_ok-uses.uses c.make_room-room.new.self c.in_ok-uses.ensures.table c.make_room-room.ensures.same

pub returns-clause-uses : goal.returns-clause-uses
returns-clause-uses c = same_uses (entry_definitions c.args.items.now.entries.list) c.in_ok-uses.uses
    c.make_room-room.new.self c.in_ok-uses.ensures.table c.make_room-room.ensures.same

pub returns-clause-change : goal.returns-clause-change
returns-clause-change c =
    let p = c.args.patch.now in
    let ds = entry_definitions c.args.items.now.entries.list in
    record {
      at = c.at.ensures;
      removed = c.removed.ensures;
      added = c.len.ensures;
      gone = uses_of (map tree_at c.deref.result.now) (take p.removed (drop p.at ds)) c.in_ok-gone.gone
          (ap (map tree_at) c.deref.ensures.value ∙ c.in_ok-removed_definitions.ensures)
          (short_removed ds p.at p.removed c.requires.short)
          c.in_ok-gone.ensures;
      fresh = uses_of (map tree_at c.args.put.now) (entry_definitions p.fresh) c.in_ok-fresh.fresh
          c.requires.put c.requires.short_fresh c.in_ok-fresh.ensures;
    }
