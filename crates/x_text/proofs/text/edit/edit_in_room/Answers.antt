use Rattle.x_text.specs.Edits.{change_of}
use Rattle.x_text.proofs.Edits.{closed}
use Rattle.x_text.proofs.text.edit.edit_in_room.Goals as goal

pub returns-then-at-edit : goal.returns-then-at-edit
returns-then-at-edit c =
    closed (change_of c.args.bytes.now.items c.args.edit.now) c.write_over.new.bytes.items
    c.close_gap.new.bytes.items c.split_at.result.0.now c.min-over.result
    c.requires.within c.if-at-edit.true c.min-over.ensures c.split_at.ensures.front c.write_over.ensures.items
    c.close_gap.ensures
