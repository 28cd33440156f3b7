use Rattle.x_pieces.proofs.stubs.add_kept.Goals as goal

pub returns : goal.returns
returns c = rw c.kept_type.ensures at c.add.ensures
