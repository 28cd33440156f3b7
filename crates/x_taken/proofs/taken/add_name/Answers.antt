use Rattle.x_taken.proofs.taken.add_name.Goals as goal

pub returns : goal.returns
returns c other = c.in_ok-insert.ensures.updates.0 (record c.args.name { now = other })
