use Rattle.std.proofs.Common.{sym}
use Rattle.x_frames.proofs.FrameLemmas.{unnamed}
use Rattle.x_frames.proofs.head.is_named.Goals as goal

pub returns-then-name-wanted : goal.returns-then-name-wanted
returns-then-name-wanted c = sym (unnamed c.args.name.now c.args.wanted.now c.if-name-wanted.true)
