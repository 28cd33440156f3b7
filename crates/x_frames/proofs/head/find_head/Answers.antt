use Rattle.x_frames.proofs.FrameLemmas.{long_head}
use Rattle.x_frames.proofs.head.find_head.Goals as goal

pub returns-then-bytes-gt-MOST_HEAD : goal.returns-then-bytes-gt-MOST_HEAD
returns-then-bytes-gt-MOST_HEAD c =
    let none = rw c.in-Ok-Partial.field-0-is at c.in-Ok-Partial.ensures.partial in
    long_head c.args.bytes.now none c.if-bytes-gt-MOST_HEAD.true
