use Rattle.x_lines.proofs.ReadingLemmas.{far_front}
use Rattle.x_lines.proofs.lines.line_end.Goals as goal

pub returns-then-len-gt-LONGEST : goal.returns-then-len-gt-LONGEST
returns-then-len-gt-LONGEST c bytes left h = far_front bytes c.args.len c.if-len-gt-LONGEST.true h
