use Rattle.x_trees.specs.Words.{Fixed}
use Rattle.x_parser.proofs.ReadLemmas.{not_mark, read_first, takes_mark, stuck_other}
use Rattle.x_parser.proofs.words.expect.Goals as goal

pub returns-then-is_mark-clause-read : goal.returns-then-is_mark-clause-read
returns-then-is_mark-clause-read c =
    read_first (Fixed c.args.mark) c.in_ok-word.ensures.word (c.is_mark.ensures.0 c.if-is_mark.true)
    (takes_mark c.args.mark)

pub returns-clause-stuck : goal.returns-clause-stuck
returns-clause-stuck c =
    stuck_other _ c.in_ok-word.ensures.word (not_mark c.is_mark.ensures c.if-is_mark.false) c.stuck_at.ensures
