use Rattle.std.proofs.Common.{sym, ◌∙◌}
use Rattle.x_parser.proofs.ReadLemmas.{not_mark, split_first, split_other, split_none}
use Rattle.x_parser.proofs.words.strip_mark.Goals as goal

pub returns-then-is_mark-clause-some : goal.returns-then-is_mark-clause-some
returns-then-is_mark-clause-some c =
    split_first c.in-Some.ensures.some (sym c.of.ensures ∙ c.is_mark.ensures.0 c.if-is_mark.true)

pub returns-else-is_mark-clause-none : goal.returns-else-is_mark-clause-none
returns-else-is_mark-clause-none c =
    let other = not_mark c.is_mark.ensures c.if-is_mark.false in
    split_other c.in-Some.ensures.some (λ is. other (c.of.ensures ∙ is))

pub returns-in-None-clause-none : goal.returns-in-None-clause-none
returns-in-None-clause-none c = split_none c.in-None.ensures.none
