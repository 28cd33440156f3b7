use Rattle.std.proofs.Common.{sym, ◌∙◌, ◌+◌, ◌-◌, length, drop, arith, length-drop}
use Rattle.std.proofs.lemmas.List.{take_all}
use Rattle.x_parser.proofs.PlaceLemmas.{ahead_on, ahead_none, left_none, code_none, split_at}
use Rattle.x_parser.proofs.words.split_word.Goals as goal

pub returns-then-is_significant-clause-some : goal.returns-then-is_significant-clause-some
returns-then-is_significant-clause-some c =
    split_at c.args.tokens.now _ c.loop-at.at _ c.loop-at-test.true
    (sym c.is_significant.ensures ∙ c.if-is_significant.true) c.loop-at.invariant
    (take_all (length c.args.tokens.now - (c.loop-at.at + 1)) (drop (c.loop-at.at + 1) c.args.tokens.now)
    (omega (arith, length-drop (c.loop-at.at + 1) c.args.tokens.now)))

pub loop-at-preserved : goal.loop-at-preserved
loop-at-preserved c =
    ahead_on c.args.tokens.now c.loop-at.at _ c.loop-at-test.true
    (sym c.is_significant.ensures ∙ c.if-is_significant.false) c.loop-at.invariant

pub returns-clause-none : goal.returns-clause-none
returns-clause-none c = ahead_none c.args.tokens.now c.loop-at.at c.loop-at-test.false c.loop-at.invariant

pub returns-clause-none_left : goal.returns-clause-none_left
returns-clause-none_left c = left_none c.args.tokens.now
    (ahead_none c.args.tokens.now c.loop-at.at c.loop-at-test.false c.loop-at.invariant)

pub returns-clause-none_code : goal.returns-clause-none_code
returns-clause-none_code c = code_none c.args.tokens.now
    (ahead_none c.args.tokens.now c.loop-at.at c.loop-at-test.false c.loop-at.invariant)
