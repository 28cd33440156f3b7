use Rattle.std.proofs.Common.{◌-◌, length, arith, sym, ◌∙◌}
use Rattle.x_item.proofs.LastWordLemmas.{none_behind, last_here, none_past, none_at_all}
use Rattle.x_item.proofs.item.last_word.Goals as goal

pub loop-at-init : goal.loop-at-init
loop-at-init c = none_past c.args.tokens.now (length c.args.tokens.now) (omega arith)

pub returns-then-is_significant-clause-some : goal.returns-then-is_significant-clause-some
returns-then-is_significant-clause-some c =
    last_here c.args.tokens.now c.loop-at.at (c.loop-at.at - 1) _ (omega arith) c.loop-at.auto.at
    c.loop-at.invariant (sym c.is_significant.ensures ∙ c.if-is_significant.true)

pub loop-at-preserved : goal.loop-at-preserved
loop-at-preserved c =
    none_behind c.args.tokens.now c.loop-at.at (c.loop-at.at - 1) _ (omega arith) c.loop-at.auto.at
    c.loop-at.invariant (sym c.is_significant.ensures ∙ c.if-is_significant.false)

pub returns-clause-none : goal.returns-clause-none
returns-clause-none c = none_at_all _ _ c.loop-at-test.false c.loop-at.invariant
