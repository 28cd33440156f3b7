use Rattle.std.proofs.Common.{◌≤◌, ◌++◌, length, drop, ap, ◌∙◌, arith, append-nil}
use Rattle.std.proofs.lemmas.List.{take_all, drop_all}
use Rattle.indexmap.specs.IndexMap.{set_value_at}
use Rattle.x_uses.specs.Slots.{slot_renumbered, slot_at}
use Rattle.x_uses.proofs.TableLemmas.{each_slot, one_more, slot_of_each}
use Rattle.x_uses.proofs.uses.replacing.renumber_each.Goals as goal

pub loop-index-preserved : goal.loop-index-preserved
loop-index-preserved c =
    ap (set_value_at c.loop-index.table.entries c.loop-index.index) c.renumber.ensures
    ∙ one_more (slot_renumbered c.args.place) c.args.table.now.entries c.loop-index.table.entries
    c.loop-index.index c.index_mut.result.now c.loop-index.invariant c.index_mut.ensures.value

pub returns : goal.returns
returns c name =
    let es = c.args.table.now.entries in
    let f = slot_renumbered c.args.place in
    let far = c.loop-index-test.false in
    let n = c.len-index-end.ensures.len in
    let all : length es ≤ c.loop-index.index = omega arith in
    ap (λ l. slot_at l name) (c.loop-index.invariant
    ∙ ap (λ l. each_slot f l ++ drop c.loop-index.index es) (take_all c.loop-index.index es all)
    ∙ ap (λ l. each_slot f es ++ l) (drop_all c.loop-index.index es all) ∙ append-nil (each_slot f es))
    ∙ slot_of_each f es name
