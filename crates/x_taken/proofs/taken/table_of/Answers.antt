use Rattle.std.proofs.Common.{◌≡◌, ◌<◌, ◌+◌, ◌-◌, length, drop, ap, ◌∙◌, arith}
use Rattle.x_taken.specs.TakenNames.{entry_in, kind_in, view_lists}
use Rattle.x_taken.proofs.TakenLemmas.{list_more}
use Rattle.x_taken.proofs.taken.table_of.Goals as goal

pub loop-index-preserved : goal.loop-index-preserved
loop-index-preserved c name =
    let lists = c.args.lists.now in
    let later = c.loop-index.index in
    let some = c.loop-index-test.true in
    let last = c.loop-index.auto.index in
    let next : later - 1 + 1 ≡ later = omega (arith, some) in
    let within : later - 1 < length lists = omega (arith, some, last) in
    list_more lists (later - 1) later _ name (entry_in c.loop-index.table.entries name)
    (entry_in c.add_names.new.table.entries name)
    next within (c.loop-index.invariant name) (c.in_ok-add_names.ensures name)

pub returns : goal.returns
returns c name =
    let none = c.loop-index-test.false in
    let zero : c.loop-index.index ≡ 0 = omega (arith, none) in
    c.loop-index.invariant name ∙ ap (λ n. kind_in (view_lists (drop n c.args.lists.now)) name) zero
