use Rattle.std.proofs.Common.{◌≡◌, ◌<◌, suc, ◌+◌, ◌-◌, ◌∷◌, Some, length, map, drop, ap, ◌∙◌, arith}
use Rattle.x_names.specs.DeclarerTable.{entry_in}
use Rattle.x_trees.specs.View.{tree_at}
use Rattle.x_lists.proofs.ListLemmas.{drop_one, get_mapped}
use Rattle.x_names.proofs.NameLemmas.{item_before}
use Rattle.x_names.proofs.names.table_of.Goals as goal

pub loop-item-preserved-in-Continue-branch-2 : goal.loop-item-preserved-in-Continue-branch-2
loop-item-preserved-in-Continue-branch-2 c short name =
    let all = c.args.definitions.now in
    let later = c.loop-item.item in
    let item = later - 1 in
    let here = Some c.in-Some.definition in
    let some = c.loop-item-test.true in
    let last = c.loop-item.auto.item in
    let next : later ≡ suc item = omega (arith, some) in
    let back : item + 1 ≡ later = omega (arith, some) in
    let inside : item < length all = omega (arith, some, last) in
    let is : drop item all ≡ here ∷ drop later all = drop_one all item _ inside
    ∙ ap (λ d. d ∷ drop (item + 1) all) c.in-Some.is ∙ ap (λ n. here ∷ drop n all) back in
    item_before (entry_in c.loop-item.table.entries name) (entry_in c.add.new.table.entries name) item later
    (map tree_at (drop item all)) (tree_at here) (map tree_at (drop later all)) name
    next (ap (map tree_at) is) (c.loop-item.invariant short name)
    (c.in_ok-add.ensures (short item _ (get_mapped tree_at all item here (drop later all) is)) name)
