use Rattle.std.proofs.Common.{◌≡◌, suc, ◌+◌, ◌∷◌, ◌++◌, List, [], Some, drop, map, sym, ap, subst, ◌∙◌, arith}
use Rattle.std.proofs.lemmas.List.{drop_all}
use Rattle.x_lists.proofs.ListLemmas.{drop_one, get_mapped}
use Rattle.x_taken.specs.TakenNames.{taken_in}
use Rattle.x_trees.specs.View.{tree_at, view_definition}
use Rattle.x_clash.specs.Clashes.{AreClashes, things_of}
use Rattle.x_clash.specs.Table.{HasFirsts}
use Rattle.x_clash.specs.declared.clash.Clash.{Clash}
use Rattle.x_clash.proofs.SearchLemmas.{all_items, item_more, item_without}
use Rattle.x_clash.proofs.search.clashes.Goals as goal
use Rattle.x_clash.proofs.search.clashes.Goals.{in-Some+in_ok-here+in_ok-append, in_default}

pub loop-item-preserved : goal.loop-item-preserved
loop-item-preserved c short =
    let inv = c.loop-item.invariant short in
    let all = c.args.definitions.now in
    let item = c.loop-item.item in
    let taken = taken_in c.args.taken.now in
    let here = c.index-definitions-item.result in
    let rest = drop (item + 1) all in
    let next : item + 1 ≡ suc item = omega arith in
    let first = drop_one all item here c.loop-item-test.true
    ∙ ap (λ x. x ∷ rest) (sym c.index-definitions-item.is) in
    let P : List Clash → List Clash → Type 0 =
    λ more found. AreClashes taken 0 [] (map tree_at all) (found ++ more) in
    elim c.match-definition.branch [
      | in-Some+in_ok-here+in_ok-append w ↦
          let d = view_definition w.in-Some.definition.now in
          let is = ap (map tree_at) first ∙ ap (λ x. tree_at x ∷ map tree_at rest) w.in-Some.is in
          let few = short item d (get_mapped tree_at all item here rest first
          ∙ ap (λ x. Some (tree_at x)) w.in-Some.is) in
          let found = ap (λ v. v.items) w.found-is ∙ w.in_ok-append.ensures.items in (
            inv.0 ++ things_of item (Some d),
            subst (λ es. HasFirsts es (inv.0 ++ things_of item (Some d)))
                (sym (ap (λ t. t.entries) w.table-is))
                (w.in_ok-here.ensures.table few inv.0 inv.1),
            λ more left. subst (P more) (sym found)
                (item_more taken item (item + 1) inv.0 (map tree_at (drop item all)) (map tree_at rest)
                (map tree_at all)
                (Some d) c.loop-item.found.items w.in_ok-here.here.items next is
                (w.in_ok-here.ensures.found few inv.0 inv.1) inv.2 more left),
          )
      | in_default w ↦
          let is = ap (map tree_at) first ∙ ap (λ x. tree_at x ∷ map tree_at rest) w.in_default.is in (
            inv.0,
            subst (λ es. HasFirsts es inv.0) (sym (ap (λ t. t.entries) w.table-is)) inv.1,
            λ more left. subst (P more) (sym (ap (λ v. v.items) w.found-is))
                (item_without taken item (item + 1) inv.0 (map tree_at (drop item all)) (map tree_at rest)
                (map tree_at all) c.loop-item.found.items next is inv.2 more left),
          )
    ]

pub returns : goal.returns
returns c short =
    let inv = c.loop-item.invariant short in
    let all = c.args.definitions.now in
    let item = c.loop-item.item in
    all_items (taken_in c.args.taken.now) item inv.0 (map tree_at (drop item all)) (map tree_at all)
    c.loop-item.found.items (ap (map tree_at) (drop_all item all c.loop-item-test.false)) inv.2
