use Rattle.std.proofs.Common.{Some, ap, sym, ◌∙◌, rules}
use Rattle.x_recheck.specs.declared.rechecking.Rechecked.{Rechecked}
use Rattle.std.proofs.lemmas.List.Sorted.{answers_always}
use Rattle.x_recheck.proofs.StaleLists.{searched_ok, searched_err}
use Rattle.x_recheck.proofs.rechecking.edited_items.find_checked.Goals as goal

pub returns-in-Ok : goal.returns-in-Ok
returns-in-Ok c =
    let position = c.binary_search_by_key.ensures.position (λ y. y.item)
    (answers_always _ _ _ (λ f a r q k. search rules)) in
    ap (λ (r : Rechecked). Some r.checked) (sym c.index-rechecked-index.is)
    ∙ searched_ok c.args.rechecked.now c.args.item c.binary_search_by_key.result c.in-Ok.index
    c.index-rechecked-index.result c.requires c.binary_search_by_key.ensures.bound position c.in-Ok.is
    c.index-rechecked-index.is

pub returns-in-Err : goal.returns-in-Err
returns-in-Err c =
    let position = c.binary_search_by_key.ensures.position (λ y. y.item)
    (answers_always _ _ _ (λ f a r q k. search rules)) in
    searched_err c.args.rechecked.now c.args.item c.binary_search_by_key.result c.in-Err.field-0 c.requires
    position c.in-Err.is
