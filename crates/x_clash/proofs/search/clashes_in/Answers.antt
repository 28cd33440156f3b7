use Rattle.std.proofs.Common.{List, ◌++◌, map, ap, subst, ◌∙◌, rules}
use Rattle.std.proofs.lemmas.List.Sorted.{answers_always}
use Rattle.x_taken.specs.TakenNames.{taken_in}
use Rattle.x_clash.specs.Clashes.{clashes_behind, thing}
use Rattle.x_clash.specs.Given.{Given}
use Rattle.x_clash.specs.Table.{HasFirsts}
use Rattle.x_clash.specs.Views.{view_all, view_clash}
use Rattle.x_clash.proofs.search.clashes_in.Goals as goal

pub returns-clause-table : goal.returns-clause-table
returns-clause-table c short things has =
    let P : List Given → Type 0 =
    λ gs. HasFirsts c.meet_all.new.table.entries (things ++ map (thing c.args.item) gs) in
    subst P (c.in_ok-names.ensures short) (c.in_ok-meet_all.ensures.table things has)

pub returns-clause-found : goal.returns-clause-found
returns-clause-found c short things has = record {
  unsorted = c.meet_all.new.found.items;
  these = c.in_ok-meet_all.ensures.found things has
      ∙ ap (λ l. map view_clash l ++ clashes_behind (taken_in c.args.taken.now) things
      (map (thing c.args.item) (view_all c.in_ok-names.names.items))) c.new-found.ensures.items
      ∙ ap (λ gs. clashes_behind (taken_in c.args.taken.now) things (map (thing c.args.item) gs))
      (c.in_ok-names.ensures short);
  permuted = c.in_ok-sort_by_key.ensures.permutation;
  sorted = c.in_ok-sort_by_key.ensures.sorted (λ x. x.place.word)
      (answers_always _ _ _ (λ f a r g h. search rules));
  stable = c.in_ok-sort_by_key.ensures.stable (λ x. x.place.word)
      (answers_always _ _ _ (λ f a r g h. search rules));
}
