use Rattle.std.proofs.Common.{◌≡◌, [], ◌∷◌, ◌++◌, length, map, take, drop, ap, subst, ◌∙◌}
use Rattle.std.specs.Option.{option_or}
use Rattle.x_lists.proofs.ListLemmas.{before_last}
use Rattle.x_trees.specs.Collected.{view_name}
use Rattle.x_explain.specs.AgainNames.{again_among, at_start, entry_at, name_at, start_again}
use Rattle.x_explain.proofs.AgainLemmas.{name_before}
use Rattle.x_session.proofs.DeclaredLemmas.{map-snoc}
use Rattle.x_explain.proofs.again.add.Goals as goal

pub loop-name-preserved : goal.loop-name-preserved
loop-name-preserved c =
    let all = c.args.glossary.now.declared.items in
    let front = c.pop.new.self.items in
    let here = c.in-Some.name in
    let item = c.args.item in
    let popped : c.loop-name.glossary.declared.items ≡ front ++ here ∷ [] = c.in-Some.ensures.items in
    let split = before_last all front here
    (subst (λ l. l ≡ take (length l) all) popped c.loop-name.invariant.left) in
    record {
      left = split.0;
      has = λ text items h start. name_before items item (map view_name front)
          (map view_name (front ++ here ∷ [])) (view_name here)
          (map view_name (drop (length front) all)) (map view_name (drop (length (front ++ here ∷ [])) all))
          (entry_at c.args.table.now.entries start) (entry_at c.loop-name.table.entries start)
          (entry_at c.take_in.new.table.entries start) start
          (map-snoc view_name front here) (ap (map view_name) split.1)
          (c.loop-name.invariant.has text items h start
          ∙ ap
          (λ l. option_or
          (name_at (again_among items item (map view_name l) (map view_name (drop (length l) all))) start)
          (entry_at c.args.table.now.entries start)) popped)
          (c.in_ok-take_in.ensures text items h start
          ∙ ap
          (λ l. option_or
          (name_at (at_start (start_again items item (map view_name l) (view_name here))
          (view_name here).name) start) (entry_at c.loop-name.table.entries start)) c.deref.ensures.value);
    }
