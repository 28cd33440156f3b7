use Rattle.std.proofs.Common.{◌≡◌, suc, Some, None, cond, [], ◌∷◌, ◌++◌, length, map, take, drop, ap, subst}
use Rattle.std.proofs.Common.{◌∙◌, arith}
use Rattle.std.specs.Cow.{cow_slice_items}
use Rattle.std.specs.Str.{bytes_eq}
use Rattle.std.proofs.lemmas.List.{length_push}
use Rattle.x_trees.specs.Collected.{view_name}
use Rattle.std.specs.Option.{option_or}
use Rattle.x_names.specs.Declarers.{declarer_at, place_of_name}
use Rattle.x_names.specs.DeclarerTable.{entry_in}
use Rattle.x_lists.proofs.ListLemmas.{before_last}
use Rattle.x_names.proofs.NameLemmas.{name_before}
use Rattle.x_names.proofs.names.add.Goals as goal

pub loop-declared-preserved : goal.loop-declared-preserved
loop-declared-preserved c =
    let all = c.read.new.self.declared.items in
    let left = c.pop.new.self.items in
    let here = c.in-Some.declared in
    let popped : c.loop-declared.glossary.declared.items ≡ left ++ here ∷ [] = c.in-Some.ensures.items in
    let split = before_last all left here
    (subst (λ l. l ≡ take (length l) all) popped c.loop-declared.invariant.left) in
    let more = length_push left here in
    let next : length (left ++ here ∷ []) ≡ suc (length left) = omega (arith, more) in
    record {
      left = split.0;
      has = λ name. name_before (entry_in c.args.table.now.entries name)
          (entry_in c.loop-declared.table.entries name) (entry_in c.note.new.table.entries name) c.args.item
          (length left) (length (left ++ here ∷ []))
          (map view_name (drop (length left) all)) (view_name here)
          (map view_name (drop (length (left ++ here ∷ [])) all)) name
          next (ap (map view_name) split.1)
          (c.loop-declared.invariant.has name
          ∙ ap (λ l. option_or (place_of_name c.args.item (length l) name
          (map view_name (drop (length l) all))) (entry_in c.args.table.now.entries name)) popped)
          (c.in_ok-note.ensures name
          ∙ ap (λ l. option_or (cond (bytes_eq name (cow_slice_items here.name))
          (Some (declarer_at c.args.item (length l) (view_name here))) None)
          (entry_in c.loop-declared.table.entries name)) c.as_slice.ensures.value);
    }
