use Rattle.std.proofs.Common.{◌+◌, ◌∷◌, [], map, length, Option, ap, sym, subst, ◌∙◌}
use Rattle.std.specs.Borrow.{Bor}
use Rattle.std.proofs.lemmas.List.{length-map, map-append}
use Rattle.x_trees.specs.Tree.{Definition}
use Rattle.x_rules.proofs.OutlineLemmas.{map_map}
use Rattle.x_names.specs.Declarers.{AreShort, FirstIs}
use Rattle.x_names.specs.DeclarerTable.{first_in}
use Rattle.x_rules.specs.Results.{IsResult, result_at}
use Rattle.x_compile.specs.Known.{known_names}
use Rattle.x_compile.specs.Checking.{all_checked}
use Rattle.x_compile.specs.Compile.{faults_at}
use Rattle.x_compile.specs.KeptView.{found_result, kept_definition, kept_parse}
use Rattle.x_compile.specs.declared.content.Content.{Content}
use Rattle.x_compile.proofs.CheckingLemmas.{checked_all, counted_all, counted_more, faults_next, many_more}
use Rattle.x_compile.proofs.CheckingLemmas.{rendered_next, results_next, short_here}
use Rattle.x_compile.proofs.checking.check_items.Goals as goal

abbrev lent : Bor Content → Content
lent k = k.now

abbrev defined : Bor Content → Option Definition
defined k = kept_definition k.now

pub loop-item-preserved : goal.loop-item-preserved
loop-item-preserved c =
    let xs = c.args.items.now in
    let ds = map defined xs in
    let known = (known_names c.args.known.now) in
    let same = sym (map_map kept_definition lent xs) in
    let index = c.loop-item.item-index in
    let x = c.item-item.result in
    let rs = c.loop-item.results.items in
    let new = c.push.new.self.items in
    let found = c.in_ok-found.found in
    let lt = c.loop-item-test.true in
    let at = c.item-item.is in
    let short = short_here defined xs index x lt at (subst AreShort same c.requires.short) in
    let first = subst (λ l. (name : _) → FirstIs l name (first_in c.args.names.now name)) same
    c.requires.first in
    let more = ap (map found_result) c.in_ok-push.ensures.items ∙ map-append found_result rs (found ∷ []) in
    let many = sym (length-map rs found_result) in
    let is = c.in_ok-found.ensures.result ds short first in
    let here : IsResult known ds (result_at (map found_result rs)) (length (map found_result rs)) (defined x)
    (found_result found) =
    subst (λ n. IsResult known ds (result_at (map found_result rs)) n (defined x) (found_result found)) many
    (subst (λ l. IsResult known ds (result_at (map found_result l)) (length l) (defined x)
    (found_result found)) c.deref.ensures.value is) in
    record {
      many = many_more index rs new found c.in_ok-push.ensures.items c.loop-item.invariant.many;
      are = results_next known defined xs index x (map found_result rs) (map found_result new)
          (found_result found) lt at more (c.loop-item.invariant.many ∙ many) c.loop-item.invariant.are here;
      rendered = rendered_next lent xs index x rs new found lt at c.in_ok-push.ensures.items
          c.loop-item.invariant.rendered c.in_ok-found.ensures.rendered;
      faults = c.in_ok-faults.ensures ∙ ap (λ n. c.loop-item.faults + n) (c.fault_count.ensures
          ∙ ap (λ fs. length (faults_at [] (kept_parse x.now) fs)) c.faults_of.ensures)
          ∙ faults_next lent xs index c.loop-item.faults x rs new found lt at c.in_ok-push.ensures.items
          c.loop-item.invariant.many c.loop-item.invariant.faults;
      counted = counted_more defined c.loop-item.meter c.check.new.meter (all_checked c.args.meter.now ds) xs
          index x lt at c.in_ok-found.ensures.counted c.loop-item.invariant.counted;
    }

pub returns-clause-checked : goal.returns-clause-checked
returns-clause-checked c =
    checked_all (known_names c.args.known.now) lent c.args.items.now c.loop-item.item-index
    c.loop-item.results.items c.loop-item.faults c.loop-item-test.false
    c.loop-item.invariant.are c.loop-item.invariant.rendered c.loop-item.invariant.faults

pub returns-clause-counted : goal.returns-clause-counted
returns-clause-counted c =
    counted_all lent c.args.items.now c.loop-item.item-index c.loop-item.meter
    (all_checked c.args.meter.now (map defined c.args.items.now)) c.loop-item-test.false
    c.loop-item.invariant.counted
    ∙ ap (all_checked c.args.meter.now) (map_map kept_definition lent c.args.items.now)
