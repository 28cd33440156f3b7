use Rattle.std.proofs.Common.{◌≡◌, map, take, drop, length}
use Rattle.x_rules.specs.Results.{AreResultsFrom, result_at}
use Rattle.x_compile.specs.Known.{known_names}
use Rattle.x_compile.specs.Checking.{AreRendered, all_checked}
use Rattle.x_compile.specs.Counting.{faults_found}
use Rattle.x_compile.specs.KeptView.{found_result, kept_definition}
use Rattle.x_compile.proofs.checking.check_items.Given as goal

-- what was found of the items so far
abbrev pub invariant-loop-item : goal.invariant-loop-item
invariant-loop-item l = record {
  many : l.item-index ≡ length l.results.items;
  are : AreResultsFrom (known_names l.known) (map (λ k. kept_definition k.now) l.items)
      (result_at (map found_result l.results.items)) 0
      (take l.item-index (map (λ k. kept_definition k.now) l.items)) (map found_result l.results.items);
  rendered : AreRendered (take l.item-index (map (λ k. k.now) l.items)) l.results.items;
  faults : l.faults ≡ faults_found (take l.item-index (map (λ k. k.now) l.items)) l.results.items;
  counted : all_checked l.meter (map (λ k. kept_definition k.now) (drop l.item-index l.items))
      ≡ all_checked l.fn.meter (map (λ k. kept_definition k.now) l.items);
}
