use Rattle.std.proofs.Common.{◌≡◌, ◌+◌, ℕ, List, Some, arith, length}
use Rattle.x_trees.specs.Tree.{Definition}
use Rattle.x_names.specs.Declarers.{first_declarer}
use Rattle.x_names.specs.declared.names.Declarer.{Declarer}
use Rattle.x_recheck.specs.Editing.{definition_at, definitions_after}
use Rattle.x_recheck.specs.inside.Deciding.{IsCovered, text_edit, is_waiting}
use Rattle.x_recheck.proofs.CandidateLemmas.{each_number, first_covered}
use Rattle.x_recheck.proofs.WaitingLemmas.{adds_more, covered_more}
use Rattle.x_recheck.proofs.rechecking.candidates.add_all_gone.Goals as goal

pub loop-item-preserved : goal.loop-item-preserved
loop-item-preserved g c =
    let e = text_edit g.L.CheckedItems.text c.args.items.now in
    let high = length (definitions_after e) in
    let before = c.loop-item.queue in
    let now = c.add_gone.new.queue in
    let step = c.in_ok-add_gone.ensures in
    record {
      adds = adds_more c.args.queue.now before now 0 high c.loop-item.invariant.adds step.adds;
      covered = each_number
          (λ i. (d : Definition) → definition_at e.old i ≡ Some d → (name : List ℕ) (f : Declarer)
          → first_declarer e.old name ≡ Some f → f.item ≡ i → IsCovered e (is_waiting before) name)
          (λ i. (d : Definition) → definition_at e.old i ≡ Some d → (name : List ℕ) (f : Declarer)
          → first_declarer e.old name ≡ Some f → f.item ≡ i → IsCovered e (is_waiting now) name)
          e.place.at c.loop-item.item
          (λ i so d has name f first here. covered_more e before now 0 high name step.adds
          (so d has name f first here)) c.loop-item.invariant.covered step.covered;
    }

pub returns-clause-covered : goal.returns-clause-covered
returns-clause-covered g c =
    let e = text_edit g.L.CheckedItems.text c.args.items.now in
    let end = c.loop-item-test.false in
    first_covered (IsCovered e (is_waiting c.loop-item.queue)) e.old e.place.at (e.place.at + e.place.removed)
    c.loop-item.item (omega (arith, end)) c.loop-item.invariant.covered
