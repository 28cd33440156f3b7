use Rattle.std.proofs.Common.{◌≡◌, ◌≤◌, ◌<◌, ℕ, List, Some, length}
use Rattle.x_trees.specs.Tree.{Definition}
use Rattle.x_names.specs.Declarers.{first_declarer}
use Rattle.x_names.specs.declared.names.Declarer.{Declarer}
use Rattle.x_recheck.specs.Editing.{definition_at, definitions_after}
use Rattle.x_recheck.specs.inside.Deciding.{AddsItems, IsCovered, text_edit, is_waiting}
use Rattle.x_recheck.proofs.rechecking.candidates.add_all_gone.Given as goal

-- the names are covered that the items so far declare first
abbrev pub invariant-loop-item : goal.invariant-loop-item
invariant-loop-item g l =
    let e = text_edit g.L.CheckedItems.text l.items in
    record {
      adds : AddsItems l.initial.queue l.queue 0 (length (definitions_after e));
      covered : (i : ℕ) → e.place.at ≤ i → i < l.item → (d : Definition) → definition_at e.old i ≡ Some d
          → (name : List ℕ) (f : Declarer) → first_declarer e.old name ≡ Some f → f.item ≡ i
          → IsCovered e (is_waiting l.queue) name;
    }
