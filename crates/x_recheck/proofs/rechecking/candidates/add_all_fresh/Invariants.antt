use Rattle.std.proofs.Common.{◌≡◌, ◌≤◌, ◌<◌, ℕ, List, Some, length, true}
use Rattle.x_trees.specs.Tree.{Definition}
use Rattle.x_names.specs.Declarers.{first_declarer}
use Rattle.x_names.specs.declared.names.Declarer.{Declarer}
use Rattle.x_recheck.specs.Editing.{definition_at, definitions_after}
use Rattle.x_recheck.specs.inside.Deciding.{AddsItems, IsCovered, text_edit, is_waiting}
use Rattle.x_recheck.proofs.rechecking.candidates.add_all_fresh.Given as goal

-- the items so far wait that have a definition, and the names that they declare first are covered
abbrev pub invariant-loop-item : goal.invariant-loop-item
invariant-loop-item g l =
    let e = text_edit g.L.CheckedItems.text l.items in
    record {
      adds : AddsItems l.initial.queue l.queue 0 (length (definitions_after e));
      waits : (i : ℕ) → e.place.at ≤ i → i < l.item → (d : Definition)
          → definition_at (definitions_after e) i ≡ Some d → is_waiting l.queue i ≡ true;
      covered : (i : ℕ) → e.place.at ≤ i → i < l.item → (d : Definition)
          → definition_at (definitions_after e) i ≡ Some d
          → (name : List ℕ) (f : Declarer) → first_declarer (definitions_after e) name ≡ Some f → f.item ≡ i
          → IsCovered e (is_waiting l.queue) name;
    }
