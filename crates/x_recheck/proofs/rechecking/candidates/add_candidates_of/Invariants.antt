use Rattle.std.proofs.Common.{◌≡◌, ◌<◌, ℕ, Some, length, slice_get}
use Rattle.x_trees.specs.declared.names.declared_name.DeclaredName.{DeclaredName}
use Rattle.x_names.specs.declared.names.Declarer.{Declarer}
use Rattle.x_recheck.specs.Editing.{definitions_after}
use Rattle.x_recheck.specs.inside.Deciding.{AddsItems, IsCovered, IsFirst, text_edit, is_waiting}
use Rattle.x_recheck.proofs.OutlineNames.{declared_name}
use Rattle.x_recheck.proofs.rechecking.candidates.add_candidates_of.Given as goal

-- the users of the names so far wait that have to
abbrev pub invariant-loop-place : goal.invariant-loop-place
invariant-loop-place g l =
    let e = text_edit g.L.CheckedItems.text l.items in
    record {
      adds : AddsItems l.initial.queue l.queue 0 (length (definitions_after e));
      covered : (i : ℕ) (d : DeclaredName) → i < l.place → slice_get l.names i ≡ Some d
          → (f : Declarer) → IsFirst e (declared_name d) f → f.item ≡ l.item → f.place ≡ i
          → IsCovered e (is_waiting l.queue) (declared_name d);
    }
