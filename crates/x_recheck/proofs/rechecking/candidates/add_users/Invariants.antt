use Rattle.std.proofs.Common.{◌≡◌, ◌≤◌, ℕ, Some, true, length, take}
use Rattle.std.specs.List.{IsAmong}
use Rattle.x_recheck.specs.Editing.{definitions_after, old_number}
use Rattle.x_recheck.specs.inside.Deciding.{AddsItems, text_edit, is_waiting}
use Rattle.x_recheck.proofs.rechecking.candidates.add_users.Given as goal

-- the users so far wait
abbrev pub invariant-loop-user : goal.invariant-loop-user
invariant-loop-user g l = record {
  adds : AddsItems l.initial.queue l.queue l.low
      (length (definitions_after (text_edit g.L.CheckedItems.text l.items)));
  waits : (was : ℕ) → IsAmong (take l.user-index l.user-items) was → (k : ℕ) → l.low ≤ k
      → old_number l.items.place k ≡ Some was → is_waiting l.queue k ≡ true;
}
