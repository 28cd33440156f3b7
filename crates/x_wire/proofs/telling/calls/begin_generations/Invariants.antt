use Rattle.std.proofs.Common.{◌≡◌, ◌-◌, ◌≤◌, ◌++◌, ◌∷◌, [], ℕ, length}
use Rattle.x_wire.specs.LastCalls.{last_in}
use Rattle.x_wire.proofs.telling.calls.begin_generations.Given as goal

abbrev pub invariant-loop-alloc : goal.invariant-loop-alloc
invariant-loop-alloc l = record {
  same : (xid : ℕ) → last_in 0 (l.before.items ++ l.last ∷ []) xid
      ≡ last_in 0 (l.fn.before.items ++ l.fn.last ∷ []) xid;
  few : length l.before.items ≤ l.generation;
}

abbrev pub decreases-loop-alloc : goal.decreases-loop-alloc
decreases-loop-alloc l = l.generation - length l.before.items
