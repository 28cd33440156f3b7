use Rattle.std.proofs.Common.{◌≡◌, ℕ, List, Some, cond, map}
use Rattle.x_taken.specs.TakenNames.{entry_in, is_among}
use Rattle.x_taken.proofs.taken.add_names.Given as goal

-- the table has the kind for the names so far, and for others what it had
abbrev pub invariant-loop-name : goal.invariant-loop-name
invariant-loop-name l = (name : List ℕ) → entry_in l.table.entries name
    ≡ cond (is_among name (map (λ n. n.now) l.yielded)) (Some l.kind) (entry_in l.fn.table.entries name)
