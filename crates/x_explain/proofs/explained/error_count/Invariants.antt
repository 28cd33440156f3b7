use Rattle.std.proofs.Common.{◌≡◌, ◌+◌, length}
use Rattle.x_explain.specs.Explained.{notes_at}
use Rattle.x_explain.proofs.explained.error_count.Given as goal

-- of the places that are left the notes are still counted
abbrev pub invariant-loop-place : goal.invariant-loop-place
invariant-loop-place l = l.errors + notes_at l.initial.place-iterator
    ≡ length l.initial.place-iterator + notes_at l.place-iterator
