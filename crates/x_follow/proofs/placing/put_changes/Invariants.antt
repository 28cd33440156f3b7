use Rattle.std.proofs.Common.{◌≡◌, ℕ, length}
use Rattle.std.specs.Prelude.{IfSome}
use Rattle.std.specs.Vec.Iter.{into_iter_items, into_iter_len}
use Rattle.x_cutting.specs.ItemList as items
use Rattle.x_recheck.specs.Staleness.{Ascending}
use Rattle.x_follow.specs.Following.{CanPut, whole}
use Rattle.x_follow.specs.Moves.{changed_items, splice_of}
use Rattle.x_follow.specs.inside.Carrying.{HasMoved, IsCounted, left_changes}
use Rattle.x_follow.specs.Planned.{numbers_of}
use Rattle.x_follow.proofs.PlannedLemmas.{ArePut}
use Rattle.x_follow.proofs.placing.put_changes.Given as goal

-- the first of what is planned is put in place
abbrev pub invariant-loop-planned : goal.invariant-loop-planned
invariant-loop-planned l = record {
  can : IfSome l.pending (CanPut l.items);
  put : ArePut (items.patched l.fn.items.list l.fn.patch) l.fn.found.items (whole l.items.list l.pending)
      (into_iter_items l.planned-iterator);
  moved : HasMoved l.fn.items.seat (changed_items (splice_of l.fn.patch) (numbers_of l.fn.found.items))
      l.moved
      l.items.seat (left_changes l.pending (numbers_of (into_iter_items l.planned-iterator)));
  counted : IsCounted l.fn.items.moved l.items.moved l.moved;
  up : (low : ℕ) × Ascending low (numbers_of (into_iter_items l.planned-iterator));
  many : into_iter_len l.planned-iterator ≡ length (into_iter_items l.planned-iterator);
}
