use Rattle.std.proofs.Common.{◌≡◌, ◌++◌, length}
use Rattle.std.specs.Vec.Iter.{into_iter_items, into_iter_len}
use Rattle.x_cutting.specs.ItemList as items
use Rattle.x_follow.specs.Rendered.{AreRenderings}
use Rattle.x_follow.proofs.stale.render_all.Given as goal

-- those so far are rendered
abbrev pub invariant-loop-rechecked : goal.invariant-loop-rechecked
invariant-loop-rechecked l = record {
  all : l.yielded ++ into_iter_items l.rechecked-iterator ≡ into_iter_items l.initial.rechecked-iterator;
  many : into_iter_len l.rechecked-iterator ≡ length (into_iter_items l.rechecked-iterator);
  are : AreRenderings (items.kept (items.patched l.items.list l.patch)) l.yielded l.found.items;
}
