use Rattle.std.proofs.Common.{◌≡◌, List, ◌++◌, map}
use Rattle.x_taken.specs.TakenNames.{taken_in}
use Rattle.x_clash.specs.Clashes.{Thing, clashes_behind, thing}
use Rattle.x_clash.specs.Table.{HasFirsts}
use Rattle.x_clash.specs.Views.{view_all, view_clash}
use Rattle.x_clash.proofs.search.meet_all.Given as goal

-- the things so far are in the table, and their clashes are found
abbrev pub invariant-loop-given : goal.invariant-loop-given
invariant-loop-given l = record {
  split : l.fn.names.items ≡ l.yielded ++ l.given-iterator.rest.items;
  table : (things : List Thing) → HasFirsts l.fn.table.entries things
      → HasFirsts l.table.entries (things ++ map (thing l.item) (view_all l.yielded));
  found : (things : List Thing) → HasFirsts l.fn.table.entries things
      → map view_clash l.found.items ≡ map view_clash l.fn.found.items
      ++ clashes_behind (taken_in l.taken) things (map (thing l.item) (view_all l.yielded));
}
