use Rattle.std.proofs.Common.{map, take}
use Rattle.std.specs.List.{list_any}
use Rattle.std.specs.Cow.{cow_slice_items}
use Rattle.std.specs.Str.{bytes_eq}
use Rattle.x_trees.specs.Collected.{view_name}
use Rattle.x_names.specs.Declarers.{place_of_name}
use Rattle.x_uses.specs.Slots.{Notes}
use Rattle.x_uses.proofs.uses.making.add_declared.Given as goal

-- the names before a place are taken in
abbrev pub invariant-loop-place : goal.invariant-loop-place
invariant-loop-place l =
    Notes l.fn.table.entries l.table.entries
    (λ name. place_of_name l.item 0 name (map view_name (take l.place l.declared)))
    (λ name. list_any (bytes_eq name) (map (λ d. cow_slice_items d.name) (take l.place l.declared))) l.item
