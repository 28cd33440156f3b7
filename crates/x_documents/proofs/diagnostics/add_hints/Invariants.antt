use Rattle.std.proofs.Common.{◌≡◌, ◌++◌, map, drop}
use Rattle.x_published.specs.Diagnostics.{hint_data}
use Rattle.x_published.specs.Published.{data_of}
use Rattle.x_documents.proofs.diagnostics.add_hints.Given as goal

-- with the hints of the places that are left behind it, the list is what it is to be
abbrev pub invariant-loop-place : goal.invariant-loop-place
invariant-loop-place l =
    map data_of l.list.items ++ map (hint_data l.marks.encoding l.shown) (drop l.place-index l.place-items)
    ≡ map data_of l.fn.list.items ++ map (hint_data l.marks.encoding l.shown) l.place-items
