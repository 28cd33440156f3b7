use Rattle.std.proofs.Common.{◌≡◌, ◌++◌, List, map, take}
use Rattle.serde_json.specs.Data.{Data}
use Rattle.x_session.specs.Foreign.{view_all}
use Rattle.x_published.specs.Diagnostics.{AreForeignHints}
use Rattle.x_published.specs.Published.{data_of}
use Rattle.x_documents.proofs.diagnostics.add_foreign_hints.Given as goal

-- the list has the hints of the names so far
abbrev pub invariant-loop-name : goal.invariant-loop-name
invariant-loop-name l = (hints : List Data)
    × AreForeignHints l.marks.encoding l.shown l.text (view_all (take l.name-index l.names)) hints
    × (map data_of l.list.items ≡ map data_of l.fn.list.items ++ hints)
