use Rattle.std.proofs.Common.{◌≡◌, ◌++◌, List, map, take}
use Rattle.serde_json.specs.Data.{Data}
use Rattle.x_warnings.specs.Warnings.{view_warning}
use Rattle.x_published.specs.Published.{data_of}
use Rattle.x_published.specs.Warned.{AreWarned}
use Rattle.x_documents.proofs.warned_names.add_found.Given as goal

-- the list has what is published of the names so far
abbrev pub invariant-loop-warning : goal.invariant-loop-warning
invariant-loop-warning l = (ds : List Data)
    × AreWarned l.client l.uri l.shown l.text (map view_warning (take l.warning-index l.found)) ds
    × (map data_of l.list.items ≡ map data_of l.fn.list.items ++ ds)
