use Rattle.std.proofs.Common.{◌≡◌, ◌++◌, drop, map}
use Rattle.x_trees.specs.View.{view_version}
use Rattle.x_pieces.specs.Table.{program_table}
use Rattle.x_pieces.proofs.table.add_program.Given as goal

-- those so far and those that are left
abbrev pub invariant-loop-version : goal.invariant-loop-version
invariant-loop-version l = l.text.items
    ++ program_table l.program (map view_version (drop l.version-index l.versions))
    ≡ l.fn.text.items ++ program_table l.program (map view_version l.versions)
