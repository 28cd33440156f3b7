use Rattle.std.proofs.Common.{◌≡◌, ◌++◌, drop, map}
use Rattle.std.specs.List.{flat_map}
use Rattle.x_trees.specs.View.{view_version}
use Rattle.x_pieces.specs.Header.{version_lines, constant_line}
use Rattle.x_pieces.proofs.program_header.add_program.Given as goal

-- those so far and those that are left
abbrev pub invariant-loop-version : goal.invariant-loop-version
invariant-loop-version l = l.text.items
    ++ flat_map version_lines (map view_version (drop l.version-index l.versions))
    ≡ (l.fn.text.items ++ constant_line l.name l.number) ++ flat_map version_lines
    (map view_version l.versions)
