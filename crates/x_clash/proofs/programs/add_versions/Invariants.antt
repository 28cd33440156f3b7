use Rattle.std.proofs.Common.{◌≡◌, ◌++◌, drop, map}
use Rattle.x_trees.specs.View.{view_version}
use Rattle.x_outline.specs.Parts.{view_members, view_name_at}
use Rattle.x_clash.specs.Given.{versions_names}
use Rattle.x_clash.specs.Views.{view_all}
use Rattle.x_clash.proofs.programs.add_versions.Given as goal

-- those so far and those that are left
abbrev pub invariant-loop-version : goal.invariant-loop-version
invariant-loop-version l =
    view_all l.list.items ++ versions_names l.program (map view_name_at l.names) (map view_members l.groups)
    (map view_version (drop l.version-index l.versions))
    ≡ view_all l.fn.list.items ++ versions_names l.program (map view_name_at l.initial.names)
    (map view_members l.initial.groups) (map view_version l.versions)
