use Rattle.std.proofs.Common.{◌≡◌, ◌++◌, drop, map}
use Rattle.x_trees.specs.View.{view_procedure, view_version}
use Rattle.x_outline.specs.Parts.{view_name_at}
use Rattle.x_clash.specs.Given.{procedures_names}
use Rattle.x_clash.specs.Views.{view_all}
use Rattle.x_clash.proofs.programs.add_procedures.Given as goal

-- those so far and those that are left
abbrev pub invariant-loop-procedure : goal.invariant-loop-procedure
invariant-loop-procedure l =
    view_all l.list.items ++ procedures_names (view_version l.version) (map view_name_at l.names)
    (map view_procedure (drop l.procedure-index l.procedure-items))
    ≡ view_all l.fn.list.items ++ procedures_names (view_version l.version) (map view_name_at l.initial.names)
    (map view_procedure l.version.procedures.items)
