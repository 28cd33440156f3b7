use Rattle.std.proofs.Common.{[], drop, map}
use Rattle.x_trees.specs.View.{view_procedure}
use Rattle.x_outline.specs.MemberWalks.{WalkState, AddsProcedures, place, start}
use Rattle.x_outline.proofs.programs.procedures.Given as goal

abbrev pub invariant-loop-procedure : goal.invariant-loop-procedure
invariant-loop-procedure l =
    (to : WalkState) → AddsProcedures (place l.walk.word [] l.members) to
    (map view_procedure (drop l.procedure-index l.list))
    → AddsProcedures (start l.fn.walk.word) to (map view_procedure l.list)
