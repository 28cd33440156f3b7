use Rattle.std.proofs.Common.{◌≡◌, ◌++◌, ◌+◌, drop, map}
use Rattle.x_trees.specs.View.{view_argument}
use Rattle.x_clash.specs.Given.{argument_names}
use Rattle.x_clash.specs.Views.{view_all}
use Rattle.x_clash.proofs.programs.add_arguments.Given as goal

-- those so far and those that are left
abbrev pub invariant-loop-index : goal.invariant-loop-index
invariant-loop-index l =
    view_all l.list.items ++ argument_names l.word (l.index + 2)
    (map view_argument (drop l.index l.arguments))
    ≡ view_all l.fn.list.items ++ argument_names l.word 2 (map view_argument l.arguments)
