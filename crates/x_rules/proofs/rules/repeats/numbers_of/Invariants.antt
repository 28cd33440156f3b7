use Rattle.std.proofs.Common.{◌≡◌, ◌++◌, map, drop}
use Rattle.x_rules.specs.Found.{spelled_numbers}
use Rattle.x_outline.specs.Parts.{view_number_at}
use Rattle.x_rules.proofs.rules.repeats.numbers_of.Given as goal

-- with those that are left, there are the numbers of all
abbrev pub invariant-loop-spelled : goal.invariant-loop-spelled
invariant-loop-spelled l =
    l.list.items ++ spelled_numbers (map view_number_at (drop l.spelled-index l.numbers))
    ≡ spelled_numbers (map view_number_at l.numbers)
