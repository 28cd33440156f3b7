use Rattle.std.proofs.Common.{◌≡◌, ◌++◌, drop}
use Rattle.std.specs.List.{flat_map}
use Rattle.x_rules.specs.Found.{repeated_members}
use Rattle.x_outline.specs.Parts.{view_members}
use Rattle.x_rules.proofs.rules.repeats.add_repeated_members.Given as goal

-- with the faults of the groups that are left, there are those of all
abbrev pub invariant-loop-group : goal.invariant-loop-group
invariant-loop-group l =
    l.faults.items ++ flat_map (λ m. repeated_members (view_members m)) (drop l.group-index l.members)
    ≡ l.fn.faults.items ++ flat_map (λ m. repeated_members (view_members m)) l.members
