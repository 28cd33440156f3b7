use Rattle.std.proofs.Common.{◌≡◌, drop, option_map}
use Rattle.x_lookups.specs.Sizes.{arm_size, with_cases}
use Rattle.x_lookups.proofs.sizes.Size.of_arms.Given as goal

abbrev pub invariant-loop-index : goal.invariant-loop-index
invariant-loop-index l =
    with_cases l.sizes l.size (drop l.index l.arms.cases)
    ≡ with_cases l.sizes (option_map (arm_size l.sizes) l.arms.default) l.arms.cases
