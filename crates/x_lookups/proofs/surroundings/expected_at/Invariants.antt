use Rattle.std.proofs.Common.{◌≡◌}
use Rattle.x_lookups.specs.Expecting.{at_start, expected_from}
use Rattle.x_lookups.specs.Surrounding.{around_of}
use Rattle.x_lookups.proofs.surroundings.expected_at.Given as goal

abbrev pub invariant-loop-token : goal.invariant-loop-token
invariant-loop-token l =
    expected_from (around_of l.around) l.at l.token-iterator
    ≡ expected_from at_start l.at l.initial.token-iterator
