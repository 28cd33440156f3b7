use Rattle.std.proofs.Common.{◌≡◌, ◌++◌, drop}
use Rattle.x_session.proofs.DeclaredLemmas.{spots_in}
use Rattle.x_session.proofs.declared.spots.Given as goal

abbrev pub invariant-loop-token : goal.invariant-loop-token
invariant-loop-token l = (l.lines ≡ l.initial.lines)
    × (l.list.items ++ spots_in l.initial.lines (drop l.token-index l.tokens)
    ≡ spots_in l.initial.lines l.tokens)
