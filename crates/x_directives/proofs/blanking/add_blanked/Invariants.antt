use Rattle.std.proofs.Common.{◌≡◌, ◌++◌, drop}
use Rattle.x_directives.specs.Blanked.{blanked_bytes}
use Rattle.x_directives.proofs.blanking.add_blanked.Given as goal

abbrev pub invariant-loop-at : goal.invariant-loop-at
invariant-loop-at l =
    l.bytes.items ++ blanked_bytes l.before (drop l.at l.line) ≡ l.fn.bytes.items ++ blanked_bytes 0 l.line
