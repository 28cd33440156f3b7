use Rattle.std.proofs.Common.{length}
use Rattle.x_compile.proofs.KeepingLemmas.{AreKept}
use Rattle.x_compile.proofs.keeping.keep_results.Given as goal

abbrev pub invariant-loop-found : goal.invariant-loop-found
invariant-loop-found l = AreKept l.fn.entries.items l.fn.results.items l.entries.items l.results.items

abbrev pub decreases-loop-found : goal.decreases-loop-found
decreases-loop-found l = length l.results.items
