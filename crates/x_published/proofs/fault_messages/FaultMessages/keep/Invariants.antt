use Rattle.std.proofs.Common.{length}
use Rattle.x_published.proofs.fault_messages.FaultMessages.keep.Given as goal

abbrev pub decreases-loop-diagnostic : goal.decreases-loop-diagnostic
decreases-loop-diagnostic l = length l.published.items
