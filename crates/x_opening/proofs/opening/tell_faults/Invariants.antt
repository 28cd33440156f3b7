use Rattle.x_opening.specs.Opened.{told_fault}
use Rattle.x_compile.specs.declared.fault.Fault.{Fault}
use Rattle.x_text.proofs.Listing.{HasListed}
use Rattle.x_opening.proofs.opening.tell_faults.Given as goal

abbrev pub invariant-loop-fault : goal.invariant-loop-fault
invariant-loop-fault g l = HasListed Fault (told_fault l.file) l.initial.fault-iterator l.fault-iterator
    l.initial.pen (g.E.Sink.state l.initial.err) l.pen (g.E.Sink.state l.err)
