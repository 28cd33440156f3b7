use Rattle.x_session.specs.FaultLines.{fault_line}
use Rattle.x_compile.specs.declared.fault.Fault.{Fault}
use Rattle.x_text.proofs.Listing.{HasListed}
use Rattle.x_contents.proofs.generated.add_faults.Given as goal

abbrev pub invariant-loop-fault : goal.invariant-loop-fault
invariant-loop-fault g l = HasListed Fault fault_line l.initial.fault-iterator l.fault-iterator
    l.initial.pen (g.S.Sink.state l.initial.sink) l.pen (g.S.Sink.state l.sink)
