use Rattle.x_value.specs.Dumps.{root_job}
use Rattle.x_value.specs.Work.{Reading, work}
use Rattle.x_value.proofs.reading.dump.Given as goal

abbrev pub invariant-loop-task : goal.invariant-loop-task
invariant-loop-task l = record {
  reading : Reading l.schema (root_job l.schema l.fn.id) l.bytes l.stack.items l.entries.items l.rest;
}

abbrev pub decreases-loop-task : goal.decreases-loop-task
decreases-loop-task l = work l.schema l.rest l.stack.items
