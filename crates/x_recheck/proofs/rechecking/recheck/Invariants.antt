use Rattle.std.proofs.Common.{◌≡◌, ◌-◌, length}
use Rattle.x_recheck.specs.Editing.{definitions_after}
use Rattle.x_recheck.specs.inside.Deciding.{CountsOn, IsReady, text_edit}
use Rattle.x_recheck.specs.Staleness.{checked_more}
use Rattle.x_recheck.proofs.rechecking.recheck.Given as goal

-- the items below `low` are decided
abbrev pub invariant-loop-rechecked : goal.invariant-loop-rechecked
invariant-loop-rechecked g l = record {
  ready : IsReady (text_edit g.L.CheckedItems.text l.items) l.queue l.rechecked.items l.low;
  counts : CountsOn l.fn.meter l.meter;
  counted : l.meter ≡ checked_more l.fn.meter (length l.rechecked.items);
}

abbrev pub decreases-loop-rechecked : goal.decreases-loop-rechecked
decreases-loop-rechecked g l = length (definitions_after (text_edit g.L.CheckedItems.text l.items)) - l.low
