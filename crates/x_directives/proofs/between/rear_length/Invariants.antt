use Rattle.std.proofs.Common.{◌≡◌, ◌-◌, ◌≤◌, drop, length}
use Rattle.x_directives.proofs.between.rear_length.Given as goal

abbrev pub invariant-by_block : goal.invariant-by_block
invariant-by_block l = record {
  in_old : l.most ≤ length l.old;
  in_new : l.most ≤ length l.new;
  within : l.same ≤ l.most;
  same : drop (length l.old - l.same) l.old ≡ drop (length l.new - l.same) l.new;
}

abbrev pub decreases-by_block : goal.decreases-by_block
decreases-by_block l = l.most - l.same

abbrev pub invariant-by_byte : goal.invariant-by_byte
invariant-by_byte l = record {
  in_old : l.most ≤ length l.old;
  in_new : l.most ≤ length l.new;
  within : l.same ≤ l.most;
  same : drop (length l.old - l.same) l.old ≡ drop (length l.new - l.same) l.new;
}

abbrev pub decreases-by_byte : goal.decreases-by_byte
decreases-by_byte l = l.most - l.same
