use Rattle.std.proofs.Common.{◌≡◌, ◌+◌, ◌≤◌, ◌++◌, reverse, vec_len, vec_capacity}
use Rattle.x_lists.proofs.shift.shift.Given as goal

abbrev pub invariant-loop-i : goal.invariant-loop-i
invariant-loop-i g l = record {
  entries : l.from.items ++ reverse l.onto.items ≡ l.initial.from.items ++ reverse l.initial.onto.items;
  from : vec_len l.from + l._i ≡ vec_len l.initial.from;
  onto : vec_len l.onto ≡ vec_len l.initial.onto + l._i;
  counted : l.moves.total ≡ l.initial.moves.total + l._i;
  capacity_from : vec_capacity l.from ≡ vec_capacity l.initial.from;
  capacity_onto : vec_capacity l.initial.onto ≤ vec_capacity l.onto;
}
