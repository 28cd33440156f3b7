use Rattle.std.proofs.Common.{◌≡◌, ◌++◌, map}
use Rattle.x_warnings.specs.Warnings.{spots_in, view_warning, warning_of}
use Rattle.x_warnings.proofs.finding.placed.Given as goal

-- those so far are at their places
abbrev pub invariant-loop-clash : goal.invariant-loop-clash
invariant-loop-clash l = record {
  split : l.fn.found.items ≡ l.yielded ++ l.clash-iterator.rest.items;
  placed : map view_warning l.list.items ≡ map (warning_of (spots_in l.table)) l.yielded;
}
