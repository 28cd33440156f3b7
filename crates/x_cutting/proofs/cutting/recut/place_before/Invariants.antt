use Rattle.std.proofs.Common.{◌≡◌, ◌+◌}
use Rattle.x_lex.specs.Tiling.{end_of}
use Rattle.x_cutting.proofs.cutting.recut.place_before.Given as goal

abbrev pub invariant-loop-kept : goal.invariant-loop-kept
invariant-loop-kept l = l.length + end_of l.tokens.list l.index ≡ end_of l.tokens.list l.kept
