use Rattle.std.proofs.Common.{◌≡◌, ◌+◌, ◌-◌, ◌≤◌, length, drop}
use Rattle.x_lex.specs.Tiling.{end_of}
use Rattle.x_lex.specs.TokenList.{patched}
use Rattle.x_cutting.specs.Cutting.{roles, counts_from}
use Rattle.x_cutting.proofs.cutting.recut.item_from.Given as goal

abbrev pub invariant-loop-kind : goal.invariant-loop-kind
invariant-loop-kind l = record {
  goes_on : counts_from 0 0 (drop l.index (roles l.text (patched l.tokens.list l.patch)))
      ≡ counts_from l.cutter l.count
      (drop (l.index + l.count) (roles l.text (patched l.tokens.list l.patch)));
  within : l.index + l.count ≤ length (patched l.tokens.list l.patch);
  place_is : l.place ≡ end_of (patched l.tokens.list l.patch) (l.index + l.count);
  deep : l.cutter ≤ l.count;
}

abbrev pub decreases-loop-kind : goal.decreases-loop-kind
decreases-loop-kind l = length (patched l.tokens.list l.patch) - (l.index + l.count)
