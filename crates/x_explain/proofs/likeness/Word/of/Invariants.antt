use Rattle.std.proofs.Common.{◌≡◌, length, take}
use Rattle.x_explain.specs.Suggestions.{HasBytes}
use Rattle.x_explain.proofs.likeness.Word.of.Given as goal

abbrev pub invariant-loop-byte : goal.invariant-loop-byte
invariant-loop-byte l = record {
  known : HasBytes l.has (take l.byte-index l.bytes);
  full : length l.has ≡ 256;
}
