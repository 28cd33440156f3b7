use Rattle.std.proofs.Common.{◌≡◌, ◌≤◌, take}
use Rattle.x_explain.specs.Suggestions.{strange}
use Rattle.x_explain.proofs.likeness.Word.strange_in.Given as goal

-- those of the bytes so far
abbrev pub invariant-loop-byte : goal.invariant-loop-byte
invariant-loop-byte l = record {
  counted : l.count ≡ strange (take l.byte-index l.name) l.self.bytes.now;
  few : l.count ≤ l.byte-index;
}
