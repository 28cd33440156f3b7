use Rattle.std.proofs.Common.{◌≡◌, ◌+◌, ◌≤◌, ℕ}
use Rattle.x_compile.specs.ItemReading.{place_read}
use Rattle.x_compile.proofs.reader.Reader.seek.Given as goal

abbrev pub invariant-loop-self : goal.invariant-loop-self
invariant-loop-self l = record {
  words : l.self.words ≤ l.word + 1;
  same : (later : ℕ) → l.word ≤ later → place_read l.self later ≡ place_read l.fn.self later;
}

abbrev pub decreases-loop-self : goal.decreases-loop-self
decreases-loop-self l = l.self.left
