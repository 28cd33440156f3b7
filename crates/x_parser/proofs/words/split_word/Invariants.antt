use Rattle.std.proofs.Common.{◌≡◌, drop}
use Rattle.x_parser.specs.Reading.{ahead}
use Rattle.x_parser.proofs.words.split_word.Given as goal

abbrev pub invariant-loop-at : goal.invariant-loop-at
invariant-loop-at l = ahead (drop l.at l.tokens) ≡ ahead l.tokens
