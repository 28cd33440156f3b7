use Rattle.std.proofs.Common.{◌≡◌}
use Rattle.x_contents.specs.Folds.{folds_from, found_in}
use Rattle.x_contents.specs.Reading.{folding_of}
use Rattle.x_contents.proofs.folds.found_folds.Given as goal

abbrev pub invariant-loop-token : goal.invariant-loop-token
invariant-loop-token l = record {
  folds : folds_from l.shown
      (folding_of l.reader) l.token-iterator ≡ found_in l.shown l.initial.token-iterator;
  shown : l.reader.places.text ≡ l.shown;
}
