use Rattle.std.proofs.Common.{◌≡◌, ◌∷◌, ◌++◌, drop}
use Rattle.std.specs.List.{flat_map}
use Rattle.x_contents.specs.Folds.{fold_text}
use Rattle.x_contents.proofs.folds.folds_text.Given as goal

abbrev pub invariant-loop-fold : goal.invariant-loop-fold
invariant-loop-fold l = l.text.items ++ flat_map fold_text
    (drop l.fold-index l.folds) ≡ 91 ∷ flat_map fold_text l.folds
