use Rattle.std.proofs.Common.{◌∷◌, ap, ◌∙◌}
use Rattle.std.specs.List.{flat_map}
use Rattle.x_frames.specs.ListTexts.{ended}
use Rattle.x_contents.specs.Folds.{fold_text}
use Rattle.x_contents.proofs.FoldLemmas.{folds_text, no_more}
use Rattle.x_contents.proofs.folds.folds_text.Goals as goal

pub returns : goal.returns
returns c =
    c.in_ok-end_list.ensures
    ∙ ap ended (no_more fold_text c.loop-fold.text.items c.args.folds.now c.loop-fold.fold-index
    (91 ∷ flat_map fold_text c.args.folds.now) c.loop-fold-test.false c.loop-fold.invariant)
    ∙ folds_text c.args.folds.now
