-- How far folds, symbols and tokens are found, as the program keeps it.
use Rattle.std.specs.Global.{Global}
use Rattle.std.specs.Prelude.{ℕ, List, map}
use Rattle.std.specs.declared.vec.Vec.{Vec}
use Rattle.x_contents.specs.Folds.{Folding}
use Rattle.x_contents.specs.Kept.{spelt}
use Rattle.x_contents.specs.Symbols.{Outline, Siblings}
use Rattle.x_contents.specs.Tokens.{Told}
use Rattle.x_contents.specs.declared.folds.FoldReader.{FoldReader}
use Rattle.x_contents.specs.declared.phrased_text.PhrasedText.{PhrasedText}
use Rattle.x_contents.specs.declared.symbols.Level.{Level}
use Rattle.x_contents.specs.declared.tokens.ToldTokens.{ToldTokens}

abbrev pub folding_of : FoldReader → Folding
folding_of r = record { folds = r.folds.items; braces = r.braces.items; passed_on = r.passed_on }

abbrev pub siblings_of : Level → Siblings ℕ
siblings_of l = record { depth = l.depth; told = spelt l.text }

abbrev pub levels_of : List Level → List (Siblings ℕ)
levels_of levels = map siblings_of levels

abbrev pub outline_of : Vec Level Global → PhrasedText → Outline ℕ
outline_of levels text = record { levels = levels_of levels.items; told = spelt text }

abbrev pub told_of : ToldTokens → Told
told_of t = record { numbers = t.numbers.items; before = t.before }
