use Rattle.std.proofs.Common.{ℕ, [], ◌∷◌, length, map}
use Rattle.x_trees.specs.Words.{Fixed}
use Rattle.x_trees.specs.Spell.{spell_cases, HasOne}
use Rattle.x_trees.specs.View.{view_value}
use Rattle.x_lex.specs.declared.mark.Mark.TheVariants as marks
use Rattle.x_parser.specs.Symbols.{AnyValue, Token, AfterCase}
use Rattle.x_parser.specs.Reading.{ReadsPart}
use Rattle.x_parser.proofs.cases.cases.Given as goal

abbrev pub invariant-loop-rest : goal.invariant-loop-rest
invariant-loop-rest l = record {
  read : (n : ℕ) → ReadsPart (Fixed marks.Case ∷ []) (AnyValue ∷ Token marks.Colon ∷ AfterCase n ∷ [])
      l.tokens (spell_cases (map view_value l.cases.items)) (AfterCase n ∷ []) l.left;
  some : HasOne (map view_value l.cases.items);
}

abbrev pub decreases-loop-rest : goal.decreases-loop-rest
decreases-loop-rest l = length l.left
