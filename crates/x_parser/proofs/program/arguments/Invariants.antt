use Rattle.std.proofs.Common.{[], ◌++◌, ◌∷◌, length, map}
use Rattle.x_lex.specs.declared.mark.Mark.TheVariants as marks
use Rattle.x_trees.specs.Words.{Fixed}
use Rattle.x_trees.specs.Spell.{spell_passed, spell_others, PassedFits, OthersFit}
use Rattle.x_trees.specs.View.{view_passed, view_argument}
use Rattle.x_parser.specs.Symbols.{InArguments, AfterType, of_arguments}
use Rattle.x_parser.specs.Reading.{ReadsPart}
use Rattle.x_parser.proofs.program.arguments.Given as goal

abbrev pub invariant-loop-rest : goal.invariant-loop-rest
invariant-loop-rest l = record {
  read : ReadsPart [] of_arguments l.tokens
      (Fixed marks.OpenParenthesis ∷ (spell_passed (view_passed l.head)
      ++ spell_others (map view_argument l.others.items))) (AfterType InArguments ∷ []) l.left;
  first_fits : PassedFits (view_passed l.head);
  fits : OthersFit (map view_argument l.others.items);
}

abbrev pub decreases-loop-rest : goal.decreases-loop-rest
decreases-loop-rest l = length l.left
