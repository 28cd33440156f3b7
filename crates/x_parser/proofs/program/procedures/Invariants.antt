use Rattle.std.proofs.Common.{[], ◌++◌, ◌∷◌, length, map}
use Rattle.x_lex.specs.declared.mark.Mark.TheVariants as marks
use Rattle.x_trees.specs.Words.{Fixed}
use Rattle.x_trees.specs.Spell.{spell_procedures, ProceduresFit}
use Rattle.x_trees.specs.View.{view_procedure}
use Rattle.x_parser.specs.Symbols.{MoreProcedures, of_procedure, of_procedures}
use Rattle.x_parser.specs.Reading.{ReadsPart}
use Rattle.x_parser.proofs.program.procedures.Given as goal

abbrev pub invariant-loop-members : goal.invariant-loop-members
invariant-loop-members l = record {
  read : ReadsPart [] of_procedures l.tokens
      (Fixed marks.OpenBrace ∷ spell_procedures (map view_procedure l.members.items))
      (of_procedure ++ MoreProcedures ∷ []) l.left;
  fits : ProceduresFit (map view_procedure l.members.items);
}

abbrev pub decreases-loop-members : goal.decreases-loop-members
decreases-loop-members l = length l.left
