use Rattle.std.proofs.Common.{[], ◌∷◌, length, map}
use Rattle.x_trees.specs.Spell.{spell_enumerators, HasOne}
use Rattle.x_trees.specs.View.{view_enumerator}
use Rattle.x_parser.specs.Symbols.{Enumerators, MoreEnumerators}
use Rattle.x_parser.specs.Reading.{ReadsPart}
use Rattle.x_parser.proofs.enumerators.enumerators.Given as goal

abbrev pub invariant-loop-rest : goal.invariant-loop-rest
invariant-loop-rest l = record {
  read : ReadsPart [] (Enumerators ∷ []) l.tokens (spell_enumerators (map view_enumerator l.members.items))
      (MoreEnumerators ∷ []) l.left;
  some : HasOne (map view_enumerator l.members.items);
}

abbrev pub decreases-loop-rest : goal.decreases-loop-rest
decreases-loop-rest l = length l.left
