use Rattle.std.proofs.Common.{[], ◌++◌, ◌∷◌, length, map}
use Rattle.x_lex.specs.declared.mark.Mark.TheVariants as marks
use Rattle.x_trees.specs.Words.{Fixed}
use Rattle.x_trees.specs.Spell.{spell_versions, VersionsFit}
use Rattle.x_trees.specs.View.{view_version}
use Rattle.x_parser.specs.Symbols.{MoreVersions, of_version, of_versions}
use Rattle.x_parser.specs.Reading.{ReadsPart}
use Rattle.x_parser.proofs.program.versions.Given as goal

abbrev pub invariant-loop-members : goal.invariant-loop-members
invariant-loop-members l = record {
  read : ReadsPart [] of_versions l.tokens
      (Fixed marks.OpenBrace ∷ spell_versions (map view_version l.members.items))
      (of_version ++ MoreVersions ∷ []) l.left;
  fits : VersionsFit (map view_version l.members.items);
}

abbrev pub decreases-loop-members : goal.decreases-loop-members
decreases-loop-members l = length l.left
