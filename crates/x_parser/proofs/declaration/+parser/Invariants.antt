use Rattle.std.proofs.Common.{◌+◌, ◌*◌, [], ◌∷◌, ◌++◌, length}
use Rattle.x_lex.specs.declared.mark.Mark.TheVariants as marks
use Rattle.x_trees.specs.Words.{Fixed}
use Rattle.x_trees.specs.Spell.{spell_declarations, spell_arms, ArmsFit, DeclarationsFit}
use Rattle.x_trees.specs.View.{view_declarations, view_arms}
use Rattle.x_parser.specs.declared.ending.Ending.TheVariants as endings
use Rattle.x_trees.specs.declared.trees.declaration.Tag.TheVariants as tags
use Rattle.x_parser.specs.Symbols.{AnyBody, AnyValue, Token, AfterCase, Arms, MoreArms, Declared}
use Rattle.x_parser.specs.Symbols.{MoreDeclarations}
use Rattle.x_parser.specs.Reading.{ReadsPart}
use Rattle.x_parser.proofs.declaration.+parser.Given as goal

abbrev pub decreases-data_type : goal.decreases-data_type
decreases-data_type l = 8 * l.depth + 1

abbrev pub decreases-tagged : goal.decreases-tagged
decreases-tagged l = 8 * l.depth

abbrev pub decreases-declared : goal.decreases-declared
decreases-declared l = 8 * l.depth + 2

abbrev pub decreases-arm : goal.decreases-arm
decreases-arm l = 8 * l.depth + 3

abbrev pub decreases-default_arm : goal.decreases-default_arm
decreases-default_arm l = 8 * l.depth + 3

abbrev pub decreases-arms : goal.decreases-arms
decreases-arms l = 8 * l.depth + 4

abbrev pub decreases-body_of_struct : goal.decreases-body_of_struct
decreases-body_of_struct l = 8 * l.depth + 5

abbrev pub decreases-body_of_union : goal.decreases-body_of_union
decreases-body_of_union l = 8 * l.depth + 5

abbrev pub decreases-body : goal.decreases-body
decreases-body l = 8 * l.depth + 6

abbrev pub invariant-body_of_struct-loop-members : goal.invariant-body_of_struct-loop-members
invariant-body_of_struct-loop-members l = record {
  read : ReadsPart [] (AnyBody tags.Struct l.depth ∷ []) l.tokens
      (Fixed marks.OpenBrace ∷ spell_declarations (view_declarations l.members.items))
      (Declared l.depth endings.Semicolon ∷ MoreDeclarations l.depth ∷ []) l.left;
  fits : DeclarationsFit (view_declarations l.members.items) l.depth;
}

abbrev pub decreases-body_of_struct-loop-members : goal.decreases-body_of_struct-loop-members
decreases-body_of_struct-loop-members l = length l.left

abbrev pub invariant-arms-loop-arms : goal.invariant-arms-loop-arms
invariant-arms-loop-arms l = record {
  read : ReadsPart [] (Token marks.OpenBrace ∷ Arms l.depth ∷ []) l.tokens
      (Fixed marks.OpenBrace ∷ (spell_arms (view_arms l.arms.items) ++ Fixed marks.Case ∷ []))
      (AnyValue ∷ Token marks.Colon ∷ AfterCase l.depth ∷ MoreArms l.depth ∷ []) l.left;
  fits : ArmsFit (view_arms l.arms.items) l.depth;
}

abbrev pub decreases-arms-loop-arms : goal.decreases-arms-loop-arms
decreases-arms-loop-arms l = length l.left
