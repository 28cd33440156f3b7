use Rattle.std.proofs.Common.{[], ◌∷◌, ◌++◌, append_assoc}
use Rattle.x_lex.specs.declared.mark.Mark.TheVariants as marks
use Rattle.x_trees.specs.Words.{Fixed}
use Rattle.x_parser.specs.Symbols.{AnyName, of_number, of_versions}
use Rattle.x_parser.proofs.ReadLemmas.{read_after_word, read_as, read_more, read_then}
use Rattle.x_parser.proofs.definition.program.Goals as goal

pub returns-clause-read : goal.returns-clause-read
returns-clause-read c =
    let named = read_more (AnyName ∷ []) (of_versions ++ of_number) c.in_ok-name.ensures.read in
    let braced = rw c.fitted.ensures at
    (read_then of_versions of_number named c.in_ok-versions.ensures.read) in
    read_as (simp append_assoc)
    (read_after_word (Fixed marks.Program) (read_then of_number [] braced c.in_ok-number.ensures.read))
