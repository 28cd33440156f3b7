use Rattle.std.proofs.Common.{[], ◌∷◌, append_assoc}
use Rattle.x_parser.proofs.program.procedure.Goals as goal
use Rattle.x_lex.specs.declared.mark.Mark.TheVariants as marks
use Rattle.x_parser.specs.Symbols.{AnyName, Parameters, Token, of_number, of_arguments}
use Rattle.x_parser.specs.Symbols.{Result as AnyResult}
use Rattle.x_parser.proofs.ReadLemmas.{read_as, read_more, read_then}

pub returns-clause-read : goal.returns-clause-read
returns-clause-read c =
    let result = read_more (AnyResult ∷ []) (Token marks.OpenParenthesis ∷ Parameters ∷ of_number)
    c.in_ok-result.ensures.read in
    let named = read_then (AnyName ∷ []) (Token marks.OpenParenthesis ∷ Parameters ∷ of_number) result
    c.in_ok-name.ensures.read in
    let passed = read_then of_arguments of_number named c.in_ok-first.ensures.read in
    read_as (simp append_assoc) (read_then of_number [] passed c.in_ok-number.ensures.read)
