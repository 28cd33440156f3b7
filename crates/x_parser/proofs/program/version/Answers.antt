use Rattle.std.proofs.Common.{[], ◌∷◌, ◌++◌, append_assoc}
use Rattle.x_lex.specs.declared.mark.Mark.TheVariants as marks
use Rattle.x_parser.specs.Symbols.{AnyName, Token, of_number, of_procedures}
use Rattle.x_parser.proofs.ReadLemmas.{read_as, read_more, read_then}
use Rattle.x_parser.proofs.program.version.Goals as goal

pub returns-clause-read : goal.returns-clause-read
returns-clause-read c =
    let keyword = read_more (Token marks.Version ∷ []) (AnyName ∷ of_procedures ++ of_number)
    c.in_ok-rest.ensures.read in
    let named = read_then (AnyName ∷ []) (of_procedures ++ of_number) keyword c.in_ok-name.ensures.read in
    let braced = rw c.fitted.ensures at
    (read_then of_procedures of_number named c.in_ok-procedures.ensures.read) in
    read_as (simp append_assoc) (read_then of_number [] braced c.in_ok-number.ensures.read)
