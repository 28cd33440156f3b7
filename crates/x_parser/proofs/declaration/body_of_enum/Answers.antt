use Rattle.std.proofs.Common.{[], ◌∷◌}
use Rattle.x_lex.specs.declared.mark.Mark.TheVariants as marks
use Rattle.x_parser.specs.Symbols.{Enumerators, Token}
use Rattle.x_parser.proofs.ReadLemmas.{exit, fails_alike, fails_more, fails_then, read_alike, read_more}
use Rattle.x_parser.proofs.ReadLemmas.{read_then}
use Rattle.x_parser.proofs.LoopLemmas.{of_enum}
use Rattle.x_parser.proofs.declaration.body_of_enum.Goals as goal

pub returns-in_err-rest-clause-stuck : goal.returns-in_err-rest-clause-stuck
returns-in_err-rest-clause-stuck c =
    let same = of_enum c.args.depth c.args.tokens.now in
    exit _ _ c.from_residual.ensures.1
    (fails_alike same (fails_more (Token marks.OpenBrace ∷ []) (Enumerators ∷ [])
    c.in_err-rest.ensures.stuck))

pub returns-in_err-members-clause-stuck : goal.returns-in_err-members-clause-stuck
returns-in_err-members-clause-stuck c =
    let start = read_alike (of_enum c.args.depth c.args.tokens.now)
    (read_more (Token marks.OpenBrace ∷ []) (Enumerators ∷ []) c.in_ok-rest.ensures.read) in
    exit _ _ c.from_residual-in_err-members.ensures.1
    (fails_then (Enumerators ∷ []) [] start c.in_err-members.ensures.stuck)

pub returns-clause-read : goal.returns-clause-read
returns-clause-read c =
    let start = read_alike (of_enum c.args.depth c.args.tokens.now)
    (read_more (Token marks.OpenBrace ∷ []) (Enumerators ∷ []) c.in_ok-rest.ensures.read) in
    rw c.fitted.ensures at (read_then (Enumerators ∷ []) [] start c.in_ok-members.ensures.read)
