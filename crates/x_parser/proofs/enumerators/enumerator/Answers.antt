use Rattle.std.proofs.Common.{[], ◌∷◌}
use Rattle.x_parser.specs.Symbols.{AnyName, AfterEnumerator}
use Rattle.x_trees.specs.Words.{Name}
use Rattle.x_parser.proofs.ReadLemmas.{exit, fails_alike, fails_more, fails_then, read_alike, read_more}
use Rattle.x_parser.proofs.ReadLemmas.{read_after}
use Rattle.x_parser.proofs.LoopLemmas.{of_enumerator}
use Rattle.x_parser.proofs.enumerators.enumerator.Goals as goal

pub returns-in_err-name-clause-stuck : goal.returns-in_err-name-clause-stuck
returns-in_err-name-clause-stuck c =
    exit _ _ c.from_residual.ensures.1
    (fails_alike (of_enumerator c.args.tokens.now)
    (fails_more (AnyName ∷ []) (AfterEnumerator ∷ []) c.in_err-name.ensures.stuck))

pub returns-in_err-value-clause-stuck : goal.returns-in_err-value-clause-stuck
returns-in_err-value-clause-stuck c =
    let start = read_alike (of_enumerator c.args.tokens.now)
    (read_more (AnyName ∷ []) (AfterEnumerator ∷ []) c.in_ok-name.ensures.read) in
    exit _ _ c.from_residual-in_err-value.ensures.1
    (fails_then (AfterEnumerator ∷ []) [] start c.in_err-value.ensures.stuck)

pub returns-clause-read : goal.returns-clause-read
returns-clause-read c =
    let start = read_alike (of_enumerator c.args.tokens.now)
    (read_more (AnyName ∷ []) (AfterEnumerator ∷ []) c.in_ok-name.ensures.read) in
    read_after (AfterEnumerator ∷ []) [] [] (Name c.in_ok-name.name.items) start
    (c.in_ok-value.ensures.read c.in_ok-name.name.items)
