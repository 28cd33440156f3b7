use Rattle.std.proofs.Common.{[], ◌∷◌}
use Rattle.x_parser.specs.Symbols.{AnyName, AfterName}
use Rattle.x_trees.specs.Words.{Name}
use Rattle.x_parser.proofs.ReadLemmas.{exit, fails_alike, fails_more, fails_then, read_alike, read_more}
use Rattle.x_parser.proofs.ReadLemmas.{read_after}
use Rattle.x_parser.proofs.LoopLemmas.{no_star}
use Rattle.x_parser.proofs.declarator.named.Goals as goal

pub returns-in_err-text-2-clause-stuck : goal.returns-in_err-text-2-clause-stuck
returns-in_err-text-2-clause-stuck c =
    let same = no_star c.args.ending c.in_default.ensures.none in
    exit _ _ c.from_residual-in_err-text-2.ensures.1
    (fails_alike same (fails_more (AnyName ∷ []) (AfterName c.args.ending ∷ [])
    c.in_err-text-2.ensures.stuck))

pub returns-in_err-shape-clause-stuck : goal.returns-in_err-shape-clause-stuck
returns-in_err-shape-clause-stuck c =
    let same = no_star c.args.ending c.in_default.ensures.none in
    let start = read_alike same
    (read_more (AnyName ∷ []) (AfterName c.args.ending ∷ []) c.in_ok-text-2.ensures.read) in
    exit _ _ c.from_residual-in_err-shape.ensures.1
    (fails_then (AfterName c.args.ending ∷ []) [] start c.in_err-shape.ensures.stuck)

pub returns-clause-read : goal.returns-clause-read
returns-clause-read c =
    let same = no_star c.args.ending c.in_default.ensures.none in
    let start = read_alike same
    (read_more (AnyName ∷ []) (AfterName c.args.ending ∷ []) c.in_ok-text-2.ensures.read) in
    read_after (AfterName c.args.ending ∷ []) [] [] (Name c.in_ok-text-2.text.items) start
    (c.in_ok-shape.ensures.read c.in_ok-text-2.text.items)
