use Rattle.std.proofs.Common.{[], ◌∷◌}
use Rattle.x_trees.specs.Words.{Name}
use Rattle.x_parser.specs.Symbols.{AnyLength, Token, ending_mark}
use Rattle.x_parser.proofs.ReadLemmas.{exit, fails_alike, fails_more, fails_then, fails_along, part_along}
use Rattle.x_parser.proofs.ReadLemmas.{read_alike, read_more, read_then, read_after_word}
use Rattle.x_parser.proofs.LoopLemmas.{ended_name, after_name}
use Rattle.x_parser.proofs.declarator.suffix.Goals as goal

pub returns-in-Some-clause-read : goal.returns-in-Some-clause-read
returns-in-Some-clause-read c =
    λ name. read_after_word (Name name) (ended_name c.args.ending c.mark.ensures c.in-Some.ensures.some)

pub returns-in_err-length-clause-stuck : goal.returns-in_err-length-clause-stuck
returns-in_err-length-clause-stuck c =
    let e = c.args.ending in
    let same = after_name e c.mark.ensures c.in_default.ensures.none in
    exit _ _ c.from_residual.ensures.1
    (fails_alike same (fails_more (AnyLength ∷ []) (Token (ending_mark e) ∷ [])
    c.in_err-length.ensures.stuck))

pub returns-in_err-rest-clause-stuck : goal.returns-in_err-rest-clause-stuck
returns-in_err-rest-clause-stuck c =
    let e = c.args.ending in
    let same = after_name e c.mark.ensures c.in_default.ensures.none in
    let start = read_alike same
    (read_more (AnyLength ∷ []) (Token (ending_mark e) ∷ []) c.in_ok-length.ensures.read) in
    exit _ _ c.from_residual-in_err-rest.ensures.1
    (fails_then (Token (ending_mark e) ∷ []) [] start
    (fails_along c.mark-2.ensures c.in_err-rest.ensures.stuck))

pub returns-clause-read : goal.returns-clause-read
returns-clause-read c =
    let e = c.args.ending in
    let same = after_name e c.mark.ensures c.in_default.ensures.none in
    let start = read_alike same
    (read_more (AnyLength ∷ []) (Token (ending_mark e) ∷ []) c.in_ok-length.ensures.read) in
    λ name. read_after_word (Name name)
    (read_then (Token (ending_mark e) ∷ []) [] start (part_along c.mark-2.ensures c.in_ok-rest.ensures.read))
