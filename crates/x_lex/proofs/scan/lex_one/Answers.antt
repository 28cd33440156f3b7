use Rattle.std.proofs.Common.{◌≡◌, ◌-◌, ◌+◌, drop, arith, subst, length-drop}
use Rattle.x_lex.specs.Word.{IsToken}
use Rattle.x_lex.proofs.TilingLemmas.{TokenHere, token_at}
use Rattle.x_lex.proofs.PlaceLemmas.{token_place}
use Rattle.x_lex.proofs.scan.lex_one.Goals as goal
use Rattle.x_lex.proofs.scan.lex_one.Goals.{After-first_token-kind}

found : (c : After-first_token-kind)
    → TokenHere c.args.bytes.now c.args.at c.args.line_start c.first_token-kind.result
found c = token_at c.args.bytes.now c.args.at c.args.line_start c.first_token-kind.result c.requires
    c.first_token-kind.ensures

pub overflow_add-result : goal.overflow_add-result
overflow_add-result c =
    let s = (found c).spans.within in let e = length-drop c.args.at c.args.bytes.now in omega (arith, s, e)

pub returns-clause-after : goal.returns-clause-after
returns-clause-after c = let s = (found c).spans.some in omega (arith, s)

pub returns-clause-within : goal.returns-clause-within
returns-clause-within c =
    let s = (found c).spans.within in let e = length-drop c.args.at c.args.bytes.now in omega (arith, s, e)

token_of : (c : After-first_token-kind)
    → IsToken c.first_token-kind.result.0 c.args.line_start (drop c.args.at c.args.bytes.now)
    (c.args.at + c.first_token-kind.result.1 - c.args.at)
token_of c =
    let e : c.first_token-kind.result.1 ≡ c.args.at + c.first_token-kind.result.1 - c.args.at = omega arith in
    subst (λ n. IsToken c.first_token-kind.result.0 c.args.line_start (drop c.args.at c.args.bytes.now) n) e
    (found c).token

pub returns-clause-token : goal.returns-clause-token
returns-clause-token c = token_of c

pub returns-clause-at_place : goal.returns-clause-at_place
returns-clause-at_place c =
    λ starts. token_place c.args.bytes.now c.first_token-kind.result.0 c.args.at
    (c.args.at + c.first_token-kind.result.1) c.args.line_start starts
    (let s = (found c).spans.some in omega (arith, s)) (token_of c)
