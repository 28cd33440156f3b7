use Rattle.std.proofs.Common.{true, ap, arith, drop, length, length-drop, ◌∙◌}
use Rattle.x_lex.specs.Tiling.{span}
use Rattle.x_lex.specs.Places.{lexemes_from}
use Rattle.x_lex.proofs.SpanLemmas.{span_tiles, span-drop, lexemes_behind, length-lexemes_from}
use Rattle.x_lex.proofs.tokens.Tokens.iter_at.Goals as goal

pub invariant_of-result : goal.invariant_of-result
invariant_of-result c =
    let ts = c.args.self.now.list in
    let list = ap (λ v. v.list) c.self.view_is in
    let spans = span_tiles true c.args.source.now ts c.requires.tokens in
    let parts = span-drop ts c.args.index in
    let rest = ap span (c.iter_from.ensures.list ∙ ap (drop c.args.index) list) in
    let start = c.requires.start in
    let text = ap length c.bytes.ensures.text in
    omega (arith, spans, parts, rest, start, text)

pub returns-clause-tokens : goal.returns-clause-tokens
returns-clause-tokens c =
    let ts = c.args.self.now.list in
    let list = ap (λ v. v.list) c.self.view_is in
    let rest = c.iter_from.ensures.list ∙ ap (drop c.args.index) list in
    (λ i. lexemes_from (c.bytes.ensures.text i) c.args.start (rest i))
    ∙ lexemes_behind c.args.source.now ts c.args.index c.args.start c.requires.start

pub returns-clause-small : goal.returns-clause-small
returns-clause-small c =
    let list = ap (λ v. v.list) c.self.view_is in
    let count = length-lexemes_from c.bytes.result.now c.args.start c.iter_from.result
    ∙ ap length c.iter_from.ensures.list in
    let left = length-drop c.args.index c.self.inside.entries.list in
    let few = c.self.invariant.few in
    omega (arith, count, left, few)
