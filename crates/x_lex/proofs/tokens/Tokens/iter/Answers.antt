use Rattle.std.proofs.Common.{true, ap, arith, length, ◌∙◌}
use Rattle.x_lex.specs.Tiling.{span}
use Rattle.x_lex.proofs.SpanLemmas.{span_tiles, length-lexemes_from}
use Rattle.x_lex.proofs.tokens.Tokens.iter.Goals as goal

pub invariant_of-result : goal.invariant_of-result
invariant_of-result c =
    let spans = span_tiles true c.args.source.now c.args.self.now.list c.requires in
    let view = ap span (c.iter.ensures.list ∙ ap (λ v. v.list) c.self.view_is) in
    let text = ap length c.bytes.ensures.text in
    omega (arith, spans, view, text)

pub returns-clause-small : goal.returns-clause-small
returns-clause-small c =
    let count = length-lexemes_from c.bytes.result.now 0 c.iter.result ∙ ap length c.iter.ensures.list in
    let few = c.self.invariant.few in
    omega (arith, count, few)
