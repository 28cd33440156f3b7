use Rattle.std.proofs.Common.{◌≡◌, true, ap, arith, drop, length, length-drop, ◌∙◌}
use Rattle.x_lex.specs.Tiling.{span, end_of}
use Rattle.x_lex.specs.TokenList.{patched}
use Rattle.x_lex.specs.Places.{lexemes_from}
use Rattle.x_lex.proofs.SpanLemmas.{span_tiles, span-drop, lexemes_behind, length-lexemes_from}
use Rattle.x_lex.proofs.RelexEnds.{tokens_fit}
use Rattle.x_lex.proofs.tokens.Tokens.iter_patched.Goals as goal

pub start_patched-start-requires-clause-short : goal.start_patched-start-requires-clause-short
start_patched-start-requires-clause-short c =
    let list = ap (λ v. v.list) c.self.view_is in
    let ts = patched c.args.self.now.list c.args.patch.now in
    let fits = (tokens_fit c.args.source.now ts c.requires.tokens c.bytes-text.ensures.small).short in
    let same : span (patched c.self.inside.entries.list c.entries.result.now) ≡ span ts =
    (λ i. span (patched (list i) (c.entries.ensures i))) in
    omega (arith, fits, same)

pub new-requires : goal.new-requires
new-requires c =
    let list = ap (λ v. v.list) c.self.view_is in
    let ts = patched c.args.self.now.list c.args.patch.now in
    let spans = span_tiles true c.args.source.now ts c.requires.tokens in
    let parts = span-drop ts c.args.index in
    let rest : span c.iter_patched-entries.result ≡ span (drop c.args.index ts) =
    ap span (c.iter_patched-entries.ensures
    ∙ (λ i. drop c.args.index (patched (list i) (c.entries-2.ensures i)))) in
    let start : c.start_patched-start.result ≡ end_of ts c.args.index = c.start_patched-start.ensures
    ∙ (λ i. end_of (patched (list i) (c.entries.ensures i)) c.args.index) in
    let text = ap length c.bytes-text.ensures.text in
    omega (arith, spans, parts, rest, start, text)

pub returns-clause-tokens : goal.returns-clause-tokens
returns-clause-tokens c =
    let list = ap (λ v. v.list) c.self.view_is in
    let ts = patched c.args.self.now.list c.args.patch.now in
    let rest : c.iter_patched-entries.result ≡ drop c.args.index ts = c.iter_patched-entries.ensures
    ∙ (λ i. drop c.args.index (patched (list i) (c.entries-2.ensures i))) in
    let start : c.start_patched-start.result ≡ end_of ts c.args.index = c.start_patched-start.ensures
    ∙ (λ i. end_of (patched (list i) (c.entries.ensures i)) c.args.index) in
    c.new.ensures ∙ (λ i. lexemes_from (c.bytes-text.ensures.text i) c.start_patched-start.result (rest i))
    ∙ lexemes_behind c.args.source.now ts c.args.index c.start_patched-start.result start

pub returns-clause-small : goal.returns-clause-small
returns-clause-small c =
    let list = ap (λ v. v.list) c.self.view_is in
    let ts = patched c.args.self.now.list c.args.patch.now in
    let fits = (tokens_fit c.args.source.now ts c.requires.tokens c.bytes-text.ensures.small).few in
    let rest : c.iter_patched-entries.result ≡ drop c.args.index ts = c.iter_patched-entries.ensures
    ∙ (λ i. drop c.args.index (patched (list i) (c.entries-2.ensures i))) in
    let count = ap length c.new.ensures
    ∙ length-lexemes_from c.bytes-text.result.now c.start_patched-start.result c.iter_patched-entries.result
    ∙ ap length rest in
    let left = length-drop c.args.index ts in
    omega (arith, count, left, fits)
