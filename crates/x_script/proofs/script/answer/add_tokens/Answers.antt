use Rattle.std.proofs.Common.{◌≡◌, ◌++◌, length, codes, ap, subst, ◌∙◌}
use Rattle.std.specs.List.{flat_map}
use Rattle.x_streams.specs.Writing.{Adds}
use Rattle.x_streams.proofs.Pens.{adds_trans}
use Rattle.x_lex.specs.Places.{Lexeme, lexeme}
use Rattle.x_compile.specs.Compile.{tokens_of}
use Rattle.x_script.specs.Answers.{counted_line, token_line, tokens_answer}
use Rattle.x_compile.proofs.Compiled.{one_compilation}
use Rattle.x_text.proofs.Listing.{HasListed, lists_more, lists_all}
use Rattle.x_script.proofs.script.answer.add_tokens.Goals as goal

pub loop-token-preserved : goal.loop-token-preserved
loop-token-preserved g c =
    let start = g.S.Sink.state c.add_counted.new.sink in
    let mid = g.S.Sink.state c.loop-token.sink in
    let all = c.into_iter-token-iterator.result in
    lists_more token_line all c.next.new.self (lexeme c.in-Some.token) c.add_counted.new.pen c.loop-token.pen
    c.add_token.new.pen start mid (g.S.Sink.state c.add_token.new.sink)
    (subst (λ ls. HasListed Lexeme token_line all ls c.add_counted.new.pen start c.loop-token.pen mid)
    c.in-Some.ensures.steps c.loop-token.invariant)
    c.add_token.ensures

pub returns : goal.returns
returns g c =
    let one = c.token_count.ensures in
    let two = c.tokens-token-items.ensures in
    let same : one.1 ≡ two.1 =
    (one_compilation c.args.session.now.known c.args.session.now.text one.0 two.0 one.1 two.1
    one.2 two.2).1 in
    let items = two.1 in
    let all = c.into_iter-token-iterator.result in
    let start = g.S.Sink.state c.args.sink.now in
    let mid = g.S.Sink.state c.add_counted.new.sink in
    let end = g.S.Sink.state c.loop-token.sink in
    let listed = lists_all token_line all c.loop-token.token-iterator c.add_counted.new.pen c.loop-token.pen
    mid end c.in-None.ensures.steps.0 c.loop-token.invariant in
    let told = adds_trans c.args.pen.now c.add_counted.new.pen c.loop-token.pen start mid end
    (counted_line (codes "tokens") c.token_count.result) (flat_map token_line all)
    c.add_counted.ensures listed in
    let count : c.token_count.result ≡ length (tokens_of items) = one.3
    ∙ ap (λ is. length (tokens_of is)) same in
    let tokens : all ≡ tokens_of items = c.into_iter-token-iterator.ensures.into_iter_gives ∙ two.3 in
    let text : counted_line (codes "tokens") c.token_count.result ++ flat_map token_line all
    ≡ tokens_answer (tokens_of items) =
    λ i. counted_line (codes "tokens") (count i) ++ flat_map token_line (tokens i) in
    (two.0, items, two.2, subst (λ t. Adds c.args.pen.now start c.loop-token.pen end t) text told)
