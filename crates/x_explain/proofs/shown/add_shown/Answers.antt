use Rattle.std.proofs.Common.{ℕ, drop, get_or, ◌+◌, subst, arith}
use Rattle.x_lists.proofs.ListLemmas.{drop_one, drop_none}
use Rattle.x_text.proofs.Listing.{HasListed, lists_more, lists_all}
use Rattle.x_explain.specs.Shown.{shown_byte}
use Rattle.x_explain.proofs.shown.add_shown.Goals as goal

pub loop-byte-preserved : goal.loop-byte-preserved
loop-byte-preserved g c =
    let all = c.args.bytes.now in
    let i = c.loop-byte.byte-index in
    let line = shown_byte c.args.is_utf8 in
    let start = g.S.Sink.state c.args.sink.now in
    let mid = g.S.Sink.state c.loop-byte.sink in
    lists_more line all (drop (i + 1) all) (get_or all i 0) c.args.pen.now c.loop-byte.pen
    c.add_shown_byte.new.pen start mid (g.S.Sink.state c.add_shown_byte.new.sink)
    (subst (λ bs. HasListed ℕ line all bs c.args.pen.now start c.loop-byte.pen mid)
    (drop_one all i 0 c.loop-byte-test.true) c.loop-byte.invariant)
    c.add_shown_byte.ensures

pub returns : goal.returns
returns g c =
    let all = c.args.bytes.now in
    lists_all (shown_byte c.args.is_utf8) all (drop c.loop-byte.byte-index all) c.args.pen.now c.loop-byte.pen
    (g.S.Sink.state c.args.sink.now) (g.S.Sink.state c.loop-byte.sink)
    (drop_none all c.loop-byte.byte-index (let over = c.loop-byte-test.false in omega (arith, over)))
    c.loop-byte.invariant
