use Rattle.std.proofs.Common.{ℕ, drop, get_or, ◌+◌, subst, arith}
use Rattle.x_lists.proofs.ListLemmas.{drop_one, drop_none}
use Rattle.x_streams.specs.Writing.{Adds}
use Rattle.x_text.proofs.Listing.{HasListed, lists_more, lists_all}
use Rattle.x_contents.specs.Phrases.{spelt_byte, spelt_out}
use Rattle.x_contents.proofs.phrased_text.PhrasedText.add_to.Goals as goal

pub loop-byte-preserved : goal.loop-byte-preserved
loop-byte-preserved g c =
    let all = c.deref-byte-items.result.now in
    let i = c.loop-byte.byte-index in
    let start = g.S.Sink.state c.args.sink.now in
    let mid = g.S.Sink.state c.loop-byte.sink in
    let end = g.S.Sink.state c.add_spelt.new.sink in
    let so = subst (λ bs. HasListed ℕ spelt_byte all bs c.args.pen.now start c.loop-byte.pen mid)
    (drop_one all i 0 c.loop-byte-test.true) c.loop-byte.invariant in
    lists_more spelt_byte all (drop (i + 1) all) (get_or all i 0) c.args.pen.now c.loop-byte.pen
    c.add_spelt.new.pen start mid end so c.add_spelt.ensures

pub returns : goal.returns
returns g c =
    let all = c.deref-byte-items.result.now in
    let i = c.loop-byte.byte-index in
    let start = g.S.Sink.state c.args.sink.now in
    let now = g.S.Sink.state c.loop-byte.sink in
    let none = drop_none all i (let over = c.loop-byte-test.false in omega (arith, over)) in
    subst (λ bs. Adds c.args.pen.now start c.loop-byte.pen now
    (spelt_out bs)) c.deref-byte-items.ensures.value
    (lists_all spelt_byte all
    (drop i all) c.args.pen.now c.loop-byte.pen start now none c.loop-byte.invariant)
