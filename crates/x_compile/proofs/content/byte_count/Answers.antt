use Rattle.std.proofs.Common.{arith}
use Rattle.x_compile.proofs.WalkedItems.{counted_more, bytes_left}
use Rattle.x_compile.proofs.content.byte_count.Goals as goal

pub loop-token-preserved : goal.loop-token-preserved
loop-token-preserved c =
    counted_more c.args.tokens.now c.loop-token.token-index _ c.loop-token.count c.saturating_add-count.result
    _ c.saturating_add-count.ensures c.loop-token-test.true c.loop-token.invariant
    (let small = c.requires in omega (arith, small))

pub overflow_cast-result : goal.overflow_cast-result
overflow_cast-result c =
    let all = c.loop-token.invariant in
    let small = c.requires in
    omega (arith, all, small)

pub returns : goal.returns
returns c =
    let all = c.loop-token.invariant in
    let none = bytes_left c.args.tokens.now c.loop-token.token-index c.loop-token-test.false in
    omega (arith, all, none)
