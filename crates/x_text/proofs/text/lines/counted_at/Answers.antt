use Rattle.std.proofs.Common.{◌+◌, ◌-◌, drop, arith, sym, subst, length-take}
use Rattle.x_text.specs.Text.{AreCounts}
use Rattle.x_text.proofs.Columns.{counts_more, since_le}
use Rattle.x_text.proofs.text.lines.counted_at.Goals as goal

pub joined_line-requires : goal.joined_line-requires
joined_line-requires c =
    let since = since_le c.args.bytes.now c.args.from.at c.args.from.feeds c.args.from.since_feed
    c.requires.counts in
    let passed = length-take (c.args.to - c.args.from.at) (drop c.args.from.at c.args.bytes.now) in
    omega (arith, since, passed)

pub returns-clause-counts : goal.returns-clause-counts
returns-clause-counts c =
    let counts = counts_more c.args.bytes.now c.args.from.at c.args.from.feeds c.args.from.since_feed
    c.args.to c.last_line-line.result c.line_feeds.result
    c.requires.counts c.requires.forward c.requires.within c.last_line-line.ensures.count
    c.line_feeds.ensures.count in
    subst (λ n. AreCounts c.args.bytes.now c.args.to (c.args.from.feeds + c.line_feeds.result) n)
    (sym c.joined_line.ensures) counts
