use Rattle.std.proofs.Common.{◌∙◌, sym, ap, subst, arith}
use Rattle.std.specs.List.{prefix_len}
use Rattle.std.proofs.lemmas.List.Sums.{prefix_len-le-length}
use Rattle.x_lines.specs.Lines.{is_feed, IsTrimmed}
use Rattle.x_lines.proofs.SearchLemmas.{trimmed, search_found, search_none}
use Rattle.x_lines.proofs.lines.search.Goals as goal

pub drop_front-requires : goal.drop_front-requires
drop_front-requires c =
    omega (
      arith,
      prefix_len-le-length is_feed c.args.queue.now,
      c.leading_feeds-feeds.ensures ∙ ap (prefix_len is_feed) c.bytes.ensures,
    )

pub returns-in_err-at-clause-trimmed : goal.returns-in_err-at-clause-trimmed
returns-in_err-at-clause-trimmed c =
    subst (IsTrimmed c.args.queue.now) (sym c.drop_front.ensures)
    (trimmed c.args.queue.now c.leading_feeds-feeds.result
    (c.leading_feeds-feeds.ensures ∙ ap (prefix_len is_feed) c.bytes.ensures))

pub returns-in_err-at-clause-found : goal.returns-in_err-at-clause-found
returns-in_err-at-clause-found c =
    rw c.from_residual.ensures (search_none c.args.queue.now c.drop_front.new.self c.bytes-2.result.now
    c.leading_feeds-feeds.result c.args.searched c.memchr.result
    (c.leading_feeds-feeds.ensures ∙ ap (prefix_len is_feed) c.bytes.ensures) c.drop_front.ensures
    c.requires.within c.requires.no_feed c.bytes-2.ensures c.memchr.ensures c.in_err-at.was)

pub returns-clause-trimmed : goal.returns-clause-trimmed
returns-clause-trimmed c =
    subst (IsTrimmed c.args.queue.now) (sym c.drop_front.ensures)
    (trimmed c.args.queue.now c.leading_feeds-feeds.result
    (c.leading_feeds-feeds.ensures ∙ ap (prefix_len is_feed) c.bytes.ensures))

pub returns-clause-found : goal.returns-clause-found
returns-clause-found c =
    search_found c.args.queue.now c.drop_front.new.self c.bytes-2.result.now c.leading_feeds-feeds.result
    c.args.searched c.memchr.result
    (c.leading_feeds-feeds.ensures ∙ ap (prefix_len is_feed) c.bytes.ensures) c.drop_front.ensures
    c.requires.within c.requires.no_feed c.bytes-2.ensures c.memchr.ensures c.in_ok-at.at c.in_ok-at.was
