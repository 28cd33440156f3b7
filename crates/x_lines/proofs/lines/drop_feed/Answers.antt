use Rattle.std.proofs.Common.{ap, subst, length}
use Rattle.memchr.specs.Find.{IsFirstByte, is_byte}
use Rattle.x_lines.proofs.SearchLemmas.{behind_feed, all_passed}
use Rattle.x_lines.proofs.lines.drop_feed.Goals as goal

pub returns-in-Some : goal.returns-in-Some
returns-in-Some c =
    behind_feed c.args.queue.now c.drop_front.new.self c.memchr.result c.in-Some.at
    (subst (λ l. IsFirstByte (is_byte 10) l c.memchr.result) c.bytes-bytes.ensures c.memchr.ensures)
    c.in-Some.is c.drop_front.ensures

pub returns-in-None : goal.returns-in-None
returns-in-None c =
    all_passed c.args.queue.now c.drop_front-in-None.new.self c.memchr.result
    (length c.bytes-bytes.result.now)
    (subst (λ l. IsFirstByte (is_byte 10) l c.memchr.result) c.bytes-bytes.ensures c.memchr.ensures)
    c.in-None.is (ap length c.bytes-bytes.ensures) c.drop_front-in-None.ensures
