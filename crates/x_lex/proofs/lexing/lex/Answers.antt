use Rattle.x_lex.proofs.LexedLemmas.{lexed_more}
use Rattle.x_lex.proofs.lexing.lex.Goals as goal

pub loop-at-preserved : goal.loop-at-preserved
loop-at-preserved c =
    lexed_more c.bytes-bytes.result.now c.args.meter.now c.loop-at.meter c.lex_one-kind.new.meter
    c.loop-at.entries.items c.push.new.self.items c.new.result c.loop-at.line_start c.loop-at.at
    c.lex_one-kind.result.1 c.lex_one-kind.result.0
    c.loop-at.invariant c.lex_one-kind.ensures.after c.lex_one-kind.ensures.within
    c.lex_one-kind.ensures.token c.new.ensures c.in_ok-push.ensures.items c.lex_one-kind.ensures.meter
