use Rattle.std.proofs.Common.{arith}
use Rattle.x_script.proofs.CommandLemmas.{more_pairs}
use Rattle.x_script.proofs.script.command.hex_bytes.Goals as goal

pub loop-at-preserved : goal.loop-at-preserved
loop-at-preserved c =
    more_pairs c.args.word.now c.loop-at.bytes.items c.push.new.self.items c.loop-at.at c.hex_digit.result
    c.hex_digit-in-loop-at.result (omega arith)
    c.hex_digit.ensures.value c.hex_digit-in-loop-at.ensures.value c.in_ok-push.ensures.items
    c.loop-at.invariant
