use Rattle.std.proofs.Common.{◌∙◌, sym}
use Rattle.x_script.proofs.CommandLemmas.{dump_of_hex, dump_of_no_hex}
use Rattle.x_script.proofs.script.command.value_words.Goals as goal

pub returns-then-is_hex-clause-asked : goal.returns-then-is_hex-clause-asked
returns-then-is_hex-clause-asked c =
    c.named-then-is_hex.ensures.asked
    ∙ sym (dump_of_hex c.args.words.now c.in-Some.name.now c.in-Some.hex.now c.in-Some.ensures
    (sym c.if-is_hex.ensures))

pub returns-else-is_hex-clause-asked : goal.returns-else-is_hex-clause-asked
returns-else-is_hex-clause-asked c =
    dump_of_no_hex c.args.words.now c.in-Some.name.now c.in-Some.hex.now c.in-Some.ensures
    (sym c.if-is_hex.ensures)
