use Rattle.std.proofs.Common.{◌∙◌, sym, ap}
use Rattle.std.specs.Prelude.{bytes_eq}
use Rattle.x_script.proofs.CommandLemmas.{asked_by_other}
use Rattle.x_script.proofs.script.command.parse_command.Goals as goal

pub returns-else-eq-clause-asks : goal.returns-else-eq-clause-asks
returns-else-eq-clause-asks c =
    sym (asked_by_other c.args.line.now c.in-Some.name.now c.in-Some.words.now c.in-Some.ensures
    (ap (bytes_eq c.in-Some.name.now) (sym c.as_slice.ensures) ∙ sym c.if-eq.ensures))
