use Rattle.std.proofs.Common.{ap, refl, ◌∙◌}
use denote.Enum.Bare.{sameb}
use Rattle.x_value.specs.FaultTexts.{fault_line}
use Rattle.x_value.specs.Lines.{node_lines}
use Rattle.x_value.specs.contracts.fault.ReadCode.{the_type}
use Rattle.x_value.specs.declared.fault.ReadCode.TheVariants.{NoMemory}
use Rattle.x_value.specs.ValueTexts.{shown, stuck}
use Rattle.x_text.proofs.Cases.{false_true}
use Rattle.x_value.proofs.values.add_text.Goals as goal

pub returns-in-Ok-clause-added : goal.returns-in-Ok-clause-added
returns-in-Ok-clause-added g c =
    (node_lines c.in-Ok.dump, shown c.in-Ok.dump c.in-Ok.ensures.ok refl refl, c.add_lines.ensures)

pub returns-else-eq-clause-added : goal.returns-else-eq-clause-added
returns-else-eq-clause-added g c =
    let fault = c.in-Err.fault in (
      fault_line fault.at fault.code,
      stuck fault.at fault.code c.in-Err.ensures.err
          (λ is. false_true (c.if-eq.ensures ∙ ap (λ code. sameb the_type code NoMemory) is)) refl refl,
      c.add_line.ensures,
    )
