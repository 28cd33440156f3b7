use Rattle.std.proofs.Common.{Result, Ok, Err, ap}
use Rattle.x_text.specs.declared.text.fault.TextFault.{TextFault}
use Rattle.x_text.specs.declared.text.fault.TextFault.TheVariants.{NoMemory}
use Rattle.x_prelude.proofs.followed.FollowedText.replace.Goals as goal

abbrev fault_in : {T : Type 0} → Result T TextFault → TextFault
fault_in (Ok x) = NoMemory
fault_in (Err fault) = fault

pub returns-in-Err-clause-large : goal.returns-in-Err-clause-large
returns-in-Err-clause-large c = λ e. c.in-Err.ensures.large (ap Err (ap fault_in e))
