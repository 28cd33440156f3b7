-- The numbers and names of faults.
use Rattle.std.specs.Prelude.{ℕ, List}
use Rattle.x_parser.specs.FaultTexts as syntax
use Rattle.x_rules.specs.RuleTexts.{rule_text}
use Rattle.x_compile.specs.declared.fault.FaultCode.{FaultCode}
use Rattle.x_compile.specs.declared.fault.FaultCode.TheVariants.{Syntax, Rule}

-- what is printed for the code
abbrev pub fault_text : FaultCode → List ℕ
fault_text (Syntax code) = syntax.fault_text code
fault_text (Rule rule) = rule_text rule
