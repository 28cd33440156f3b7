-- The numbers and names of the faults of items that spell no definition (this project).
use Rattle.std.specs.Prelude.{ℕ, List, codes}
use Rattle.x_parser.specs.declared.fault_code.FaultCode.{FaultCode}
use Rattle.x_parser.specs.declared.fault_code.FaultCode.TheVariants as faults

-- what is printed for a code: its number and its name
abbrev pub fault_text : FaultCode → List ℕ
fault_text faults.Syntax = codes "10 Syntax"
fault_text faults.BadByte = codes "11 BadByte"
fault_text faults.BadNumber = codes "12 BadNumber"
fault_text faults.OpenComment = codes "13 OpenComment"
fault_text faults.Directive = codes "14 Directive"
fault_text faults.Unfinished = codes "15 Unfinished"
