-- What is told of a fault in a line.
use Rattle.std.specs.Prelude.{ℕ, List, ◌++◌, codes}
use Rattle.std.specs.Fmt.{decimal}
use Rattle.x_compile.specs.declared.fault.Fault.{Fault}
use Rattle.x_compile.specs.Faults.{fault_text}

-- `LINE:COL`
abbrev pub fault_place : Fault → List ℕ
fault_place f = decimal f.line ++ codes ":" ++ decimal f.col

-- `LINE:COL CODE NAME`
abbrev pub fault_line : Fault → List ℕ
fault_line f = fault_place f ++ codes " " ++ fault_text f.code ++ codes "\n"
