-- What is printed of a fault.
use Rattle.std.specs.Prelude.{ℕ, List, ◌++◌, codes}
use Rattle.std.specs.Fmt.{decimal}
use Rattle.x_value.specs.declared.fault.ReadCode.{ReadCode}
use Rattle.x_value.specs.declared.fault.ReadCode.TheVariants.{Short, BadBool, BadEnum, NoArm, TooMany, BadPad}
use Rattle.x_value.specs.declared.fault.ReadCode.TheVariants.{TooDeep, Trailing, NoMemory}

-- the number and the name of the reason
abbrev pub read_text : ReadCode → List ℕ
read_text Short = codes "50 Short"
read_text BadBool = codes "51 BadBool"
read_text BadEnum = codes "52 BadEnum"
read_text NoArm = codes "53 NoArm"
read_text TooMany = codes "54 TooMany"
read_text BadPad = codes "55 BadPad"
read_text TooDeep = codes "56 TooDeep"
read_text Trailing = codes "57 Trailing"
read_text NoMemory = codes "58 NoMemory"

-- `fault CODE NAME at N`
abbrev pub fault_line : ℕ → ReadCode → List ℕ
fault_line at code = codes "fault " ++ read_text code ++ codes " at " ++ decimal at ++ codes "\n"
