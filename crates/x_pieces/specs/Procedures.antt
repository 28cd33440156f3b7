-- The procedures of a program as C has them.
use Rattle.std.specs.Prelude.{ℕ, suc, ◌+◌, Bool, true, false, List, [], ◌∷◌, ◌++◌, map}
use Rattle.std.specs.Prelude.{codes, Option, Some, None, if◌then◌else◌}
use Rattle.std.specs.List.{flat_map}
use Rattle.std.specs.Fmt.{decimal, signed_decimal}
use Rattle.x_trees.specs.Tree.{Version, Procedure, Argument}
use Rattle.x_numbers.specs.Numbers.{in_range, value}
use Rattle.x_pieces.specs.CTypes.{CType, own, passed_type}
use Rattle.x_pieces.specs.Texts.{is_upper}

-- a letter in lower case
abbrev pub lower_byte : ℕ → ℕ
lower_byte b = if is_upper b then b + 32 else b

abbrev pub lower : List ℕ → List ℕ
lower name = map lower_byte name

-- a number in decimal, however it is spelled; nothing for one that is out of range, which is a fault
abbrev pub in_decimal : List ℕ → List ℕ
in_decimal text = if in_range text then signed_decimal (value text) else []

-- the function of a procedure of a version: the name in lower case, and the version's number
abbrev pub function_name : Version → Procedure → List ℕ
function_name v p = lower p.name ++ codes "_" ++ in_decimal v.number

-- whether arguments stand behind the first
abbrev pub are_several : List Argument → Bool
are_several [] = false
are_several (a ∷ rest) = true

-- the struct of several arguments
abbrev pub group_name : Version → Procedure → List ℕ
group_name v p = function_name v p ++ codes "_argument"

-- what is passed to the function: several arguments in the struct of this name
abbrev pub argument_in : List ℕ → Procedure → CType
argument_in group p = if are_several p.others then own group else passed_type p.first

abbrev pub result_type : Procedure → CType
result_type p = passed_type p.result

abbrev pub sized : CType → List ℕ
sized c = codes "sizeof (" ++ c.name ++ codes ")"

-- how large an argument or a result is: `0` for `void`
abbrev pub size_of : Option Argument → List ℕ
size_of None = codes "0"
size_of (Some a) = sized (passed_type (Some a))

-- what is generated of a procedure by the names of its function and of the struct of several arguments
abbrev pub by_names : (List ℕ → List ℕ → Procedure → List ℕ) → Version → Procedure → List ℕ
by_names piece v p = piece (function_name v p) (group_name v p) p

-- what is generated of the procedures of each version
abbrev pub version_pieces : (List ℕ → List ℕ → Procedure → List ℕ) → List Version → List ℕ
version_pieces piece versions = flat_map (λ v. flat_map (by_names piece v) v.procedures) versions

-- what is generated of arguments by their numbers, of which the first is this
abbrev pub by_number : (List ℕ → CType → List ℕ) → ℕ → List Argument → List ℕ
by_number piece number [] = []
by_number piece number (a ∷ rest) =
    piece (decimal number) (passed_type (Some a)) ++ by_number piece (suc number) rest

-- of the arguments of a procedure that has several
abbrev pub argument_pieces : (List ℕ → CType → List ℕ) → Procedure → List ℕ
argument_pieces piece p = piece (decimal 1) (passed_type p.first) ++ by_number piece 2 p.others
