-- Why a line of a script is refused, and what is answered then.
use Rattle.std.specs.Prelude.{ℕ, List, ◌++◌, codes}
use Rattle.std.specs.Fmt.{decimal}
use Rattle.x_session.specs.declared.declared.Spot.{Spot}
use Rattle.x_script.specs.declared.script.refusal.LineRefusal.{LineRefusal}
use Rattle.x_script.specs.declared.script.refusal.LineRefusal.TheVariants as refusals

-- the number and the name of the reason
abbrev pub refusal_text : LineRefusal → List ℕ
refusal_text refusals.BadRange = codes "1 BadRange"
refusal_text refusals.TooLarge = codes "2 TooLarge"
refusal_text refusals.Faulty = codes "40 Faulty"
refusal_text refusals.NoType = codes "42 NoType"
refusal_text refusals.BadLine = codes "43 BadLine"
refusal_text refusals.LongLine = codes "44 LongLine"

-- `refused CODE NAME`
abbrev pub refusal_line : LineRefusal → List ℕ
refusal_line refusal = codes "refused " ++ refusal_text refusal ++ codes "\n"

-- `refused 21 Unknown at LINE:COLUMN`, which names the place of a name of C
abbrev pub unknown_line : Spot → List ℕ
unknown_line spot = codes "refused 21 Unknown at "
    ++ (decimal spot.line ++ (codes ":" ++ (decimal spot.column ++ codes "\n")))
