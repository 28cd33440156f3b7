-- The lines that tell the names of a file's text that clash in C.
use Rattle.std.specs.Prelude.{ℕ, List, [], ◌++◌, codes, Option, None, Some}
use Rattle.std.specs.Fmt.{decimal}
use Rattle.x_session.specs.declared.declared.Spot.{Spot}
use Rattle.x_taken.specs.declared.taken.TakenAs.{TakenAs}
use Rattle.x_taken.specs.declared.taken.TakenAs.TheVariants as taken
use Rattle.x_warnings.specs.declared.warning.OtherMeaning.{OtherMeaning}
use Rattle.x_warnings.specs.declared.warning.OtherMeaning.TheVariants.{OfC, OfText}
use Rattle.x_warnings.specs.Warnings.{Warning}

-- `FILE:LINE:COL`
abbrev pub spot_text : List ℕ → Spot → List ℕ
spot_text file s = file ++ codes ":" ++ decimal s.line ++ codes ":" ++ decimal s.column

abbrev pub place_text : List ℕ → Option Spot → List ℕ
place_text file None = []
place_text file (Some s) = spot_text file s

-- what C has a name for
abbrev pub kind_text : TakenAs → List ℕ
kind_text taken.Keyword = codes "is a keyword of C"
kind_text taken.KeywordOfCpp = codes "is a keyword of C++"
kind_text taken.Macro = codes "is a macro of C's headers"
kind_text taken.Number = codes "is a macro of C's headers"
kind_text taken.CallMacro = codes "is a macro of C's headers"
kind_text taken.Name = codes "is a name of C's headers"
kind_text taken.Tag = codes "is a name of C's headers"
kind_text taken.TaggedName = codes "is a name of C's headers"
kind_text taken.Parameter = codes "is a parameter of generated functions"
kind_text taken.Variable = codes "is a variable of generated functions"

abbrev pub other_place_text : List ℕ → Option Spot → List ℕ
other_place_text file spot = codes "has two meanings in C; the other is at " ++ place_text file spot

abbrev pub other_text : List ℕ → OtherMeaning → List ℕ
other_text file (OfC kind) = kind_text kind
other_text file (OfText spot) = other_place_text file spot

-- `FILE:LINE:COL: warning: 'NAME' has two meanings in C; the other is at FILE:LINE:COL`
abbrev pub warning_line : List ℕ → Warning → List ℕ
warning_line file w = place_text file w.spot ++ codes ": warning: '" ++ w.name ++ codes "' "
    ++ other_text file w.other ++ codes "\n"
