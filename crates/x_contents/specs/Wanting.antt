-- Which text of a document is asked for: `which` has the word of scripts.
use Rattle.std.specs.Prelude.{ℕ, List, Option, None, Some, bytes_eq, codes, option_and_then, if◌then◌else◌}
use Rattle.serde_json.specs.Data.{Data}
use Rattle.serde_json.specs.Find.{as_str}
use Rattle.x_pieces.specs.declared.which.Which.TheVariants.{Header, Routines, Stubs, Table}
use Rattle.x_frames.specs.Params.{member_of}
use Rattle.x_contents.specs.declared.wanted.Wanted.{Wanted}
use Rattle.x_contents.specs.declared.wanted.Wanted.TheVariants.{Generated, Faults}

abbrev pub wanted_by : List ℕ → Option Wanted
wanted_by word =
    if bytes_eq word (codes "header") then Some (Generated Header)
    else if bytes_eq word (codes "routines") then Some (Generated Routines)
    else if bytes_eq word (codes "stubs") then Some (Generated Stubs)
    else if bytes_eq word (codes "table") then Some (Generated Table)
    else if bytes_eq word (codes "faults") then Some Faults
    else None

abbrev pub wanted_in : (params : Option Data) → Option Wanted
wanted_in params = option_and_then wanted_by (option_and_then as_str (member_of (codes "which") params))
