-- What the parameters of questions about a place say (LSP 3.17).
use Rattle.std.specs.Prelude.{ℕ, Bool, List, Option, codes, option_and_then}
use Rattle.serde_json.specs.Data.{Data}
use Rattle.serde_json.specs.Find.{as_bool, as_str}
use Rattle.x_frames.specs.Params.{member_of}

-- whether the places are asked for where a name is declared (`ReferenceContext`)
abbrev pub declared_in : (params : Option Data) → Option Bool
declared_in params = option_and_then as_bool
    (member_of (codes "includeDeclaration") (member_of (codes "context") params))

-- the name that is to take the place of another (`RenameParams`)
abbrev pub new_name_in : (params : Option Data) → Option (List ℕ)
new_name_in params = option_and_then as_str (member_of (codes "newName") params)
