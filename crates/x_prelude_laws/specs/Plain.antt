-- Names that can be taken from C without a fault in the definitions that are made for them.
use Rattle.std.specs.Prelude.{◌≢◌, ℕ, List, ◌++◌, codes}
use Rattle.std.specs.List.{All}
use Rattle.x_prelude.specs.Lacking.{Occurrence, name_of}

-- none ends with `__`: so the one enumerator ends of an enum that is made for a name
abbrev pub ArePlain : List Occurrence → Type 0
ArePlain mentions = All (λ o. (front : List ℕ) → name_of o ≢ front ++ codes "__") mentions
