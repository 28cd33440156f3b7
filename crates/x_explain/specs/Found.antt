-- The faults of a text, each with the place where its token ends.
use Rattle.std.specs.Prelude.{◌≡◌, ◌⊎◌, ℕ, ◌≤◌, List, [], ◌∷◌, length}
use Rattle.x_lex.specs.declared.kind.Kind.{Kind}
use Rattle.x_lex.specs.Places.{IsTokenAt}
use Rattle.x_compile.specs.declared.fault.FaultPlace.{FaultPlace}
use Rattle.x_explain.specs.declared.found.FoundFault.{FoundFault}

-- the token that starts at a place ends at this one; after all tokens it is the same place
abbrev pub IsEndOfToken : List ℕ → ℕ → ℕ → Type 0
IsEndOfToken text start end =
    ((kind : Kind) × IsTokenAt text kind start end) ⊎ ((length text ≤ start) × (end ≡ start))

-- the fault that stands at a place of the text, where its token ends
pub record IsFound (text : List ℕ) (place : FaultPlace) (found : FoundFault) : Type 0 where
  pub code : found.code ≡ place.code
  pub start : found.start ≡ place.start
  pub end : IsEndOfToken text place.start found.end

-- so each of them is
abbrev pub AreFound : List ℕ → List FaultPlace → List FoundFault → Type 0
AreFound text [] [] = Unit {0}
AreFound text [] (d ∷ ds) = ⊥
AreFound text (f ∷ fs) [] = ⊥
AreFound text (f ∷ fs) (d ∷ ds) = IsFound text f d × AreFound text fs ds
