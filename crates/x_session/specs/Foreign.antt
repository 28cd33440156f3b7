-- The names that a text takes from C, as they are told.
use Rattle.std.specs.Prelude.{ℕ, List, map}
use Rattle.x_session.specs.declared.declared.Spot.{Spot}
use Rattle.x_session.specs.declared.foreign.ForeignName as rust

-- a name, and where the text uses it first
pub record ForeignName : Type 0 where
  pub name : List ℕ
  pub spot : Spot

-- what the program has of it
abbrev pub view_foreign : rust.ForeignName → ForeignName
view_foreign f = record { name = f.name.now; spot = f.spot }

abbrev pub view_all : List rust.ForeignName → List ForeignName
view_all names = map view_foreign names
