-- Where names are declared first that a text uses: in files that are known before it, or in itself.
use Rattle.std.specs.Prelude.{ℕ, List, [], ◌∷◌, Option, None, Some, map, option_map}
use Rattle.std.specs.Option.{option_or}
use Rattle.x_compile.specs.Compile.{Item}
use Rattle.x_session.specs.declared.declared.FirstPlace.{FirstPlace}
use Rattle.x_explain.specs.declared.known_files.FirstDeclaration as rust
use Rattle.x_explain.specs.declared.known_files.KnownFile.{KnownFile}
use Rattle.x_session.specs.DeclaredNames.{first_place, place_in}

-- where a name is declared first: in the file of this name, or in the text itself
pub record FirstDeclaration : Type 0 where
  pub file : Option (List ℕ)
  pub place : FirstPlace

abbrev pub declared_in : Option (List ℕ) → FirstPlace → FirstDeclaration
declared_in file place = record { file = file; place = place }

-- where names are declared that are known before a text
abbrev pub KnownPlaces : Type 0
KnownPlaces = List ℕ → Option FirstDeclaration

-- no name is known
abbrev pub no_places : KnownPlaces
no_places name = None

-- these, and those of a file behind them, whose text has these items
abbrev pub with_file : KnownPlaces → (file text : List ℕ) → List Item → KnownPlaces
with_file before file text items name =
    option_or (before name) (option_map (declared_in (Some file)) (first_place text items name))

-- where a name is declared first, if these are known before the text
abbrev pub first_declaration : KnownPlaces → List ℕ → List Item → List ℕ → Option FirstDeclaration
first_declaration before text items name =
    option_or (before name) (option_map (declared_in None) (first_place text items name))

-- ---- what the program has of that

abbrev pub file_place : KnownFile → KnownPlaces
file_place f name = option_map (declared_in (Some f.file.now)) (place_in f.names name)

-- in the first of the files that declares it
abbrev pub places_of_files : List KnownFile → KnownPlaces
places_of_files [] name = None
places_of_files (f ∷ fs) name = option_or (file_place f name) (places_of_files fs name)

abbrev pub view_first : rust.FirstDeclaration → FirstDeclaration
view_first f = record { file = option_map (λ s. s.now) f.file; place = f.place }
