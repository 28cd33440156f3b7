use Rattle.std.proofs.Common.{drop}
use Rattle.x_explain.specs.KnownFiles.{KnownPlaces, no_places, places_of_files}
use Rattle.x_opening.specs.Opening.{HavePlaces}
use Rattle.x_opening.proofs.known.KnownSources.places.Given as goal

-- with the places of the files that are left they are those of all
abbrev pub invariant-loop-file : goal.invariant-loop-file
invariant-loop-file l = (places : KnownPlaces)
    → HavePlaces (places_of_files l.known.list.items) (drop l.file-index l.file-items) places
    → HavePlaces no_places l.file-items places
