use Rattle.std.proofs.Common.{◌≡◌, drop}
use Rattle.x_explain.specs.KnownFiles.{places_of_files}
use Rattle.x_explain.proofs.known_files.KnownFiles.first.Given as goal

-- what the files that are left have for the name
abbrev pub invariant-loop-known : goal.invariant-loop-known
invariant-loop-known l = places_of_files (drop l.known-index l.known-items) l.name
    ≡ places_of_files l.known-items l.name
