use Rattle.std.proofs.Common.{◌≡◌, drop, map}
use Rattle.x_opening.proofs.Before.{ReadsWith}
use Rattle.x_opening.proofs.known.KnownSources.read.Given as goal

-- nothing was told, and with the files that are left all are read
abbrev pub invariant-loop-name : goal.invariant-loop-name
invariant-loop-name g l = (l.err ≡ l.initial.err)
    × ReadsWith l.from_c (map (λ n. n.now) l.name-items)
    (map (λ n. n.now) (drop l.name-index l.name-items)) l.known
