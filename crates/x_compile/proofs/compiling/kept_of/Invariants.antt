use Rattle.std.proofs.Common.{◌≡◌, map, take}
use Rattle.x_compile.proofs.compiling.kept_of.Given as goal

-- what is kept with the items so far
abbrev pub invariant-loop-entry : goal.invariant-loop-entry
invariant-loop-entry l = map (λ k. k.now) l.items.items ≡ map (λ e. e.kept) (take l.entry-index l.entries)
