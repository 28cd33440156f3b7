use Rattle.std.proofs.Common.{◌≡◌}
use Rattle.x_lookups.specs.Sizes.{sizes_of}
use Rattle.x_lookups.proofs.sizes.Size.of_type.Given as goal

abbrev pub invariant-loop-form : goal.invariant-loop-form
invariant-loop-form l = l.sizes.items ≡ sizes_of l.schema l.form
