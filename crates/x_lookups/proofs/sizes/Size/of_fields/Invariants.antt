use Rattle.std.proofs.Common.{◌≡◌, drop}
use Rattle.x_lookups.specs.Sizes.{always, with_fields}
use Rattle.x_lookups.proofs.sizes.Size.of_fields.Given as goal

abbrev pub invariant-loop-field : goal.invariant-loop-field
invariant-loop-field l = with_fields l.sizes l.size (drop l.field-index l.fields)
    ≡ with_fields l.sizes (always 0) l.fields
