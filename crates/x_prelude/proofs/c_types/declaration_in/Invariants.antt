use Rattle.std.proofs.Common.{◌≡◌, drop}
use Rattle.std.specs.Map.{lookup}
use Rattle.std.specs.Str.{bytes_eq}
use Rattle.x_prelude.specs.CTypes.{view_types}
use Rattle.x_prelude.proofs.c_types.declaration_in.Given as goal

-- the entries so far are of other names
abbrev pub invariant-loop-own : goal.invariant-loop-own
invariant-loop-own l = lookup (bytes_eq l.name) (view_types l.table)
    ≡ lookup (bytes_eq l.name) (view_types (drop l.own-index l.table))
