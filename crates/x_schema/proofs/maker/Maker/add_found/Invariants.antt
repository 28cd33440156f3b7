use Rattle.std.proofs.Common.{◌≡◌, drop}
use Rattle.x_schema.specs.Schema.{named_types}
use Rattle.x_schema.specs.SchemaMaking.{names_made, with_found}
use Rattle.x_schema.proofs.maker.Maker.add_found.Given as goal

-- with those that are left, the types are those with all

abbrev pub invariant-loop-found : goal.invariant-loop-found
invariant-loop-found l =
    with_found (names_made l.self) (named_types l.types.entries) (drop l.found-index l.self.found.items)
    ≡ with_found (names_made l.self) (named_types l.fn.types.entries) l.self.found.items
