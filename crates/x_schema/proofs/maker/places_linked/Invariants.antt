use Rattle.std.proofs.Common.{◌≡◌, ◌++◌, drop, map}
use Rattle.x_schema.specs.Schema.{named_types}
use Rattle.x_schema.specs.SchemaMaking.{place_linked}
use Rattle.x_schema.proofs.maker.places_linked.Given as goal

-- with those that are left, the places are those of all

abbrev pub invariant-loop-link : goal.invariant-loop-link
invariant-loop-link l =
    l.places.items ++ map (place_linked (named_types l.types.entries)) (drop l.link-index l.links)
    ≡ map (place_linked (named_types l.types.entries)) l.links
