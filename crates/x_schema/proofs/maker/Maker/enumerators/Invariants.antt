use Rattle.std.proofs.Common.{drop, map}
use Rattle.x_trees.specs.View.{view_enumerator}
use Rattle.x_schema.specs.SchemaOf as schema
use Rattle.x_schema.specs.SchemaMaking.{IsGood}
use Rattle.x_schema.proofs.MakerArms.{EnumSoFar}
use Rattle.x_schema.proofs.maker.Maker.enumerators.Given as goal

abbrev pub invariant-loop-enumerator : goal.invariant-loop-enumerator
invariant-loop-enumerator l =
    (known : schema.Known) → IsGood known.types l.fn.self
    → EnumSoFar known l.fn.self l.self l.constants l.next l.names.entries
    (map view_enumerator (drop l.enumerator-index l.enumerators)) (map view_enumerator l.enumerators)
