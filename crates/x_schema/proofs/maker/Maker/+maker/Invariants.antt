use Rattle.std.proofs.Common.{◌<◌, length, drop}
use Rattle.x_trees.specs.View.{view_declarations, view_arms}
use Rattle.x_schema.specs.SchemaMaking.{IsGood}
use Rattle.x_schema.proofs.MakerForms.{FieldsSoFar}
use Rattle.x_schema.proofs.MakerArms.{ArmsSoFar}
use Rattle.x_schema.proofs.maker.Maker.+maker.Given as goal

abbrev pub invariant-arms-loop-arm : goal.invariant-arms-loop-arm
invariant-arms-loop-arm l =
    l.discriminant < length l.fn.self.forms.items → IsGood l.known.types l.fn.self
    → ArmsSoFar l.known l.fn.self l.self l.around l.discriminant l.cases.entries
    (view_arms (drop l.arm-index l.arms)) (view_arms l.arms)

abbrev pub invariant-fields-loop-declaration : goal.invariant-fields-loop-declaration
invariant-fields-loop-declaration l =
    IsGood l.known.types l.fn.self
    → FieldsSoFar l.known l.fn.self l.self l.around l.fields.items
    (view_declarations (drop l.declaration-index l.declarations)) (view_declarations l.declarations)
