use Rattle.std.proofs.Common.{map}
use Rattle.std.proofs.lemmas.Result.{IfOk-weaker}
use Rattle.x_trees.specs.View.{view_enumerator}
use Rattle.x_schema.specs.SchemaOf.{enum_form}
use Rattle.x_schema.specs.SchemaMaking.{AddsForm}
use Rattle.x_schema.proofs.MakerArms.{enum_put}
use Rattle.x_schema.proofs.maker.Maker.enum_body.Goals as goal

pub returns : goal.returns
returns c =
    let known = c.args.known.now in
    let names = c.in_ok-names.names.entries in
    IfOk-weaker c.form.result _ _
    (λ place x. let add : AddsForm c.enumerators.new.self c.form.new.self (enum_form names) place =
    rw c.enum_form.ensures at x in
    enum_put known c.args.self.now c.enumerators.new.self c.form.new.self
    (map view_enumerator c.args.enumerators.now) names place
    (rw c.constants.ensures at c.in_ok-names.ensures known) add)
    c.form.ensures
