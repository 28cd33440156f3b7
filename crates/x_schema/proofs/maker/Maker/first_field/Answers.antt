use Rattle.std.proofs.lemmas.Result.{IfOk-weaker}
use Rattle.x_trees.specs.View.{view_passed}
use Rattle.x_schema.proofs.ProcedureLemmas.{field_put}
use Rattle.x_schema.proofs.maker.Maker.first_field.Goals as goal

pub returns : goal.returns
returns c =
    IfOk-weaker c.argument_field.result _ _
    (λ field x. field_put c.args.known.now c.args.self.now c.passed.new.self c.argument_field.new.self 1
    (view_passed c.args.first.now) c.in_ok-form.form field c.in_ok-form.ensures x.0 x.1)
    c.argument_field.ensures
