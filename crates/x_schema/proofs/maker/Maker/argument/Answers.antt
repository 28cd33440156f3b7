use Rattle.std.proofs.Common.{sym, subst}
use Rattle.std.proofs.lemmas.Result.{IfOk-weaker}
use Rattle.x_trees.specs.View.{view_argument}
use Rattle.x_schema.specs.ProcedureMaking.{PutsAs}
use Rattle.x_schema.specs.ProceduresOf.{IsArgument}
use Rattle.x_schema.proofs.ProcedureLemmas.{passed_string}
use Rattle.x_schema.proofs.maker.Maker.argument.Goals as goal

pub returns-in-String : goal.returns-in-String
returns-in-String c =
    let known = c.args.known.now in
    IfOk-weaker c.form.result _ _
    (λ place x. subst (λ a. PutsAs known c.args.self.now c.form.new.self place
    (λ s at. IsArgument s (view_argument a) at)) (sym c.in-String.is)
    (passed_string known c.args.self.now c.form.new.self place x))
    c.form.ensures

pub returns-in-Of : goal.returns-in-Of
returns-in-Of c =
    let known = c.args.known.now in
    IfOk-weaker c.passed_type.result _ _
    (λ place x. subst (λ a. PutsAs known c.args.self.now c.passed_type.new.self place
    (λ s at. IsArgument s (view_argument a) at)) (sym c.in-Of.is) x)
    c.passed_type.ensures
