use Rattle.std.proofs.Common.{sym, subst}
use Rattle.std.proofs.lemmas.Result.{IfOk-weaker}
use Rattle.x_trees.specs.View.{view_passed}
use Rattle.x_schema.specs.ProcedureMaking.{PutsAs}
use Rattle.x_schema.specs.ProceduresOf.{IsPassed}
use Rattle.x_schema.proofs.ProcedureLemmas.{passed_void}
use Rattle.x_schema.proofs.maker.Maker.passed.Goals as goal

pub returns-in-Some : goal.returns-in-Some
returns-in-Some c =
    let known = c.args.known.now in
    IfOk-weaker c.argument.result _ _
    (λ place x. subst (λ a. PutsAs known c.args.self.now c.argument.new.self place
    (λ s at. IsPassed s (view_passed a) at)) (sym c.in-Some.is) x)
    c.argument.ensures

pub returns-in-None : goal.returns-in-None
returns-in-None c =
    let known = c.args.known.now in
    subst (λ a. PutsAs known c.args.self.now c.args.self.now 0 (λ s at. IsPassed s (view_passed a) at))
    (sym c.in-None.is)
    (passed_void known c.args.self.now)
