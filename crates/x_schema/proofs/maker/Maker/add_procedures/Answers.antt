use Rattle.std.proofs.Common.{sym, subst}
use Rattle.std.proofs.lemmas.Result.{on_ok_weaker}
use Rattle.x_trees.specs.View.{tree_at}
use Rattle.x_schema.specs.ProcedureMaking.{PutsProcedures}
use Rattle.x_schema.specs.ProceduresOf.{procedures_declared}
use Rattle.x_schema.proofs.ProcedureLemmas.{grows_none}
use Rattle.x_schema.proofs.maker.Maker.add_procedures.Goals as goal

pub returns-in-Some : goal.returns-in-Some
returns-in-Some c =
    on_ok_weaker c.add_declared.result
    (λ x. subst (λ d. PutsProcedures c.args.known.now c.args.self.now c.add_declared.new.self
    c.args.table.now.entries c.add_declared.new.table.entries (procedures_declared (tree_at d)))
    (sym c.in-Some.is) x)
    c.add_declared.ensures

pub returns-in-None : goal.returns-in-None
returns-in-None c =
    subst (λ d. PutsProcedures c.args.known.now c.args.self.now c.args.self.now c.args.table.now.entries
    c.args.table.now.entries (procedures_declared (tree_at d))) (sym c.in-None.is)
    (grows_none c.args.known.now c.args.self.now c.args.table.now.entries)
