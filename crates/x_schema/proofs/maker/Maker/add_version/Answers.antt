use Rattle.std.proofs.Common.{◌≡◌, ◌+◌, ◌++◌, ◌∷◌, [], map, take, ap, sym, subst, ◌∙◌}
use Rattle.std.proofs.lemmas.List.{take_all, take_more}
use Rattle.x_trees.specs.View.{view_procedure}
use Rattle.x_schema.specs.ProcedureMaking.{PutsProcedures}
use Rattle.x_schema.specs.ProceduresOf.{procedures_by}
use Rattle.x_schema.proofs.ProcedureLemmas.{by_more, grows_none, grows_then}
use Rattle.x_schema.proofs.maker.Maker.add_version.Goals as goal

pub loop-procedure-init : goal.loop-procedure-init
loop-procedure-init c = grows_none c.args.known.now c.args.self.now c.args.table.now.entries

pub loop-procedure-preserved : goal.loop-procedure-preserved
loop-procedure-preserved c =
    let known = c.args.known.now in
    let program = c.args.program.now in
    let version = c.args.version.now in
    let i = c.loop-procedure.procedure-index in
    let all = c.args.procedures.now in
    let item = c.procedure-item.result in
    let one : take (i + 1) all ≡ take i all ++ item ∷ [] = take_more all i item c.loop-procedure-test.true
    ∙ ap (λ x. take i all ++ x ∷ []) (sym c.procedure-item.is) in
    subst (λ ps. PutsProcedures known c.args.self.now c.add_procedure.new.self c.args.table.now.entries
    c.add_procedure.new.table.entries ps)
    (sym (ap (λ xs. procedures_by program version (map view_procedure xs)) one
    ∙ by_more program version (take i all) item))
    (grows_then known c.args.self.now c.loop-procedure.self c.add_procedure.new.self c.args.table.now.entries
    c.loop-procedure.table.entries c.add_procedure.new.table.entries
    (procedures_by program version (map view_procedure (take i all)))
    (procedures_by program version (view_procedure item ∷ []))
    c.loop-procedure.invariant c.in_ok-add_procedure.ensures)

pub returns : goal.returns
returns c =
    let all = c.args.procedures.now in
    subst (λ xs. PutsProcedures c.args.known.now c.args.self.now c.loop-procedure.self
    c.args.table.now.entries c.loop-procedure.table.entries
    (procedures_by c.args.program.now c.args.version.now (map view_procedure xs)))
    (take_all c.loop-procedure.procedure-index all c.loop-procedure-test.false) c.loop-procedure.invariant
