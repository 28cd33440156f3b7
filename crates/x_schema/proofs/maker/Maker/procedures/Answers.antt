use Rattle.std.proofs.Common.{◌≡◌, ◌+◌, ◌++◌, ◌∷◌, [], map, take, ap, sym, subst, ◌∙◌}
use Rattle.std.proofs.lemmas.List.{take_all, take_more}
use Rattle.x_trees.specs.View.{tree_at}
use Rattle.x_schema.specs.ProcedureMaking.{PutsProcedures}
use Rattle.x_schema.specs.ProceduresOf.{procedures_declared, procedures_of}
use Rattle.x_schema.proofs.ProcedureLemmas.{grows_none, grows_then, mapped_more}
use Rattle.x_schema.proofs.maker.Maker.procedures.Goals as goal

pub loop-definition-init : goal.loop-definition-init
loop-definition-init c =
    let known = c.args.known.now in
    subst (λ t. PutsProcedures known c.args.self.now c.args.self.now [] t [])
    (sym c.with_hasher-table.ensures.empty) (grows_none known c.args.self.now [])

pub loop-definition-preserved : goal.loop-definition-preserved
loop-definition-preserved c =
    let known = c.args.known.now in
    let i = c.loop-definition.definition-index in
    let all = c.args.definitions.now in
    let item = c.definition-item.result in
    let one : take (i + 1) all ≡ take i all ++ item ∷ [] = take_more all i item c.loop-definition-test.true
    ∙ ap (λ x. take i all ++ x ∷ []) (sym c.definition-item.is) in
    subst (λ ps. PutsProcedures known c.args.self.now c.add_procedures.new.self []
    c.add_procedures.new.table.entries ps)
    (sym (ap (λ xs. procedures_of (map tree_at xs)) one
    ∙ mapped_more tree_at procedures_declared (take i all) item))
    (grows_then known c.args.self.now c.loop-definition.self c.add_procedures.new.self []
    c.loop-definition.table.entries c.add_procedures.new.table.entries
    (procedures_of (map tree_at (take i all))) (procedures_declared (tree_at item))
    c.loop-definition.invariant c.in_ok-add_procedures.ensures)

pub returns : goal.returns
returns c =
    let all = c.args.definitions.now in
    subst (λ xs. PutsProcedures c.args.known.now c.args.self.now c.loop-definition.self []
    c.loop-definition.table.entries (procedures_of (map tree_at xs)))
    (take_all c.loop-definition.definition-index all c.loop-definition-test.false) c.loop-definition.invariant
