use Rattle.std.proofs.Common.{◌≡◌, ◌+◌, ◌++◌, ◌∷◌, [], map, take, ap, sym, subst, ◌∙◌}
use Rattle.std.proofs.lemmas.List.{take_all, take_more}
use Rattle.std.specs.List.{flat_map}
use Rattle.x_trees.specs.View.{view_version}
use Rattle.x_schema.specs.ProcedureMaking.{PutsProcedures}
use Rattle.x_schema.specs.ProceduresOf.{procedures_in}
use Rattle.x_schema.proofs.ProcedureLemmas.{grows_none, grows_then, mapped_more}
use Rattle.x_schema.proofs.maker.Maker.add_versions.Goals as goal

pub loop-version-init : goal.loop-version-init
loop-version-init c = grows_none c.args.known.now c.args.self.now c.args.table.now.entries

pub loop-version-preserved : goal.loop-version-preserved
loop-version-preserved c =
    let known = c.args.known.now in
    let program = c.args.program.now in
    let i = c.loop-version.version-index in
    let all = c.args.versions.now in
    let item = c.version-item.result in
    let one : take (i + 1) all ≡ take i all ++ item ∷ [] = take_more all i item c.loop-version-test.true
    ∙ ap (λ x. take i all ++ x ∷ []) (sym c.version-item.is) in
    let put : PutsProcedures known c.loop-version.self c.add_version.new.self c.loop-version.table.entries
    c.add_version.new.table.entries (procedures_in program (view_version item)) =
    rw c.deref-in-loop-version.ensures.value at (rw c.deref.ensures at c.in_ok-add_version.ensures) in
    subst (λ ps. PutsProcedures known c.args.self.now c.add_version.new.self c.args.table.now.entries
    c.add_version.new.table.entries ps)
    (sym (ap (λ xs. flat_map (procedures_in program) (map view_version xs)) one
    ∙ mapped_more view_version (procedures_in program) (take i all) item))
    (grows_then known c.args.self.now c.loop-version.self c.add_version.new.self c.args.table.now.entries
    c.loop-version.table.entries c.add_version.new.table.entries
    (flat_map (procedures_in program) (map view_version (take i all)))
    (procedures_in program (view_version item))
    c.loop-version.invariant put)

pub returns : goal.returns
returns c =
    let all = c.args.versions.now in
    subst (λ xs. PutsProcedures c.args.known.now c.args.self.now c.loop-version.self c.args.table.now.entries
    c.loop-version.table.entries
    (flat_map (procedures_in c.args.program.now) (map view_version xs)))
    (take_all c.loop-version.version-index all c.loop-version-test.false) c.loop-version.invariant
