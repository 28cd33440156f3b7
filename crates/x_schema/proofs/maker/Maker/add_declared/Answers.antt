use Rattle.std.proofs.Common.{Some, map, sym, subst}
use Rattle.std.proofs.lemmas.Result.{on_ok_weaker}
use Rattle.std.specs.List.{flat_map}
use Rattle.x_trees.specs.View.{view_definition, view_version}
use Rattle.x_schema.specs.ProcedureMaking.{PutsProcedures}
use Rattle.x_schema.specs.ProceduresOf.{procedures_declared, procedures_in}
use Rattle.x_schema.proofs.ProcedureLemmas.{grows_none}
use Rattle.x_schema.proofs.maker.Maker.add_declared.Goals as goal

pub returns-in-Program : goal.returns-in-Program
returns-in-Program c =
    let known = c.args.known.now in
    let before = c.args.table.now.entries in
    let after = c.add_versions.new.table.entries in
    on_ok_weaker c.add_versions.result
    (λ x. let put : PutsProcedures known c.args.self.now c.add_versions.new.self before after
    (flat_map (procedures_in c.in-Program.number.items) (map view_version c.in-Program.versions.items)) =
    rw c.deref-in-Program.ensures.value at (rw c.deref.ensures at x) in
    subst (λ d. PutsProcedures known c.args.self.now c.add_versions.new.self before after
    (procedures_declared (Some (view_definition d)))) (sym c.in-Program.is) put)
    c.add_versions.ensures

pub returns-in-Const : goal.returns-in-Const
returns-in-Const c =
    let known = c.args.known.now in
    let table = c.args.table.now.entries in
    subst (λ d. PutsProcedures known c.args.self.now c.args.self.now table table
    (procedures_declared (Some (view_definition d)))) (sym c.in-Const.is)
    (grows_none known c.args.self.now table)

pub returns-in-Typedef : goal.returns-in-Typedef
returns-in-Typedef c =
    let known = c.args.known.now in
    let table = c.args.table.now.entries in
    subst (λ d. PutsProcedures known c.args.self.now c.args.self.now table table
    (procedures_declared (Some (view_definition d)))) (sym c.in-Typedef.is)
    (grows_none known c.args.self.now table)

pub returns-in-NewType : goal.returns-in-NewType
returns-in-NewType c =
    let known = c.args.known.now in
    let table = c.args.table.now.entries in
    subst (λ d. PutsProcedures known c.args.self.now c.args.self.now table table
    (procedures_declared (Some (view_definition d)))) (sym c.in-NewType.is)
    (grows_none known c.args.self.now table)
