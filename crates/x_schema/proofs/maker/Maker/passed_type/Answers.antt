use Rattle.std.proofs.Common.{◌≡◌, sym, subst}
use Rattle.std.proofs.lemmas.Result.{IfOk-weaker}
use Rattle.x_trees.specs.View.{view_type}
use Rattle.x_schema.specs.ProcedureMaking.{PutsAs}
use Rattle.x_schema.specs.ProceduresOf.{IsPassedType}
use Rattle.x_schema.specs.SchemaMaking.{AddsForm}
use Rattle.x_schema.specs.SchemaOf.{basic_form, place_named}
use Rattle.x_schema.proofs.ProcedureLemmas.{passed_basic, passed_named, passed_void}
use Rattle.x_schema.proofs.maker.Maker.passed_type.Goals as goal

pub returns-in-Basic : goal.returns-in-Basic
returns-in-Basic c =
    let known = c.args.known.now in
    IfOk-weaker c.form.result _ _
    (λ place x. let add : AddsForm c.args.self.now c.form.new.self (basic_form c.in-Basic.basic) place =
    rw c.basic_form.ensures at x in
    subst (λ d. PutsAs known c.args.self.now c.form.new.self place (λ s at. IsPassedType s (view_type d) at))
    (sym c.in-Basic.is)
    (passed_basic known c.args.self.now c.form.new.self c.in-Basic.basic place add))
    c.form.ensures

pub returns-in-Named : goal.returns-in-Named
returns-in-Named c =
    let known = c.args.known.now in
    let is : c.place.result ≡ place_named known.types c.in-Named.name.items =
    rw c.deref.ensures at c.place.ensures in
    subst (λ d. PutsAs known c.args.self.now c.args.self.now c.place.result
    (λ s at. IsPassedType s (view_type d) at)) (sym c.in-Named.is)
    (passed_named known c.args.self.now c.in-Named.name.items c.place.result is)

pub returns-in-Tagged : goal.returns-in-Tagged
returns-in-Tagged c =
    let known = c.args.known.now in
    let is : c.place-in-Tagged.result ≡ place_named known.types c.in-Tagged.name.items =
    rw c.deref-in-Tagged.ensures at c.place-in-Tagged.ensures in
    subst (λ d. PutsAs known c.args.self.now c.args.self.now c.place-in-Tagged.result
    (λ s at. IsPassedType s (view_type d) at)) (sym c.in-Tagged.is)
    (passed_named known c.args.self.now c.in-Tagged.name.items c.place-in-Tagged.result is)

pub returns-in-Inline : goal.returns-in-Inline
returns-in-Inline c =
    let known = c.args.known.now in
    subst (λ d. PutsAs known c.args.self.now c.args.self.now 0 (λ s at. IsPassedType s (view_type d) at))
    (sym c.in-Inline.is)
    (passed_void known c.args.self.now)
