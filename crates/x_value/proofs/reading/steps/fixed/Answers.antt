use Rattle.std.proofs.Common.{sym, ◌∷◌, [], length, subst, arith}
use Rattle.std.proofs.lemmas.Result.{err_from_is_err_and}
use Rattle.x_schema.specs.Schema.{form_at}
use Rattle.x_value.specs.Entries.{nodes_of}
use Rattle.x_value.specs.Jobs.{Moves}
use Rattle.x_value.specs.Layouts.{layout_at, placed}
use Rattle.x_value.specs.Work.{spot_of}
use Rattle.x_value.proofs.Bytes.{IsByteList_of}
use Rattle.x_value.proofs.StepLemmas.{fixed_layout, fixed_refused, body_begun, leaf_same}
use Rattle.x_value.proofs.reading.steps.fixed.Goals as goal

pub returns-in_err-first-clause-err : goal.returns-in_err-first-clause-err
returns-in_err-first-clause-err c =
    let p = err_from_is_err_and c.from_residual.result c.from_residual.ensures.1 in rw (p.1, p.2) (λ ks ready.
    let e = c.in_err-first.field-0.0 in
    let l = fixed_layout c.args.schema.now (form_at c.args.schema.now c.args.form) c.args.size
    c.requires.size in
    fixed_refused c.args.schema.now (layout_at c.args.schema.now c.args.form) l.leaf c.args.size
    (spot_of c.args.schema.now c.args.spot) c.args.bytes.now e.at e.code ks l.is c.requires.sound
    (IsByteList_of c.args.bytes.now (λ i. omega (arith, c.type_inv.bytes i)))
    c.in_err-first.ensures.err ready)

pub returns-clause-ok : goal.returns-clause-ok
returns-clause-ok c =
    let l = fixed_layout c.args.schema.now (form_at c.args.schema.now c.args.form) c.args.size
    c.requires.size in
    body_begun c.args.schema.now c.args.message.now c.args.form c.args.spot c.args.bytes.now
    c.in_ok-first.rest.now c.in_ok-first.first
    (λ ks. subst (λ t. Moves c.args.schema.now (placed t (spot_of c.args.schema.now c.args.spot) ∷ ks)
    c.args.bytes.now (nodes_of c.args.schema.now c.args.message.now (c.in_ok-first.first ∷ [])) ks
    c.in_ok-first.rest.now) (sym l.is)
    (c.in_ok-first.ensures.ok c.args.schema.now l.leaf
    (leaf_same c.form_at.result.now (form_at c.args.schema.now c.args.form) l.leaf c.form_at.ensures.form
    l.shows) ks))
    (c.in_ok-first.ensures.named (length c.args.schema.now.names) c.requires.value.spot.0)
    (let h = c.in_ok-first.ensures.less in omega arith)
