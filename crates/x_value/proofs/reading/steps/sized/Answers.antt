use Rattle.std.proofs.Common.{◌∷◌, [], length, arith}
use Rattle.std.proofs.lemmas.Result.{err_from_is_err_and}
use Rattle.x_schema.specs.Schema.{form_at}
use Rattle.x_value.specs.Entries.{nodes_of}
use Rattle.x_value.specs.Layouts.{layout_at}
use Rattle.x_units.specs.Units.{word}
use Rattle.x_value.specs.Work.{spot_of}
use Rattle.x_value.proofs.Bytes.{IsByteList_of}
use Rattle.x_value.proofs.StepLemmas.{headed_sized, sized_layout, sized_moves, sized_refused, value_refused}
use Rattle.x_value.proofs.StepLemmas.{body_begun, leaf_same, rear_behind, read_less}
use Rattle.x_value.proofs.reading.steps.sized.Goals as goal

pub returns-in_err-len-clause-err : goal.returns-in_err-len-clause-err
returns-in_err-len-clause-err c =
    let p = err_from_is_err_and c.from_residual.result c.from_residual.ensures.1 in rw (p.1, p.2) (λ ks ready.
    let e = c.in_err-len.field-0.0 in
    value_refused c.args.schema.now c.args.form c.args.spot c.args.bytes.now e.at e.code ks c.requires.sound
    c.requires.value.known (headed_sized c.args.schema.now (form_at c.args.schema.now c.args.form)
    c.requires.sized) c.in_err-len.ensures.err ready)

pub padded_body-requires-clause-rear : goal.padded_body-requires-clause-rear
padded_body-requires-clause-rear c = rear_behind c.args.message.now c.args.bytes.now (word c.in_ok-len.len)
    c.in_ok-len.rest.now c.requires.rear c.in_ok-len.ensures.ok.parts

pub returns-in-Ok-clause-ok : goal.returns-in-Ok-clause-ok
returns-in-Ok-clause-ok c =
    let l = sized_layout c.args.schema.now (form_at c.args.schema.now c.args.form) c.requires.sized in
    let taken = c.in_ok-len.ensures.ok in
    body_begun c.args.schema.now c.args.message.now c.args.form c.args.spot c.args.bytes.now c.in-Ok.rest.now
    c.in-Ok.first
    (λ ks. sized_moves c.args.schema.now (layout_at c.args.schema.now c.args.form) l.leaf l.most
    (spot_of c.args.schema.now c.args.spot) c.args.bytes.now c.in_ok-len.rest.now c.in-Ok.rest.now
    c.in_ok-len.len (nodes_of c.args.schema.now c.args.message.now (c.in-Ok.first ∷ [])) ks l.is taken
    (c.in-Ok.ensures.ok c.args.schema.now l.leaf
    (leaf_same c.form_at.result.now (form_at c.args.schema.now c.args.form) l.leaf c.form_at.ensures.form
    l.shows) ks))
    (c.in-Ok.ensures.named (length c.args.schema.now.names) c.requires.value.spot.0)
    (let h = c.in-Ok.ensures.less in
    let k = read_less c.args.bytes.now c.in_ok-len.rest.now c.in_ok-len.len taken.parts in omega arith)

pub returns-in-Err-clause-err : goal.returns-in-Err-clause-err
returns-in-Err-clause-err c = λ ks ready.
    let l = sized_layout c.args.schema.now (form_at c.args.schema.now c.args.form) c.requires.sized in
    sized_refused c.args.schema.now (layout_at c.args.schema.now c.args.form) l.leaf l.most
    (spot_of c.args.schema.now c.args.spot) c.args.bytes.now c.in_ok-len.rest.now c.in_ok-len.len
    c.in-Err.fault.at c.counted_from.result.at c.in-Err.fault.code c.counted_from.result.code ks l.is
    c.requires.sound c.in_ok-len.ensures.ok
    (IsByteList_of c.args.bytes.now (λ i. omega (arith, c.type_inv.bytes i))) c.in-Err.ensures.err
    c.counted_from.ensures.code c.counted_from.ensures.place ready
