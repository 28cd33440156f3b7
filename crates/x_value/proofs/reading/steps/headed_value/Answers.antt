use Rattle.std.proofs.lemmas.Result.{err_from_is_err_and}
use Rattle.x_schema.specs.Schema.{form_at}
use Rattle.x_value.proofs.StepLemmas.{headed_layout, value_refused, head_begun}
use Rattle.x_value.proofs.reading.steps.headed_value.Goals as goal

pub returns-in_err-word-clause-err : goal.returns-in_err-word-clause-err
returns-in_err-word-clause-err c =
    let p = err_from_is_err_and c.from_residual.result c.from_residual.ensures.1 in rw (p.1, p.2) (λ ks ready.
    let e = c.in_err-word.field-0.0 in
    value_refused c.args.schema.now c.args.form c.args.spot c.args.bytes.now e.at e.code ks c.requires.sound
    c.requires.head.value.known (headed_layout c.args.schema.now (form_at c.args.schema.now c.args.form)
    c.requires.head.headed) c.in_err-word.ensures.err ready)

pub returns-clause-ok : goal.returns-clause-ok
returns-clause-ok c =
    head_begun c.args.schema.now c.args.message.now c.args.form c.args.spot c.args.bytes.now
    c.in_ok-word.rest.now c.in_ok-word.word c.shown_head-second.result.0 c.shown_head-second.result.1
    c.behind_head-next.result
    (headed_layout c.args.schema.now (form_at c.args.schema.now c.args.form) c.requires.head.headed)
    c.in_ok-word.ensures.ok (c.shown_head-second.ensures.shown c.args.message.now)
    c.shown_head-second.ensures.named
    c.behind_head-next.ensures.jobs c.behind_head-next.ensures.typed c.behind_head-next.ensures.light
