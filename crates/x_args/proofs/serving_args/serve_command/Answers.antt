use Rattle.std.proofs.Common.{◌∙◌, ap, ap₂}
use Rattle.std.proofs.lemmas.Result.{IfOk-weaker}
use Rattle.clap.specs.Words.{with_rule}
use Rattle.x_args.specs.Args.{serve_app, with_before}
use Rattle.x_args.proofs.serving_args.serve_command.Goals as goal

pub returns : goal.returns
unfolding serve_app
returns c =
    let stdio = c.in_ok-command.ensures.shape c.request.ensures.fits.1
    ∙ ap₂ with_rule c.in_ok-plain_command.ensures.app c.request.ensures.rule in
    let all = c.in_ok-with_before.ensures.app ∙ ap with_before stdio in
    IfOk-weaker c.arg-2.result _ _
    (λ r h. h.shape c.request-2.ensures.fits.1 ∙ ap₂ with_rule all c.request-2.ensures.rule) c.arg-2.ensures
