use Rattle.std.proofs.Common.{◌∙◌, ap, ap₂, codes}
use Rattle.std.proofs.lemmas.Result.{IfOk-weaker}
use Rattle.clap.specs.Words.{Rule, Text, with_rule}
use Rattle.x_args.specs.Args.{check_app, with_before, with_reports}
use Rattle.x_args.proofs.Commands.{chain_on, last_has_some}
use Rattle.x_args.proofs.checking_args.check_command.Goals as goal

pub returns-clause-app : goal.returns-clause-app
unfolding check_app
returns-clause-app c =
    let check = c.in_ok-command.ensures.shape c.request.ensures.fits.1
    ∙ ap₂ with_rule c.in_ok-plain_command.ensures.app c.request.ensures.rule in
    let reports = c.in_ok-with_reports.ensures.app ∙ ap with_reports check in
    let all = c.in_ok-with_before.ensures.app ∙ ap with_before reports in
    IfOk-weaker c.arg-2.result _ _
    (λ r h. h.shape c.files.ensures.fits.1 ∙ ap₂ with_rule all c.files.ensures.rule) c.arg-2.ensures

pub returns-clause-files : goal.returns-clause-files
returns-clause-files c =
    let id : Rule → Text = λ r. r.id in
    let check = chain_on _ _ _ c.request.result (codes "check") c.in_ok-plain_command.ensures.chain
    c.in_ok-command.ensures c.request.ensures.fits (ap id c.request.ensures.rule) in
    let all = c.in_ok-with_before.ensures.chain _ (c.in_ok-with_reports.ensures.chain _ check) in
    IfOk-weaker c.arg-2.result _ _
    (λ r h. last_has_some _ _ r c.files.result (codes "file") all h c.files.ensures.fits
    c.files.ensures.required (ap id c.files.ensures.rule))
    c.arg-2.ensures
