use Rattle.std.proofs.Common.{◌∙◌, refl, ap, ap₂, codes}
use Rattle.std.proofs.lemmas.Result.{IfOk-weaker}
use Rattle.clap.specs.Words.{Rule, Text, with_rule}
use Rattle.x_args.specs.Args.{edit_app, with_before}
use Rattle.x_args.proofs.Commands.{last_has}
use Rattle.x_args.proofs.editing_args.edit_command.Goals as goal

pub returns-clause-app : goal.returns-clause-app
unfolding edit_app
returns-clause-app c =
    let all = c.in_ok-with_before.ensures.app ∙ ap with_before c.in_ok-plain_command.ensures.app in
    IfOk-weaker c.arg.result _ _
    (λ r h. h.shape c.file.ensures.fits.1 ∙ ap₂ with_rule all c.file.ensures.rule) c.arg.ensures

pub returns-clause-file : goal.returns-clause-file
returns-clause-file c =
    let id : Rule → Text = λ r. r.id in
    let all = c.in_ok-with_before.ensures.chain _ c.in_ok-plain_command.ensures.chain in
    IfOk-weaker c.arg.result _ _
    (λ r h. last_has _ _ r c.file.result (codes "file") all h c.file.ensures.fits c.file.ensures.value
    (ap id c.file.ensures.rule) refl)
    c.arg.ensures
