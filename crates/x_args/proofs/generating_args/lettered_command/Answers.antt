use Rattle.std.proofs.Common.{◌∙◌, ap, ap₂, codes}
use Rattle.std.proofs.lemmas.Result.{IfOk-weaker}
use Rattle.clap.specs.Words.{Rule, Text, with_rule}
use Rattle.x_args.proofs.Commands.{chain_on}
use Rattle.x_args.proofs.generating_args.lettered_command.Goals as goal

pub returns-clause-app : goal.returns-clause-app
returns-clause-app c =
    let one = c.in_ok-arg.ensures.shape c.flag.ensures.fits.1
    ∙ ap₂ with_rule c.in_ok-plain_command.ensures.app c.flag.ensures.rule in
    let two = c.in_ok-arg-2.ensures.shape c.flag-2.ensures.fits.1
    ∙ ap₂ with_rule one c.flag-2.ensures.rule in
    let three = c.in_ok-arg-3.ensures.shape c.flag-3.ensures.fits.1
    ∙ ap₂ with_rule two c.flag-3.ensures.rule in
    let four = c.in_ok-arg-4.ensures.shape c.flag-4.ensures.fits.1
    ∙ ap₂ with_rule three c.flag-4.ensures.rule in
    IfOk-weaker c.arg-5.result _ _
    (λ r h. h.shape c.valued.ensures.fits.1 ∙ ap₂ with_rule four c.valued.ensures.rule) c.arg-5.ensures

pub returns-clause-chain : goal.returns-clause-chain
returns-clause-chain c =
    let id : Rule → Text = λ r. r.id in
    let one = chain_on _ _ _ c.flag.result (codes "routines") c.in_ok-plain_command.ensures.chain
    c.in_ok-arg.ensures c.flag.ensures.fits (ap id c.flag.ensures.rule) in
    let two = chain_on _ _ _ c.flag-2.result (codes "header") one c.in_ok-arg-2.ensures
    c.flag-2.ensures.fits (ap id c.flag-2.ensures.rule) in
    let three = chain_on _ _ _ c.flag-3.result (codes "stubs") two c.in_ok-arg-3.ensures
    c.flag-3.ensures.fits (ap id c.flag-3.ensures.rule) in
    let four = chain_on _ _ _ c.flag-4.result (codes "table") three c.in_ok-arg-4.ensures
    c.flag-4.ensures.fits (ap id c.flag-4.ensures.rule) in
    IfOk-weaker c.arg-5.result _ _
    (λ r h. chain_on _ _ r c.valued.result (codes "output") four h c.valued.ensures.fits
    (ap id c.valued.ensures.rule)) c.arg-5.ensures
