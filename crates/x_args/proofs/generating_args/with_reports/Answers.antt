use Rattle.std.proofs.Common.{◌∙◌, refl, ap, ap₂, codes, subst}
use Rattle.std.proofs.lemmas.Result.{IfOk-weaker}
use Rattle.clap.specs.Words.{Rule, Text, with_rule}
use Rattle.x_args.specs.Args.{IsChain}
use Rattle.x_args.proofs.Commands.{chain_on, three_on}
use Rattle.x_args.proofs.generating_args.with_reports.Goals as goal

pub returns-clause-app : goal.returns-clause-app
returns-clause-app c =
    let one = c.in_ok-arg.ensures.shape c.request.ensures.fits.1
    ∙ ap₂ with_rule refl c.request.ensures.rule in
    let two = c.in_ok-arg-2.ensures.shape c.request-2.ensures.fits.1
    ∙ ap₂ with_rule one c.request-2.ensures.rule in
    IfOk-weaker c.arg-3.result _ _
    (λ r h. h.shape c.request-3.ensures.fits.1 ∙ ap₂ with_rule two c.request-3.ensures.rule) c.arg-3.ensures

pub returns-clause-chain : goal.returns-clause-chain
returns-clause-chain c =
    let id : Rule → Text = λ r. r.id in
    IfOk-weaker c.arg-3.result _ _ (λ r h ids chain.
    let one = chain_on ids _ _ c.request.result (codes "explain") chain c.in_ok-arg.ensures
    c.request.ensures.fits (ap id c.request.ensures.rule) in
    let two = chain_on _ _ _ c.request-2.result (codes "plain") one c.in_ok-arg-2.ensures
    c.request-2.ensures.fits (ap id c.request-2.ensures.rule) in
    let three = chain_on _ _ r c.request-3.result (codes "strict") two h
    c.request-3.ensures.fits (ap id c.request-3.ensures.rule) in
    subst (λ l. IsChain l r) (three_on ids (codes "explain") (codes "plain") (codes "strict")) three)
    c.arg-3.ensures
