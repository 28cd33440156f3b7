use Rattle.std.proofs.Common.{◌∙◌, refl, ap, ap₂, codes, subst}
use Rattle.std.proofs.lemmas.Result.{IfOk-weaker}
use Rattle.clap.specs.Words.{Rule, Text, with_rule}
use Rattle.x_args.specs.Args.{IsChain}
use Rattle.x_args.proofs.Commands.{chain_on, three_on}
use Rattle.x_args.proofs.before_args.with_before.Goals as goal

pub returns-clause-app : goal.returns-clause-app
returns-clause-app c =
    let one = c.in_ok-arg.ensures.shape c.known.ensures.fits.1 ∙ ap₂ with_rule refl c.known.ensures.rule in
    let two = c.in_ok-arg-2.ensures.shape c.request.ensures.fits.1
    ∙ ap₂ with_rule one c.request.ensures.rule in
    IfOk-weaker c.arg-3.result _ _
    (λ r h. h.shape c.request-2.ensures.fits.1 ∙ ap₂ with_rule two c.request-2.ensures.rule) c.arg-3.ensures

pub returns-clause-chain : goal.returns-clause-chain
returns-clause-chain c =
    let id : Rule → Text = λ r. r.id in
    IfOk-weaker c.arg-3.result _ _ (λ r h ids chain.
    let one = chain_on ids _ _ c.known.result (codes "known") chain c.in_ok-arg.ensures
    c.known.ensures.fits (ap id c.known.ensures.rule) in
    let two = chain_on _ _ _ c.request.result (codes "c_types") one c.in_ok-arg-2.ensures
    c.request.ensures.fits (ap id c.request.ensures.rule) in
    let three = chain_on _ _ r c.request-2.result (codes "foreign") two h
    c.request-2.ensures.fits (ap id c.request-2.ensures.rule) in
    subst (λ l. IsChain l r) (three_on ids (codes "known") (codes "c_types") (codes "foreign")) three)
    c.arg-3.ensures
