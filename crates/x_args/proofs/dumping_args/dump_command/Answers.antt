use Rattle.std.proofs.Common.{◌∙◌, rules, refl, ap, ap₂, codes}
use Rattle.std.proofs.lemmas.Result.{IfOk-weaker}
use Rattle.clap.specs.Words.{Rule, Text, with_rule}
use Rattle.x_args.specs.Args.{dump_app}
use Rattle.x_args.proofs.Commands.{chain_on, last_has}
use Rattle.x_args.proofs.dumping_args.dump_command.Goals as goal

pub returns-clause-app : goal.returns-clause-app
unfolding dump_app
returns-clause-app c =
    let one = c.in_ok-arg.ensures.shape (search rules)
    ∙ ap₂ with_rule c.in_ok-plain_command.ensures.app c.valued.ensures.rule in
    let two = c.in_ok-arg-2.ensures.shape (search rules) ∙ ap₂ with_rule one c.flag.ensures.rule in
    let three = c.in_ok-arg-3.ensures.shape (search rules) ∙ ap₂ with_rule two c.valued-2.ensures.rule in
    let four = c.in_ok-arg-4.ensures.shape (search rules) ∙ ap₂ with_rule three c.known.ensures.rule in
    let five = c.in_ok-arg-5.ensures.shape (search rules) ∙ ap₂ with_rule four c.request.ensures.rule in
    IfOk-weaker c.arg-6.result _ _
    (λ r h. h.shape (search rules) ∙ ap₂ with_rule five c.file.ensures.rule) c.arg-6.ensures

pub returns-clause-file : goal.returns-clause-file
returns-clause-file c =
    let id : Rule → Text = λ r. r.id in
    let one = chain_on _ _ _ c.valued.result (codes "schema") c.in_ok-plain_command.ensures.chain
    c.in_ok-arg.ensures c.valued.ensures.fits (ap id c.valued.ensures.rule) in
    let two = chain_on _ _ _ c.flag.result (codes "bare") one c.in_ok-arg-2.ensures c.flag.ensures.fits
    (ap id c.flag.ensures.rule) in
    let three = chain_on _ _ _ c.valued-2.result (codes "type") two c.in_ok-arg-3.ensures
    c.valued-2.ensures.fits (ap id c.valued-2.ensures.rule) in
    let four = chain_on _ _ _ c.known.result (codes "known") three c.in_ok-arg-4.ensures c.known.ensures.fits
    (ap id c.known.ensures.rule) in
    let five = chain_on _ _ _ c.request.result (codes "c_types") four c.in_ok-arg-5.ensures
    c.request.ensures.fits (ap id c.request.ensures.rule) in
    IfOk-weaker c.arg-6.result _ _
    (λ r h. last_has _ _ r c.file.result (codes "file") five h c.file.ensures.fits c.file.ensures.value
    (ap id c.file.ensures.rule) refl)
    c.arg-6.ensures
