use Rattle.std.proofs.Common.{◌∙◌, [], ◌∷◌, rules, ap, ap₂, codes}
use Rattle.std.proofs.lemmas.Result.{IfOk-weaker}
use Rattle.clap.specs.Words.{Rule, Text, with_rule}
use Rattle.x_args.proofs.Commands.{bare_is, chain_of_none, chain_on}
use Rattle.x_args.proofs.arguments.plain_command.Goals as goal

pub returns-clause-app : goal.returns-clause-app
returns-clause-app c =
    let bare = bare_is c.new.result c.disable_help_flag.result c.args.name.now c.new.ensures.app
    c.disable_help_flag.ensures in
    let one = c.in_ok-arg.ensures.shape (search rules) ∙ ap₂ with_rule bare c.request.ensures.rule in
    IfOk-weaker c.arg-2.result _ _
    (λ r h. h.shape (search rules) ∙ ap₂ with_rule one c.request-2.ensures.rule) c.arg-2.ensures

pub returns-clause-chain : goal.returns-clause-chain
returns-clause-chain c =
    let id : Rule → Text = λ r. r.id in
    let none = chain_of_none c.new.result c.disable_help_flag.result c.disable_help_flag.ensures
    c.new.ensures.empty c.new.ensures.local c.new.ensures.negates in
    let one = chain_on [] _ _ c.request.result (codes "asks_help") none c.in_ok-arg.ensures
    c.request.ensures.fits (ap id c.request.ensures.rule) in
    IfOk-weaker c.arg-2.result _ _
    (λ r h. chain_on (codes "asks_help" ∷ []) _ r c.request-2.result (codes "asks_version") one h
    c.request-2.ensures.fits (ap id c.request-2.ensures.rule))
    c.arg-2.ensures
