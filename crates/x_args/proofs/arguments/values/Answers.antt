use Rattle.std.proofs.Common.{◌∙◌, [], refl, ap, map}
use Rattle.std.specs.Prelude.{unwrap_or}
use Rattle.std.proofs.lemmas.Result.{IfOk-weaker}
use Rattle.clap.specs.Words.{found_of, rows_of}
use Rattle.x_args.proofs.Commands.{values_are}
use Rattle.x_args.proofs.arguments.values.Goals as goal

pub returns-in-Some : goal.returns-in-Some
returns-in-Some c =
    let found = found_of c.args.matches.now in
    let all = c.in-Some.ensures ∙ values_are found c.args.id.now (rows_of found) refl in
    IfOk-weaker c.to_vec.result _ _
    (λ v is. ap (map (λ s. s.now)) (is (λ x y same. same)) ∙ ap (λ o. unwrap_or o []) all)
    c.to_vec.ensures.items_if_clones_equal

pub returns-in-None : goal.returns-in-None
returns-in-None c =
    let found = found_of c.args.matches.now in
    let none = c.in-None.ensures ∙ values_are found c.args.id.now (rows_of found) refl in
    ap (map (λ s. s.now)) c.new.ensures.items ∙ ap (λ o. unwrap_or o []) none
