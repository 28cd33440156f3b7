use Rattle.std.proofs.Common.{◌≡◌, map, [], sym, ap, subst, ◌∙◌}
use Rattle.std.proofs.lemmas.Result.{IfOk-weaker}
use Rattle.x_trees.specs.Collected.{view_name}
use Rattle.x_outline.specs.BodyWalks.{view_body_at}
use Rattle.x_outline.specs.Outlines.{outlined}
use Rattle.x_rules.specs.Results.{meaning_of, meanings_by}
use Rattle.x_rules.specs.Rules.{AreFaults}
use Rattle.x_rules.specs.Tables.{seen_by}
use Rattle.x_rules.proofs.OutlineLemmas.{none_below}
use Rattle.x_rules.proofs.OwnNames.{none_too_high}
use Rattle.x_rules.proofs.check.meanings_by.Goals as goal

pub returns-in-empty : goal.returns-in-empty
returns-in-empty c =
    let d = outlined c.args.outline.now in
    let see = seen_by c.args.sights.now in
    let none : c.args.faults.now ≡ [] = none_below c.args.faults.now c.in-empty.len_below in
    IfOk-weaker c.meanings.result _ _
    (λ list h o t are.
    h t.numbers (ap (map view_body_at) c.deref-in-empty.ensures.value ∙ o.bodies_are)
    (none_too_high d see (subst (AreFaults d see) none are))
    ∙ ap (λ l. map (meaning_of d see) (map view_name l)) c.deref.ensures.value
    ∙ ap (map (meaning_of d see)) o.names_are ∙ sym (ap (meanings_by d see) none))
    c.meanings.ensures
