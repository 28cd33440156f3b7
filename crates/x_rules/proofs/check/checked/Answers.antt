use Rattle.std.proofs.Common.{sym, ap, subst, ◌∙◌}
use Rattle.x_outline.specs.Outlines.{outlined}
use Rattle.x_rules.specs.Outlined.{GivesOutcome}
use Rattle.x_rules.specs.Results.{meanings_by}
use Rattle.x_rules.specs.Rules.{AreFaults}
use Rattle.x_rules.specs.Tables.{seen_by}
use Rattle.x_rules.specs.KeptViews.{outcome_of}
use Rattle.x_rules.proofs.check.checked.Goals as goal

pub returns : goal.returns
returns c o t =
    let d = outlined c.args.outline.now in
    let see = seen_by c.args.sights.now in
    let faults = c.in_ok-faults.faults.items in
    let are = c.in_ok-faults.ensures o t in
    let outcome = outcome_of faults c.in_ok-meanings.meanings.items in
    let meanings = c.in_ok-meanings.ensures o t (subst (AreFaults d see) (sym c.deref.ensures.value) are)
    ∙ ap (meanings_by d see) c.deref.ensures.value in
    let given : GivesOutcome d see outcome = record { are_faults = are; are_meanings = meanings } in
    subst (GivesOutcome d see) (sym c.new.ensures) given
