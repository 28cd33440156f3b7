use Rattle.std.proofs.Common.{map, sym, ap, subst, ◌∙◌}
use Rattle.std.proofs.lemmas.Result.{IfOk-weaker}
use Rattle.x_outline.specs.Bodies.{enumerators_in}
use Rattle.x_outline.specs.BodyWalks.{view_body_at, AreFilled}
use Rattle.x_outline.specs.Parts.{view_enumerator_at}
use Rattle.x_rules.specs.Constants.{knowns}
use Rattle.x_rules.specs.Outlined.{AreTables}
use Rattle.x_rules.specs.Tables.{HasNumbers, seen_by}
use Rattle.x_rules.proofs.check.outcome_seen.Goals as goal

pub returns : goal.returns
returns c =
    IfOk-weaker c.checked.result _ _
    (λ checked h o names.
    let outline = c.args.outline.now in
    let sights = c.args.sights.now in
    let constants = c.in_ok-constants.constants in
    let enumerators_are =
    ap (map view_enumerator_at) c.deref-2.ensures.value
    ∙ c.in_ok-list.ensures (subst AreFilled (sym c.deref.ensures.value) o.filled)
    ∙ ap (λ l. enumerators_in (map view_body_at l)) c.deref.ensures.value ∙ ap enumerators_in o.bodies_are in
    let numbers = subst (λ all. HasNumbers constants all (knowns (seen_by sights) all)) enumerators_are
    c.in_ok-constants.ensures in
    let tables : AreTables outline sights constants = record { names = names; numbers = numbers } in
    h o tables)
    c.checked.ensures
