use Rattle.std.specs.Prelude.{slice_get}
use Rattle.std.proofs.Common.{None, Some, map, ap, sym, ◌∙◌}
use Rattle.x_outline.specs.BodyWalks.{view_body_at}
use Rattle.x_rules.proofs.MeaningLemmas.{body_in_place, lent_at}
use Rattle.x_rules.proofs.rules.meanings.body_named.Goals as goal

pub returns-in-Some : goal.returns-in-Some
returns-in-Some c =
    let place = c.in-Some.place in
    lent_at view_body_at c.items.result.now place c.get-in-Some.result c.get-in-Some.ensures.lookup.3
    ∙ ap (λ l. slice_get (map view_body_at l) place) c.items.ensures
    ∙ body_in_place c.args.bodies.now c.args.word (Some place) (sym c.in-Some.is ∙ c.get.ensures)

pub returns-in-None : goal.returns-in-None
returns-in-None c = body_in_place c.args.bodies.now c.args.word None (sym c.in-None.is ∙ c.get.ensures)
