use Rattle.std.proofs.Common.{◌∙◌, None, Some, ap, sym}
use Rattle.std.specs.Prelude.{option_and_then, option_map}
use Rattle.x_session.specs.DeclaredNames.{declared_at}
use Rattle.x_session.specs.DeclaredNames.{place_by}
use Rattle.x_session.proofs.DeclaredLemmas.{place_items}
use Rattle.x_session.proofs.declared.DeclaredNames.first.Goals as goal

pub returns-in-Some-clause-by_table : goal.returns-in-Some-clause-by_table
returns-in-Some-clause-by_table c =
    let d = c.in_ok-declarer.declarer in
    ap (option_map (declared_at d)) (sym c.in-Some.is ∙ c.spot.ensures.by_table)
    ∙ ap (option_and_then (place_by c.args.self.now)) (sym c.in_ok-declarer.was ∙ c.first.ensures)

pub returns-in-Some-clause-by_items : goal.returns-in-Some-clause-by_items
returns-in-Some-clause-by_items c = λ text items h.
    returns-in-Some-clause-by_table c ∙ place_items text items c.args.self.now c.args.name.now h

pub returns-in-None-clause-by_table : goal.returns-in-None-clause-by_table
returns-in-None-clause-by_table c =
    let d = c.in_ok-declarer.declarer in
    ap (option_map (declared_at d)) (sym c.in-None.is ∙ c.spot.ensures.by_table)
    ∙ ap (option_and_then (place_by c.args.self.now)) (sym c.in_ok-declarer.was ∙ c.first.ensures)

pub returns-in-None-clause-by_items : goal.returns-in-None-clause-by_items
returns-in-None-clause-by_items c = λ text items h.
    returns-in-None-clause-by_table c ∙ place_items text items c.args.self.now c.args.name.now h
