use Rattle.std.proofs.Common.{ap, sym, ◌∙◌}
use Rattle.std.specs.Prelude.{option_map}
use Rattle.x_session.specs.declared.declared.FirstPlace.{FirstPlace}
use Rattle.x_published.proofs.PlaceTableLemmas.{start_found}
use Rattle.x_published.proofs.other_places.place_in.Goals as goal

pub returns-in-Some : goal.returns-in-Some
returns-in-Some c = λ text items h.
    ap (option_map (λ (f : FirstPlace). f.spot.start)) (sym c.in-Some.is)
    ∙ start_found text items c.args.word.now c.first.result (c.first.ensures text items h)

pub returns-in-None : goal.returns-in-None
returns-in-None c = λ text items h.
    ap (option_map (λ (f : FirstPlace). f.spot.start)) (sym c.in-None.is)
    ∙ start_found text items c.args.word.now c.first.result (c.first.ensures text items h)
