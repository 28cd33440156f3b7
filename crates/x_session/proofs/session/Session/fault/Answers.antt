use Rattle.std.proofs.Common.{refl, ap, sym, ◌∙◌}
use Rattle.std.specs.Prelude.{slice_get}
use Rattle.std.proofs.lemmas.Iterator.Adapters.{option_map_id}
use Rattle.std.proofs.lemmas.Iterator.Consumers.{nth_from_yields_List, YieldsList-from_first}
use Rattle.x_session.proofs.session.Session.fault.Goals as goal

pub returns : goal.returns
returns c =
    let h = c.faults.ensures in
    let found = nth_from_yields_List c.nth.result c.nth.new.self c.args.index c.nth.ensures.ran
    (YieldsList-from_first (λ x. x) (λ left. left) c.faults.result refl) in
    (h.0, h.1, h.2, sym (option_map_id c.nth.result) ∙ found ∙ ap (λ fs. slice_get fs c.args.index) h.3)
