use Rattle.std.proofs.Common.{◌∙◌, ◌++◌, ap, sym, append-nil}
use Rattle.x_explain.proofs.found.fault_places.Goals as goal

pub returns : goal.returns
returns c =
    let h = c.fault_places-place-items.ensures in
    let places = c.loop-place.places.items in
    let all = sym (append-nil places) ∙ ap (λ l. places ++ l) (sym c.in-None.ensures.steps.0)
    ∙ c.loop-place.invariant ∙ c.into_iter-place-iterator.ensures.into_iter_gives in
    (h.0, h.1, h.2, all ∙ h.3)
