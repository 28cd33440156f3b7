use Rattle.std.proofs.Common.{subst}
use Rattle.std.proofs.lemmas.List.{take_all}
use Rattle.x_explain.specs.Found.{AreFound}
use Rattle.x_explain.proofs.FoundLemmas.{found_step}
use Rattle.x_explain.proofs.found.found_at.Goals as goal

pub loop-place-preserved : goal.loop-place-preserved
loop-place-preserved c =
    found_step c.args.text.now c.args.places.now c.loop-place.place-index _ c.loop-place.found.items
    c.push.new.self.items c.token_end.result c.loop-place-test.true c.loop-place.invariant c.token_end.ensures
    c.in_ok-push.ensures.items

pub returns : goal.returns
returns c =
    let all = take_all c.loop-place.place-index c.args.places.now c.loop-place-test.false in
    subst (λ l. AreFound c.args.text.now l c.loop-place.found.items) all c.loop-place.invariant
