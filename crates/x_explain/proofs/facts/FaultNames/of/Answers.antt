use Rattle.x_session.proofs.DeclaredLemmas.{of_each}
use Rattle.x_explain.proofs.facts.FaultNames.of.Goals as goal

pub returns : goal.returns
returns c =
    let t = c.in_ok-declared.ensures in
    let again = c.in_ok-again.ensures in
    (t.0, t.1, t.2, record { table = t.3; again = of_each c.args.session.now.text again t.0 t.1 t.2 })
