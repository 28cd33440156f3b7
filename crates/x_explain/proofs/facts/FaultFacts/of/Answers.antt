use Rattle.x_session.proofs.DeclaredLemmas.{of_each}
use Rattle.x_explain.proofs.facts.FaultFacts.of.Goals as goal

pub returns-clause-facts : goal.returns-clause-facts
returns-clause-facts c =
    let names = c.in_ok-names.ensures in
    let near = c.in_ok-suggestions.ensures in (
      names.0,
      names.1,
      names.2,
      record { names = names.3; near = of_each c.args.session.now.text near names.0 names.1 names.2 },
    )
