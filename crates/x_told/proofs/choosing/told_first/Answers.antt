use Rattle.std.proofs.Common.{◌∙◌, ap, length, sym}
use Rattle.x_compile.proofs.FaultLemmas.{places_many}
use Rattle.x_session.proofs.DeclaredLemmas.{of_each}
use Rattle.x_told.specs.Choosing.{chosen}
use Rattle.x_told.proofs.choosing.told_first.Goals as goal

pub returns-then-branch : goal.returns-then-branch
returns-then-branch c =
    let most = c.args.most in
    let text = c.args.session.now.text in
    let first = c.in_ok-first_places.ensures in
    let items = first.1 in
    let count = of_each text c.fault_count.ensures first.0 items first.2 in
    let same = sym (c.in_ok-are_all_told.ensures c.if-branch.true items) in (
      first.0,
      items,
      first.2,
      (first.3 ∙ ap (chosen most) same, count ∙ places_many text 0 items ∙ ap (λ l. length l) same),
    )

pub returns : goal.returns
returns c =
    let most = c.args.most in
    let told = c.in_ok-places.ensures in (
      told.0,
      told.1,
      told.2,
      (ap (chosen most) told.3, c.len-count.ensures ∙ c.in_ok-places.places.ok.0 ∙ ap (λ l. length l) told.3),
    )
