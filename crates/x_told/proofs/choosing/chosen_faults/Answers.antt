use Rattle.std.proofs.Common.{◌∙◌, ap, arith, length, subst, sym}
use Rattle.x_explain.specs.Found.{AreFound}
use Rattle.x_told.specs.Choosing.{chosen}
use Rattle.x_told.specs.Telling.{told_of}
use Rattle.x_told.proofs.choosing.chosen_faults.Goals as goal

pub returns : goal.returns
returns c =
    let told = c.in_ok-told.ensures in
    let most = c.args.most in
    let found = c.in_ok-list.list.items in
    let long = told.3.1 in
    let left = c.saturating_sub-left.ensures in
    let places = c.deref.ensures.value ∙ c.in_ok-places.ensures.chosen ∙ told.3.0 in (
      told.0,
      told.1,
      told.2,
      (
        subst (λ t. AreFound t (chosen most (told_of c.args.blanks c.args.shown.now told.1)) found)
            c.bytes.ensures
            (subst (λ l. AreFound c.bytes.result.now l found) places c.in_ok-list.ensures),
        omega (arith, long, left),
      ),
    )
