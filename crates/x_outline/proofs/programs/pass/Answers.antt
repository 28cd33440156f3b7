use Rattle.std.proofs.Common.{[], length, sym, subst}
use Rattle.x_trees.specs.Spell.{spell_passed}
use Rattle.x_trees.specs.View.{view_passed}
use Rattle.x_outline.specs.MemberWalks.{Skips}
use Rattle.x_outline.proofs.programs.pass.Goals as goal

pub returns-in-None : goal.returns-in-None
returns-in-None c = subst (λ x. Skips c.args.walk.now c.skip.new.self (length (spell_passed (view_passed x))))
    (sym c.in-None.is) (c.skip.ensures [] []).bodies
