use Rattle.std.proofs.Common.{[], length, sym, subst}
use Rattle.x_trees.specs.Spell.{spell_argument}
use Rattle.x_trees.specs.View.{view_argument}
use Rattle.x_outline.specs.MemberWalks.{Skips}
use Rattle.x_outline.proofs.programs.pass_argument.Goals as goal

pub returns-in-String : goal.returns-in-String
returns-in-String c =
    subst (λ x. Skips c.args.walk.now c.skip.new.self (length (spell_argument (view_argument x))))
    (sym c.in-String.is) (c.skip.ensures [] []).bodies
