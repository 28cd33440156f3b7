use Rattle.std.proofs.Common.{ap, sym, ◌∙◌}
use Rattle.std.specs.Prelude.{not, ◌&&◌}
use Rattle.x_follow.proofs.LackingLemmas.{lacking_by}
use Rattle.x_follow.proofs.naming.is_lacking.Goals as goal

pub returns-then-is_none : goal.returns-then-is_none
returns-then-is_none c ds uses =
    ap (λ b. b && not c.is_empty.result) (sym c.if-is_none.true)
    ∙ lacking_by ds c.args.uses.now c.args.name.now c.first.result c.users.result.now c.is_none.result
    c.is_empty.result uses (c.first.ensures ds uses) c.users.ensures c.is_none.ensures c.is_empty.ensures
