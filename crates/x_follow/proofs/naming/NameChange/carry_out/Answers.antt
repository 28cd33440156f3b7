use Rattle.std.proofs.Common.{subst}
use Rattle.x_follow.specs.Following.{AreUsed}
use Rattle.x_follow.proofs.StaleLemmas.{uses_followed}
use Rattle.x_follow.proofs.naming.NameChange.carry_out.Goals as goal

pub returns-in-Some : goal.returns-in-Some
returns-in-Some c es p among few new h used =
    uses_followed es p c.args.self c.in-Some.uses c.replace.new.self among few new h
    (subst (AreUsed es) c.in-Some.is used) c.replace.ensures
