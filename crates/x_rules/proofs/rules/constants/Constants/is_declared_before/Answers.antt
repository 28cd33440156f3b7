use Rattle.std.proofs.Common.{ap, ◌∙◌}
use Rattle.x_rules.proofs.PlaceLemmas.{before_found, declared_before_is, first_listed}
use Rattle.x_rules.proofs.rules.constants.Constants.is_declared_before.Goals as goal

pub returns-in-Some : goal.returns-in-Some
returns-in-Some c all known h =
    c.is_before.ensures all known h
    ∙ ap (before_found all c.args.limit) (c.in-Some.ensures
    ∙ first_listed c.args.self.now all known c.args.name.now h)
    ∙ declared_before_is all c.args.limit c.args.name.now

pub returns-in-None : goal.returns-in-None
returns-in-None c all known h =
    ap (before_found all c.args.limit)
    (c.in-None.ensures ∙ first_listed c.args.self.now all known c.args.name.now h)
    ∙ declared_before_is all c.args.limit c.args.name.now
