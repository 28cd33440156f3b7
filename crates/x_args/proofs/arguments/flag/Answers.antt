use Rattle.std.proofs.Common.{rules}
use Rattle.x_args.proofs.Commands.{fits_chain}
use Rattle.x_args.proofs.arguments.flag.Goals as goal

pub returns-clause-rule : goal.returns-clause-rule
returns-clause-rule c = search rules

pub returns-clause-fits : goal.returns-clause-fits
returns-clause-fits c = fits_chain c.action.result c.args.id.now (search rules) (search rules)
    (search rules) c.requires
