use Rattle.std.proofs.Common.{refl, rules, codes}
use Rattle.x_args.proofs.Commands.{fits_chain}
use Rattle.x_args.proofs.checking_args.files.Goals as goal

pub returns-clause-rule : goal.returns-clause-rule
returns-clause-rule c = search rules

pub returns-clause-fits : goal.returns-clause-fits
returns-clause-fits c = fits_chain c.action.result (codes "file") (search rules) (search rules)
    (search rules) refl
