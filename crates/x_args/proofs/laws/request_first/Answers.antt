use Rattle.std.proofs.Common.{refl}
use Rattle.clap.proofs.OnLiterals.{clap_on_literals}
use Rattle.x_args.specs.Args.{check_app, dump_app, edit_app, gen_app, serve_app}
use Rattle.x_args.proofs.laws.request_first.Goals as goal

pub returns-clause-rpcgen : goal.returns-clause-rpcgen
unfolding gen_app clap_on_literals
returns-clause-rpcgen c name rest = (refl, refl)

pub returns-clause-check : goal.returns-clause-check
unfolding check_app clap_on_literals
returns-clause-check c name rest = (refl, refl)

pub returns-clause-rpcedit : goal.returns-clause-rpcedit
unfolding edit_app clap_on_literals
returns-clause-rpcedit c name rest = (refl, refl)

pub returns-clause-rpcdump : goal.returns-clause-rpcdump
unfolding dump_app clap_on_literals
returns-clause-rpcdump c name rest = (refl, refl)

pub returns-clause-rpcls : goal.returns-clause-rpcls
unfolding serve_app clap_on_literals
returns-clause-rpcls c name rest = (refl, refl)
