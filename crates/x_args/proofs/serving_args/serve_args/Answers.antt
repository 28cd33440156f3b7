use Rattle.std.proofs.Common.{◌≡◌, ◌∙◌, true, refl, ap, subst, map, codes}
use Rattle.clap.specs.Words.{is_simple_and_free}
use Rattle.clap.proofs.OnLiterals.{clap_on_literals}
use Rattle.x_args.specs.Args.{is_in_words, serve_app, IsBeforeArgs}
use Rattle.x_args.proofs.Commands.{fails_again, none_fails, rows_are}
use Rattle.x_args.proofs.serving_args.serve_args.Goals as goal

is_free : is_simple_and_free serve_app ≡ true
unfolding serve_app clap_on_literals
is_free = refl

pub returns-in_err-matches-clause-refuses : goal.returns-in_err-matches-clause-refuses
returns-in_err-matches-clause-refuses g c =
    fails_again _ serve_app (map g.S.AsStr.text c.args.words.now) c.from_residual-in_err-matches.result
    c.in_err-matches.field-0.0 c.in_ok-serve_command.ensures is_free c.in_err-matches.ensures.kinds
    c.from_residual-in_err-matches.ensures.1

pub returns-clause-reads : goal.returns-clause-reads
returns-clause-reads g c =
    let rows = rows_are _ serve_app (map g.S.AsStr.text c.args.words.now) c.in_ok-matches.matches
    c.in_ok-serve_command.ensures is_free c.in_ok-matches.ensures.matches in
    record {
      stdio = c.is_given.ensures ∙ ap (is_in_words (codes "stdio")) rows;
      before = subst (λ rows. IsBeforeArgs rows c.in_ok-before_args.field-0) rows c.in_ok-before_args.ensures;
      faults_directives = c.is_given-2.ensures ∙ ap (is_in_words (codes "fault_directives")) rows;
    }

pub returns-clause-refuses : goal.returns-clause-refuses
returns-clause-refuses g c =
    none_fails _ serve_app (map g.S.AsStr.text c.args.words.now) c.in_ok-serve_command.ensures is_free
    c.in_ok-matches.ensures.kinds
