use Rattle.std.proofs.Common.{◌≡◌, ◌∙◌, true, refl, ap, sym, subst, map, codes}
use Rattle.std.specs.Prelude.{option_map}
use Rattle.clap.specs.Words.{found_of, is_simple_and_free}
use Rattle.clap.proofs.OnLiterals.{clap_on_literals}
use Rattle.x_args.specs.Args.{edit_app, IsBeforeArgs}
use Rattle.x_args.proofs.Commands.{fails_again, none_fails, rows_are, value_is}
use Rattle.x_args.proofs.editing_args.edit_args.Goals as goal

is_free : is_simple_and_free edit_app ≡ true
unfolding edit_app clap_on_literals
is_free = refl

pub returns-in_err-matches-clause-refuses : goal.returns-in_err-matches-clause-refuses
returns-in_err-matches-clause-refuses g c =
    fails_again _ edit_app (map g.S.AsStr.text c.args.words.now) c.from_residual-in_err-matches.result
    c.in_err-matches.field-0.0
    c.in_ok-edit_command.ensures.app is_free c.in_err-matches.ensures.kinds
    c.from_residual-in_err-matches.ensures.1

pub returns-clause-reads : goal.returns-clause-reads
returns-clause-reads g c =
    let found = found_of c.in_ok-matches.matches in
    let rows = rows_are _ edit_app (map g.S.AsStr.text c.args.words.now) c.in_ok-matches.matches
    c.in_ok-edit_command.ensures.app is_free c.in_ok-matches.ensures.matches in
    record {
      before = subst (λ rows. IsBeforeArgs rows c.in_ok-before_args.field-0) rows c.in_ok-before_args.ensures;
      file = ap (option_map (λ s. s.now)) (sym c.unwrap.ensures) ∙ c.get_str.ensures
          ∙ value_is found (codes "file") _ rows;
    }

pub returns-clause-refuses : goal.returns-clause-refuses
returns-clause-refuses g c =
    none_fails _ edit_app (map g.S.AsStr.text c.args.words.now) c.in_ok-edit_command.ensures.app is_free
    c.in_ok-matches.ensures.kinds
