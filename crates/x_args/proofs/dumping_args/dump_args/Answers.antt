use Rattle.std.proofs.Common.{◌≡◌, ◌∙◌, true, refl, ap, sym, map, codes}
use Rattle.std.specs.Prelude.{option_map}
use Rattle.clap.specs.Words.{found_of, is_simple_and_free}
use Rattle.clap.proofs.OnLiterals.{clap_on_literals}
use Rattle.x_args.specs.Args.{dump_app, every_of, is_in_words}
use Rattle.x_args.proofs.Commands.{fails_again, none_fails, rows_are, value_is}
use Rattle.x_args.proofs.dumping_args.dump_args.Goals as goal

is_free : is_simple_and_free dump_app ≡ true
unfolding dump_app clap_on_literals
is_free = refl

pub returns-in_err-matches-clause-refuses : goal.returns-in_err-matches-clause-refuses
returns-in_err-matches-clause-refuses g c =
    fails_again _ dump_app (map g.S.AsStr.text c.args.words.now) c.from_residual-in_err-matches.result
    c.in_err-matches.field-0.0
    c.in_ok-dump_command.ensures.app is_free c.in_err-matches.ensures.kinds
    c.from_residual-in_err-matches.ensures.1

pub returns-clause-reads : goal.returns-clause-reads
returns-clause-reads g c =
    let found = found_of c.in_ok-matches.matches in
    let rows = rows_are _ dump_app (map g.S.AsStr.text c.args.words.now) c.in_ok-matches.matches
    c.in_ok-dump_command.ensures.app is_free c.in_ok-matches.ensures.matches in
    record {
      schema = c.get_str.ensures ∙ value_is found (codes "schema") _ rows;
      bare = c.is_given.ensures ∙ ap (is_in_words (codes "bare")) rows;
      type_name = c.get_str-2.ensures ∙ value_is found (codes "type") _ rows;
      known = c.in_ok-values.ensures ∙ ap (every_of (codes "known")) rows;
      c_types = c.is_given-2.ensures ∙ ap (is_in_words (codes "c_types")) rows;
      not_foreign = refl;
      file = ap (option_map (λ s. s.now)) (sym c.unwrap.ensures) ∙ c.get_str-3.ensures
          ∙ value_is found (codes "file") _ rows;
    }

pub returns-clause-refuses : goal.returns-clause-refuses
returns-clause-refuses g c =
    none_fails _ dump_app (map g.S.AsStr.text c.args.words.now) c.in_ok-dump_command.ensures.app is_free
    c.in_ok-matches.ensures.kinds
