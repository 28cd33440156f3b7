use Rattle.std.proofs.Common.{◌≡◌, ◌∙◌, ◌<◌, Bool, true, false, refl, ap, sym, subst, map, codes, inl, inr}
use Rattle.std.proofs.Common.{Some}
use Rattle.std.specs.Prelude.{option_map}
use Rattle.std.specs.List.{list_any}
use Rattle.std.proofs.lemmas.List.{length-map}
use Rattle.clap.specs.Built.{BuildsOrBreaks}
use Rattle.clap.specs.Facts.{args_of}
use Rattle.clap.specs.Walk.{rule_of}
use Rattle.clap.specs.Words.{App, app_of, built, found_of, has_subcommand, is_buildable, is_broken}
use Rattle.clap.specs.Words.{is_simple_and_free}
use Rattle.clap.specs.declared.builder.command.Command.{Command}
use Rattle.clap.proofs.OnLiterals.{clap_on_literals}
use Rattle.x_args.specs.Args.{check_app, is_in_words, IsBeforeArgs}
use Rattle.x_args.proofs.Commands.{fails_again, none_fails, rows_are, values_are}
use Rattle.x_args.proofs.Filled.{has_values, may_lack}
use Rattle.x_args.proofs.checking_args.check_args.Goals as goal

is_free : is_simple_and_free check_app ≡ true
unfolding check_app clap_on_literals
is_free = refl

can_build : is_buildable check_app ≡ true
unfolding check_app clap_on_literals
can_build = refl

before : list_any (may_lack (codes "file")) check_app.top.rules ≡ false
unfolding check_app clap_on_literals
before = refl

after : list_any (may_lack (codes "file")) (built check_app).top.rules ≡ false
unfolding check_app clap_on_literals
after = refl

-- FILE is never without a value, whether or not the command is built
never_lacks : (old new : Command) → app_of old ≡ check_app → BuildsOrBreaks old new
    → (is_broken new ≡ true → ⊥)
    → list_any (may_lack (codes "file")) (map rule_of (args_of new)) ≡ false
never_lacks old new is (inl broken) whole = absurd (whole broken)
never_lacks old new is (inr made) whole = elim made.2 [
  | inl same ↦ ap lacking (same ∙ is) ∙ before
  | inr made ↦ ap lacking (made (ap is_buildable is ∙ can_build) ∙ ap built is) ∙ after
]
  where
    lacking : App → Bool
    lacking a = list_any (may_lack (codes "file")) a.top.rules

pub returns-in_err-matches-clause-refuses : goal.returns-in_err-matches-clause-refuses
returns-in_err-matches-clause-refuses g c =
    fails_again _ check_app (map g.S.AsStr.text c.args.words.now) c.from_residual-in_err-matches.result
    c.in_err-matches.field-0.0
    c.in_ok-command.ensures.app is_free c.in_err-matches.ensures.kinds
    c.from_residual-in_err-matches.ensures.1

pub returns-clause-reads : goal.returns-clause-reads
returns-clause-reads g c =
    let old = c.in_ok-command.command in
    let new = c.try_get_matches_from_mut.new.self in
    let found = found_of c.in_ok-matches.matches in
    let ok = c.in_ok-matches.ensures.ok in
    let rows = rows_are _ check_app (map g.S.AsStr.text c.args.words.now) c.in_ok-matches.matches
    c.in_ok-command.ensures.app is_free ok.2 in
    let copied = c.in_ok-to_vec.ensures.items_if_clones_equal (λ x y same. same) in
    let known = c.in_ok-command.ensures.files in
    let read = ap (λ items. Some (map (λ s. s.now) items)) copied
    ∙ ap (option_map (λ s. map (λ v. v.now) s.now)) (sym c.unwrap-files.ensures) ∙ c.get_strs.ensures in
    let lacks = never_lacks old new c.in_ok-command.ensures.app c.in_ok-matches.ensures.after
    (λ broken. c.in_ok-matches.ensures.fails broken) in
    let some = has_values new found (has_subcommand c.in_ok-matches.matches) (codes "file")
    (map (λ s. s.now) c.in_ok-to_vec.field-0.items)
    (ok.1 (ok.0.globals ∙ known.local)) (ok.0.plain known.plain).1 (λ e. absurd (cc)) lacks (sym read) in
    record {
      explains = c.is_given.ensures ∙ ap (is_in_words (codes "explain")) rows;
      plain = c.is_given-2.ensures ∙ ap (is_in_words (codes "plain")) rows;
      strict = c.is_given-3.ensures ∙ ap (is_in_words (codes "strict")) rows;
      before = subst (λ rows. IsBeforeArgs rows c.in_ok-before_args.field-0) rows c.in_ok-before_args.ensures;
      files = read ∙ values_are found (codes "file") _ rows;
      some = subst (λ n. 0 < n) (length-map c.in_ok-to_vec.field-0.items (λ s. s.now)) some;
    }

pub returns-clause-refuses : goal.returns-clause-refuses
returns-clause-refuses g c =
    none_fails _ check_app (map g.S.AsStr.text c.args.words.now) c.in_ok-command.ensures.app is_free
    c.in_ok-matches.ensures.kinds
