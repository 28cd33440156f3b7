use Rattle.std.proofs.Common.{◌+◌, drop, map, ap, sym, ◌∙◌}
use Rattle.std.proofs.lemmas.List.{drop_all, drop_more}
use Rattle.x_lex.specs.Places.{lexeme}
use Rattle.x_lookups.specs.Unparsed.{is_wanted}
use Rattle.x_lookups.proofs.UnparsedLemmas.{FirstNamed, first_behind, first_here}
use Rattle.x_lookups.proofs.unparsed.first_fitting.Goals as goal

pub loop-token-preserved : goal.loop-token-preserved
loop-token-preserved c =
    let tokens = c.args.tokens.now in
    let index = c.loop-token.token-index in
    let front = drop_more tokens index _ c.loop-token-test.true in
    first_behind (is_wanted c.args.wanted) _ (map lexeme (drop (index + 1) tokens))
    (map lexeme (drop index tokens)) (ap (map lexeme) front) (sym c.if-fits.false ∙ c.fits.ensures)
    ∙ c.loop-token.invariant

pub returns-then-fits : goal.returns-then-fits
returns-then-fits c =
    let tokens = c.args.tokens.now in
    let index = c.loop-token.token-index in
    let front = drop_more tokens index _ c.loop-token-test.true in
    first_here (is_wanted c.args.wanted) _ (map lexeme (drop (index + 1) tokens))
    (map lexeme (drop index tokens)) (ap (map lexeme) front) (sym c.if-fits.true ∙ c.fits.ensures)
    ∙ c.loop-token.invariant

pub returns : goal.returns
returns c = ap (λ l. FirstNamed (is_wanted c.args.wanted) (map lexeme l))
    (sym (drop_all _ _ c.loop-token-test.false)) ∙ c.loop-token.invariant
