use Rattle.std.proofs.Common.{map, ap, sym, ◌∙◌}
use Rattle.x_lex.specs.Places.{lexeme}
use Rattle.x_trees.specs.View.{tree_at}
use Rattle.x_lookups.specs.Unparsed.{is_wanted}
use Rattle.x_lookups.proofs.UnparsedLemmas.{first_unparsed_in, none_parsed}
use Rattle.x_lookups.proofs.unparsed.first_in_item.Goals as goal

pub returns-in-Some : goal.returns-in-Some
returns-in-Some c = λ parse parsed is. none_parsed (is_wanted c.args.wanted) (map lexeme c.args.tokens.now)
    parse _ (sym (ap tree_at c.in-Some.is) ∙ is)

pub returns-in-None : goal.returns-in-None
returns-in-None c = λ parse parsed is. c.first_fitting.ensures
    ∙ first_unparsed_in (is_wanted c.args.wanted) (map lexeme c.args.tokens.now) parse parsed
    (sym (ap tree_at c.in-None.is) ∙ is)
