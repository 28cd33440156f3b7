use Rattle.std.proofs.Common.{map}
use Rattle.x_trees.specs.Names.{declared}
use Rattle.x_trees.specs.Mentions.{mentioned}
use Rattle.x_names.specs.DeclarerTable.{first_in}
use Rattle.x_outline.specs.Outlines.{outlined}
use Rattle.x_rules.specs.Results.{result_at}
use Rattle.x_rules.specs.RustViews.{view_view}
use Rattle.x_compile.specs.Known.{known_names}
use Rattle.x_compile.specs.Checking.{view_by_first}
use Rattle.x_compile.specs.KeptView.{found_result}
use Rattle.x_compile.proofs.CheckingLemmas.{names_declared, names_mentioned}
use Rattle.x_compile.proofs.checking.views_of.Goals as goal

pub loop-mention-init : goal.loop-mention-init
loop-mention-init c o =
    names_declared (view_by_first (known_names c.args.known.now) (first_in c.args.names.now)
    (result_at (map found_result c.args.results.now)) c.args.item) (map view_view c.loop-place.views.items)
    c.loop-place.place c.declared-declared-items.result.now c.args.outline.now.declared.items
    (declared (outlined c.args.outline.now))
    c.loop-place.invariant c.loop-place-test.false c.declared-declared-items.ensures o.names_are

pub returns : goal.returns
returns c o =
    names_mentioned (view_by_first (known_names c.args.known.now) (first_in c.args.names.now)
    (result_at (map found_result c.args.results.now)) c.args.item) (map view_view c.loop-mention.views.items)
    (map (λ x. x.name) (declared (outlined c.args.outline.now))) c.loop-mention.mention-index
    c.mentioned-mention-items.result.now c.args.outline.now.mentioned.items
    (mentioned (outlined c.args.outline.now))
    (c.loop-mention.invariant o) c.loop-mention-test.false c.mentioned-mention-items.ensures o.uses_are
