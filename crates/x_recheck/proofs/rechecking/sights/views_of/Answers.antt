use Rattle.std.proofs.Common.{map}
use Rattle.x_trees.specs.Names.{declared}
use Rattle.x_trees.specs.Mentions.{mentioned}
use Rattle.x_outline.specs.Outlines.{outlined}
use Rattle.x_rules.specs.Results.{view_by}
use Rattle.x_rules.specs.RustViews.{view_view}
use Rattle.x_recheck.specs.Editing.{definitions_after}
use Rattle.x_recheck.specs.inside.Deciding.{text_edit}
use Rattle.x_recheck.specs.Staleness.{result_after}
use Rattle.x_recheck.proofs.OutlineNames.{views_declared, views_mentioned}
use Rattle.x_recheck.proofs.rechecking.sights.views_of.Goals as goal

pub loop-mention-init : goal.loop-mention-init
loop-mention-init g c o =
    let e = text_edit g.L.CheckedItems.text c.args.items.now in
    views_declared (view_by e.known (definitions_after e) (result_after e c.args.rechecked.now) c.args.item)
    (map view_view c.loop-declared.views.items)
    c.loop-declared.declared-index c.declared-declared-items.result.now c.args.outline.now.declared.items
    (declared (outlined c.args.outline.now))
    c.loop-declared.invariant c.loop-declared-test.false c.declared-declared-items.ensures o.names_are

pub returns : goal.returns
returns g c o =
    let e = text_edit g.L.CheckedItems.text c.args.items.now in
    views_mentioned (view_by e.known (definitions_after e) (result_after e c.args.rechecked.now) c.args.item)
    (map view_view c.loop-mention.views.items)
    (map (λ x. x.name) (declared (outlined c.args.outline.now))) c.loop-mention.mention-index
    c.mentioned-mention-items.result.now c.args.outline.now.mentioned.items
    (mentioned (outlined c.args.outline.now)) (c.loop-mention.invariant o) c.loop-mention-test.false
    c.mentioned-mention-items.ensures o.uses_are
