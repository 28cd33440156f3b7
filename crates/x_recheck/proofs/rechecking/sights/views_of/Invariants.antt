use Rattle.std.proofs.Common.{◌≡◌, ◌++◌, map, take}
use Rattle.std.specs.Cow.{cow_slice_items}
use Rattle.x_trees.specs.Names.{declared}
use Rattle.x_outline.specs.Outlines.{outlined, IsOutline}
use Rattle.x_rules.specs.Results.{view_by}
use Rattle.x_rules.specs.RustViews.{view_view}
use Rattle.x_recheck.specs.Editing.{definitions_after}
use Rattle.x_recheck.specs.inside.Deciding.{text_edit}
use Rattle.x_recheck.specs.Staleness.{result_after}
use Rattle.x_recheck.proofs.rechecking.sights.views_of.Given as goal

-- the views of the names so far
abbrev pub invariant-loop-declared : goal.invariant-loop-declared
invariant-loop-declared g l =
    let e = text_edit g.L.CheckedItems.text l.items in
    map view_view l.views.items
    ≡ map (view_by e.known (definitions_after e) (result_after e l.rechecked) l.item)
    (map (λ d. cow_slice_items d.name) (take l.declared-index l.declared-items))

abbrev pub invariant-loop-mention : goal.invariant-loop-mention
invariant-loop-mention g l =
    let e = text_edit g.L.CheckedItems.text l.items in
    IsOutline l.outline → map view_view l.views.items
    ≡ map (view_by e.known (definitions_after e) (result_after e l.rechecked) l.item)
    (map (λ x. x.name) (declared (outlined l.outline))
    ++ map (λ m. m.name.now) (take l.mention-index l.mention-items))
