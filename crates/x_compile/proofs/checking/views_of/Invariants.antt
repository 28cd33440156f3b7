use Rattle.std.proofs.Common.{◌≡◌, ◌++◌, map, take}
use Rattle.std.specs.Cow.{cow_slice_items}
use Rattle.x_trees.specs.Names.{declared}
use Rattle.x_names.specs.DeclarerTable.{first_in}
use Rattle.x_outline.specs.Outlines.{outlined, IsOutline}
use Rattle.x_rules.specs.Results.{result_at}
use Rattle.x_rules.specs.RustViews.{view_view}
use Rattle.x_compile.specs.Known.{known_names}
use Rattle.x_compile.specs.Checking.{view_by_first}
use Rattle.x_compile.specs.KeptView.{found_result}
use Rattle.x_compile.proofs.checking.views_of.Given as goal

-- the views of the names so far
abbrev pub invariant-loop-place : goal.invariant-loop-place
invariant-loop-place l = map view_view l.views.items
    ≡ map (view_by_first (known_names l.known) (first_in l.names) (result_at (map found_result l.results))
    l.item) (map (λ d. cow_slice_items d.name) (take l.place l.declared-items))

abbrev pub invariant-loop-mention : goal.invariant-loop-mention
invariant-loop-mention l = IsOutline l.outline → map view_view l.views.items
    ≡ map (view_by_first (known_names l.known) (first_in l.names)
    (result_at (map found_result l.results)) l.item)
    (map (λ x. x.name) (declared (outlined l.outline))
    ++ map (λ m. m.name.now) (take l.mention-index l.mention-items))
