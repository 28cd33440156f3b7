use Rattle.std.proofs.Common.{◌≡◌, ◌++◌, map, drop, option_map}
use Rattle.serde_json.specs.View.{items_view}
use Rattle.x_frames.specs.Params.{replacement_of, replacements_in}
use Rattle.x_frames.proofs.params.text_changes.Given as goal

-- with the changes that are left behind it, the list is what it is to be
abbrev pub invariant-loop-change : goal.invariant-loop-change
invariant-loop-change l =
    option_map (λ more. map replacement_of l.list.items ++ more)
    (replacements_in (items_view (drop l.change-index l.change-items)))
    ≡ replacements_in (items_view l.change-items)
