use Rattle.std.proofs.Common.{◌≡◌, ◌++◌, map, ap, ◌∙◌}
use Rattle.std.specs.List.{flat_map}
use Rattle.std.proofs.lemmas.Simd.{map-map}
use Rattle.x_session.specs.Foreign.{view_foreign}
use Rattle.x_prelude.specs.Foreign.{foreign_at}
use Rattle.x_prelude.specs.Lacking.{first_of_each}
use Rattle.x_prelude.specs.LackingTable.{view_use}
use Rattle.x_prelude.proofs.foreign.placed.Goals as goal

pub loop-first-init : goal.loop-first-init
loop-first-init c text items all table names =
    let at = foreign_at c.args.from_c text items in
    let entries = c.args.lacks.now.firsts.entries in
    let left : map view_use c.into_iter-first-iterator.result ≡ first_of_each all =
    ap (map view_use) (c.into_iter-first-iterator.ensures.into_iter_gives ∙ c.values-first-items.ensures.rest)
    ∙ map-map view_use (λ e. e.1) entries ∙ names.firsts.held_are in
    ap (λ ns. map view_foreign ns ++ flat_map at (map view_use c.into_iter-first-iterator.result))
    c.new-names.ensures.items ∙ ap (flat_map at) left
