use Rattle.std.proofs.Common.{◌≡◌, ℕ, List, ◌++◌, map, ap, ◌∙◌}
use Rattle.std.specs.List.{enumerate_from, flat_map}
use Rattle.std.proofs.lemmas.Simd.{map-map}
use Rattle.x_prelude.specs.Lacking.{Occurrence, first_of_each}
use Rattle.x_prelude.specs.LackingTable.{view_use}
use Rattle.x_prelude.specs.Prelude.{definition_of}
use Rattle.x_prelude.proofs.prelude.add_definitions.Goals as goal

pub loop-number-init : goal.loop-number-init
loop-number-init c all h =
    let made = c.into_iter-number-iterator.ensures.into_iter_gives in
    let entries = c.args.lacks.now.firsts.entries in
    let left = c.into_iter-number-iterator.result.iter in
    let count : c.into_iter-number-iterator.result.count ≡ 0 = ap (λ i. i.count) made
    ∙ c.enumerate-number-items.ensures.count in
    let held_is : map view_use left ≡ first_of_each all =
    ap (λ i. map view_use i.iter) made ∙ ap (map view_use)
    (c.enumerate-number-items.ensures.source ∙ c.values.ensures.rest)
    ∙ map-map view_use (λ e. e.1) entries ∙ h.firsts.held_are in
    let text = λ (n : ℕ) (os : List Occurrence). flat_map (λ (e : ℕ × Occurrence).
    definition_of c.args.from all e.0 e.1) (enumerate_from n os) in
    ap (λ t. c.args.text.now.items ++ t)
    (ap (λ n. text n (map view_use left)) count ∙ ap (text 0) held_is)
