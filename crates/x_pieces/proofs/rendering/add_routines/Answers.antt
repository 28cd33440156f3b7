use Rattle.std.proofs.Common.{◌+◌, ◌∷◌, drop, refl, sym, ap, ◌∙◌}
use Rattle.std.proofs.lemmas.List.{drop_more}
use Rattle.std.specs.List.{flat_map}
use Rattle.x_pieces.specs.Routines.{type_routine}
use Rattle.x_pieces.specs.Views.{view_named, view_types}
use Rattle.x_pieces.proofs.PartLemmas.{next}
use Rattle.x_pieces.proofs.rendering.add_routines.Goals as goal

pub loop-named-preserved : goal.loop-named-preserved
loop-named-preserved c =
    let rest = drop (c.loop-named.named-index + 1) c.args.types.now in
    next (λ types. flat_map type_routine (view_types types)) _ rest c.named-item.result
    (type_routine (view_named c.named-item.result)) _ _ _
    (drop_more c.args.types.now c.loop-named.named-index _ c.loop-named-test.true
    ∙ ap (λ x. x ∷ rest) (sym c.named-item.is))
    refl c.in_ok-add_type.ensures c.loop-named.invariant
