use Rattle.std.proofs.Common.{◌+◌, ◌∷◌, drop, map, refl, sym, ap, ◌∙◌}
use Rattle.std.proofs.lemmas.List.{drop_more}
use Rattle.x_trees.specs.View.{view_version}
use Rattle.x_pieces.specs.Table.{version_table, program_table}
use Rattle.x_pieces.proofs.PartLemmas.{next}
use Rattle.x_pieces.proofs.table.add_program.Goals as goal

pub loop-version-preserved : goal.loop-version-preserved
loop-version-preserved c =
    let program = c.args.program.now in
    let rest = drop (c.loop-version.version-index + 1) c.args.versions.now in
    next (λ versions. program_table program (map view_version versions)) _ rest c.version-item.result
    (version_table program (view_version c.version-item.result)) _ _ _
    (drop_more c.args.versions.now c.loop-version.version-index _ c.loop-version-test.true
    ∙ ap (λ x. x ∷ rest) (sym c.version-item.is))
    refl c.in_ok-add_version.ensures c.loop-version.invariant
