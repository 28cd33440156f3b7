use Rattle.std.proofs.Common.{◌<◌, ◌^◌, map, ap, ◌∙◌, arith}
use Rattle.x_trees.specs.View.{tree_at}
use Rattle.x_session.proofs.DeclaredLemmas.{names_found, ok_then}
use Rattle.x_session.proofs.declared.names.Goals as goal

pub returns : goal.returns
returns c =
    let few : c.token_count.result < 2 ^ 64 = omega arith in
    let d = c.in_ok-definitions.ensures in
    ok_then c.keyed.result
    (λ table first. names_found c.args.session.now.text (map tree_at c.deref.result.now) table
    c.token_count.result few c.token_count.ensures
    (d.0, d.1, d.2, ap (map tree_at) c.deref.ensures.value ∙ d.3) first) c.keyed.ensures
