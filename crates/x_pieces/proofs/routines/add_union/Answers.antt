use Rattle.std.proofs.Common.{◌++◌, sym, ap, ◌∙◌}
use Rattle.std.proofs.lemmas.Result.{on_ok_weaker}
use Rattle.x_trees.proofs.Rows.{union_parts}
use Rattle.x_pieces.specs.Routines.{body_calls}
use Rattle.x_pieces.proofs.PartLemmas.{then, then_four}
use Rattle.x_pieces.proofs.routines.add_union.Goals as goal

pub returns : goal.returns
returns c =
    let switch = rw c.name.ensures at c.in_ok-add.ensures in
    let arms = rw c.deref.ensures.value at c.in_ok-add_arms.ensures in
    on_ok_weaker c.add_end.result
    (λ last. then _ _ _ _ _
    (then_four _ _ _ _ _ _ _ _ _ _ _ c.in_ok-add_checked_call.ensures switch arms c.in_ok-add_default.ensures
    c.in_ok-extend_from_slice.ensures.items) last
    ∙ ap (λ b. c.args.text.now.items ++ body_calls c.args.name.now b) (sym (union_parts c.args.body.now)))
    c.add_end.ensures
