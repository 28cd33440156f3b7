use Rattle.std.proofs.Common.{◌++◌, sym, ap, ◌∙◌}
use Rattle.x_trees.proofs.Rows.{union_parts}
use Rattle.x_pieces.specs.Header.{body_lines}
use Rattle.x_pieces.proofs.PartLemmas.{then_three}
use Rattle.x_pieces.proofs.header.add_union.Goals as goal

pub returns : goal.returns
returns c =
    let lines = rw c.deref.ensures.value at c.in_ok-add_union_lines.ensures in
    then_three _ _ _ _ _ _ _ _ _ c.in_ok-add.ensures c.in_ok-add_member.ensures lines
    c.in_ok-extend_from_slice.ensures.items
    ∙ ap (λ b. c.args.text.now.items ++ body_lines c.args.name.now b) (sym (union_parts c.args.body.now))
