use Rattle.std.proofs.Common.{◌++◌, sym, ap, ◌∙◌}
use Rattle.x_pieces.proofs.PartLemmas.{then_four}
use Rattle.x_pieces.proofs.VoidLemmas.{typedef_of}
use Rattle.x_pieces.proofs.header.add_typedef.Goals as goal

pub returns : goal.returns
returns c =
    let declared = rw c.name-name.ensures at c.in_ok-add_declaration.ensures in
    let routine = rw c.name-name.ensures at c.in_ok-add_routine_line.ensures in
    then_four _ _ _ _ _ _ _ _ _ _ _ c.in_ok-extend_from_slice.ensures.items declared
    c.in_ok-extend_from_slice-2.ensures.items routine
    c.in_ok-extend_from_slice-3.ensures.items
    ∙ ap (λ l. c.args.text.now.items ++ l) (sym (typedef_of _ (sym c.is_void.ensures ∙ c.if-is_void.false)))
