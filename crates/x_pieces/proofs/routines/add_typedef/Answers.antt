use Rattle.std.proofs.Common.{◌++◌, sym, ap, ◌∙◌}
use Rattle.std.proofs.lemmas.Result.{on_ok_weaker}
use Rattle.x_pieces.proofs.PartLemmas.{then_two}
use Rattle.x_pieces.proofs.VoidLemmas.{typedef_routine_of}
use Rattle.x_pieces.proofs.routines.add_typedef.Goals as goal

pub returns : goal.returns
returns c =
    let front = rw c.name-name.ensures at c.in_ok-add_front.ensures in
    let call = rw c.name-name.ensures at c.in_ok-add_checked_call.ensures in
    on_ok_weaker c.add_end.result
    (λ last. then_two _ _ _ _ _ _ _ front call last
    ∙ ap (λ l. c.args.text.now.items ++ l)
    (sym (typedef_routine_of _ (sym c.is_void.ensures ∙ c.if-is_void.false))))
    c.add_end.ensures
