use Rattle.std.proofs.Common.{◌++◌, sym, ap, ◌∙◌}
use Rattle.std.proofs.lemmas.Result.{on_ok_weaker}
use Rattle.x_pieces.proofs.PartLemmas.{then_two}
use Rattle.x_pieces.proofs.VoidLemmas.{checked_call_of}
use Rattle.x_pieces.proofs.routines.add_checked_call.Goals as goal

pub returns : goal.returns
returns c = on_ok_weaker c.add-2.result
    (λ last. then_two _ _ _ _ _ _ _ c.in_ok-add.ensures c.in_ok-add_call.ensures last
    ∙ ap (λ l. c.args.text.now.items ++ l)
    (sym (checked_call_of _ _ _ _ (sym c.is_void.ensures ∙ c.if-is_void.false))))
    c.add-2.ensures
