use Rattle.std.proofs.Common.{◌∙◌}
use Rattle.std.proofs.lemmas.Result.{IfOk-weaker}
use Rattle.x_pieces.proofs.PartLemmas.{then}
use Rattle.x_pieces.proofs.PartingLemmas.{grown_is}
use Rattle.x_pieces.proofs.rendering.PieceMaker.make.Goals as goal

pub returns : goal.returns
returns c =
    let types = c.in_ok-types.ensures in
    let forwards = rw (c.deref.ensures.value, types, c.clear.ensures.items) at c.in_ok-add_forwards.ensures in
    let headers = rw (c.deref-2.ensures.value, types) at c.in_ok-add_headers.ensures in
    let routines = rw (c.deref-3.ensures.value, types) at c.in_ok-add_routines.ensures in
    IfOk-weaker c.copied.result _ _
    (λ pieces is. is ∙ grown_is _ _ _ _ _ _ _ _ _ _ _ forwards
    (then _ _ _ _ _ headers c.in_ok-add_own_header.ensures)
    (then _ _ _ _ _ routines c.in_ok-add_own_routines.ensures) c.in_ok-add_stubs.ensures
    c.in_ok-add_tables.ensures
    (c.len-forward.ensures ∙ c.add_forwards.new.text.ok.0) (c.len-header.ensures
    ∙ c.add_own_header.new.text.ok.0)
    (c.len-routines.ensures ∙ c.add_own_routines.new.text.ok.0) (c.len-stubs.ensures
    ∙ c.add_stubs.new.text.ok.0))
    (rw c.deref-4.ensures.value at c.copied.ensures)
