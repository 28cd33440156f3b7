use Rattle.std.proofs.Common.{◌≡◌, ◌+◌, length, ap, ◌∙◌, arith}
use Rattle.std.specs.List.{splice}
use Rattle.x_lists.specs.Lengths.{total_length, length_before, patched}
use Rattle.x_lists.proofs.LengthLemmas.{total_put, placed_put}
use Rattle.x_lists.proofs.measured_seq.MeasuredSeq.put.Goals as goal

pub total_length-requires : goal.total_length-requires
total_length-requires g c =
    let size = g.T.Measured.length in
    let fresh = ap (total_length size) (c.deref.ensures.value ∙ c.into_fresh-fresh.ensures) in
    let fits = total_put size c.args.self.now.list c.args.patch c.requires.among c.requires.short in
    omega (arith, fresh, fits)

pub overflow_add-place : goal.overflow_add-place
overflow_add-place g c =
    let size = g.T.Measured.length in
    let fresh = ap (total_length size) (c.deref.ensures.value ∙ c.into_fresh-fresh.ensures) in
    let fits = total_put size c.args.self.now.list c.args.patch c.requires.among c.requires.short in
    let start = c.start_of.ensures in
    let at = ap (length_before size c.args.self.now.list) c.at-at.ensures in
    let total = c.total_length.ensures in
    omega (arith, fresh, fits, start, at, total)

pub invariant_of-self : goal.invariant_of-self
invariant_of-self g c =
    let size = g.T.Measured.length in
    let old = ap (λ v. v.list) c.self.view_is in
    let fresh = c.into_fresh-fresh.ensures in
    let list : c.splice-moved.new.self.list ≡ patched c.args.self.now.list c.args.patch =
    c.splice-moved.ensures.list
    ∙ ap (λ i. splice c.self.inside.entries.list i (i + c.removed-removed.result)
    c.into_fresh-fresh.result.items) c.at-at.ensures
    ∙ ap (λ n. splice c.self.inside.entries.list c.args.patch.at (c.args.patch.at + n)
    c.into_fresh-fresh.result.items) c.removed-removed.ensures
    ∙ ap (λ l. splice l c.args.patch.at (c.args.patch.at + c.args.patch.removed)
    c.into_fresh-fresh.result.items) old
    ∙ ap (λ l. splice c.args.self.now.list c.args.patch.at (c.args.patch.at + c.args.patch.removed) l)
    fresh in
    let seat : c.splice-moved.new.self.seat ≡ c.args.patch.at + length c.args.patch.fresh =
    c.splice-moved.ensures.seat ∙ ap (λ i. i + length c.into_fresh-fresh.result.items) c.at-at.ensures
    ∙ ap (λ l. c.args.patch.at + length l) fresh in
    let place : c.start_of.result + c.total_length.result
    ≡ length_before size c.args.self.now.list c.args.patch.at + total_length size c.args.patch.fresh =
    ap (λ n. n + c.total_length.result)
    (c.start_of.ensures ∙ ap (length_before size c.args.self.now.list) c.at-at.ensures)
    ∙ ap (λ n. length_before size c.args.self.now.list c.args.patch.at + n) (c.total_length.ensures
    ∙ ap (total_length size) (c.deref.ensures.value ∙ fresh)) in
    placed_put size c.args.self.now.list c.args.patch c.requires.among c.requires.short
    c.splice-moved.new.self (c.start_of.result + c.total_length.result) list seat place
