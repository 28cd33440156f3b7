use Rattle.std.proofs.Common.{◌≡◌, ◌+◌, ap, ◌∙◌, arith}
use Rattle.std.specs.Prelude.{slice_set}
use Rattle.x_lists.specs.Lengths.{length_before}
use Rattle.x_lists.proofs.LengthLemmas.{set_fits, placed_set}
use Rattle.x_lists.proofs.measured_seq.MeasuredSeq.exchange.Goals as goal

pub overflow_add-place : goal.overflow_add-place
overflow_add-place g c =
    let fits = set_fits g.T.Measured.length c.args.self.now.list c.args.index c.args.new c.requires.within
    c.requires.short in
    let start = c.start_of.ensures in
    let length = c.length.ensures in
    omega (arith, fits, start, length)

pub invariant_of-self : goal.invariant_of-self
invariant_of-self g c =
    let size = g.T.Measured.length in
    let list = c.exchange-out.ensures.list
    ∙ ap (λ v. slice_set v.list c.args.index c.args.new) c.self.view_is in
    let place : c.start_of.result + c.length.result ≡ length_before size c.args.self.now.list c.args.index
    + size c.args.new = λ i. c.start_of.ensures i + c.length.ensures i in
    placed_set size c.args.self.now.list c.args.index c.args.new c.requires.within c.requires.short
    c.exchange-out.new.self (c.start_of.result + c.length.result) list c.exchange-out.ensures.seat place
