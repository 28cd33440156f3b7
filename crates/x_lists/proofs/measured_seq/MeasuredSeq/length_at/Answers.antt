use Rattle.std.proofs.Common.{◌+◌, ◌^◌, ◌<◌, sym, ap, subst, ◌∙◌, arith}
use Rattle.std.specs.Prelude.{option_copied, slice_get}
use Rattle.x_lists.specs.Lengths.{total_length, length_before}
use Rattle.x_lists.proofs.LengthLemmas.{before_le, before_read, none_past}
use Rattle.x_lists.proofs.measured_seq.MeasuredSeq.length_at.Goals as goal

pub returns-in-Some-clause-next : goal.returns-in-Some-clause-next
returns-in-Some-clause-next g c =
    let size = g.T.Measured.length in
    let list = ap (λ v. v.list) c.self.view_is in
    let read = before_read size c.args.self.now.list c.args.index c.in-Some.entry.now
    (ap (λ l. slice_get l c.args.index) (sym list) ∙ sym c.get.ensures ∙ ap option_copied c.in-Some.is) in
    read ∙ ap (λ n. length_before size c.args.self.now.list c.args.index + n) (sym c.length.ensures)

pub returns-in-Some-clause-fits : goal.returns-in-Some-clause-fits
returns-in-Some-clause-fits g c =
    let size = g.T.Measured.length in
    let short = subst (λ l. total_length size l < 2 ^ 64) (ap (λ v. v.list) c.self.view_is)
    c.self.invariant.short in
    let le = before_le size c.args.self.now.list (c.args.index + 1) in
    omega (arith, short, le)

pub returns-in-None-clause-next : goal.returns-in-None-clause-next
returns-in-None-clause-next g c =
    let list = ap (λ v. v.list) c.self.view_is in
    let past = none_past c.args.self.now.list c.args.index (ap (λ l. slice_get l c.args.index) (sym list)
    ∙ sym c.get.ensures ∙ ap option_copied c.in-None.is) in
    let within = c.requires in
    absurd (omega (arith, past, within))

pub returns-in-None-clause-fits : goal.returns-in-None-clause-fits
returns-in-None-clause-fits g c =
    let size = g.T.Measured.length in
    let short = subst (λ l. total_length size l < 2 ^ 64) (ap (λ v. v.list) c.self.view_is)
    c.self.invariant.short in
    let le = before_le size c.args.self.now.list (c.args.index + 1) in
    omega (arith, short, le)
