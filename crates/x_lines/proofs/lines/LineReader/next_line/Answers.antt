use Rattle.std.proofs.Common.{◌+◌, [], ◌∙◌, ap, sym, subst, refl, drop}
use Rattle.x_lines.specs.declared.lines.TheConstants.{LONGEST}
use Rattle.x_lines.specs.declared.lines.State.TheVariants.{Between, WithinLong}
use Rattle.x_lines.specs.Lines.{Reading, EndIs}
use Rattle.x_lines.proofs.ReadingLemmas.{unread_in, reads_line, reads_open, reads_on}
use Rattle.x_lines.proofs.lines.LineReader.next_line.Goals as goal

pub returns-in_err-len-clause-lines : goal.returns-in_err-len-clause-lines
returns-in_err-len-clause-lines g c unread is =
    reads_open c.drop_front.new.self c.find_end.new.queue unread (g.R.Tap.state c.args.tap.now).bytes
    (g.R.Tap.state c.find_end.new.tap).bytes
    (unread_in c.args.self.now Between c.drop_front.new.self (g.R.Tap.state c.args.tap.now).bytes unread
    c.requires (sym (ap (λ r. r.bytes) c.self.view_is) ∙ sym c.drop_front.ensures) is)
    c.find_end.ensures.come c.self.inside.state c.from_residual.result
    (ap (λ r. r.state) c.self.view_is ∙ c.requires) c.from_residual.ensures.0 c.in_err-len.ensures.found

pub returns-in-Feed-clause-lines : goal.returns-in-Feed-clause-lines
returns-in-Feed-clause-lines g c unread is =
    let end = subst (λ e. EndIs e c.find_end.new.queue (g.R.Tap.state c.find_end.new.tap).bytes) c.in-Feed.is
    c.in_ok-len.ensures.found in
    reads_line c.drop_front.new.self c.find_end.new.queue unread (g.R.Tap.state c.args.tap.now).bytes
    (g.R.Tap.state c.find_end.new.tap).bytes
    (unread_in c.args.self.now Between c.drop_front.new.self (g.R.Tap.state c.args.tap.now).bytes unread
    c.requires (sym (ap (λ r. r.bytes) c.self.view_is) ∙ sym c.drop_front.ensures) is)
    c.find_end.ensures.come c.self.inside.state c.in-Feed.len
    (ap (λ r. r.state) c.self.view_is ∙ c.requires) end.0 end.1

pub returns-in-Far-clause-lines : goal.returns-in-Far-clause-lines
returns-in-Far-clause-lines g c unread is =
    let end = subst (λ e. EndIs e c.find_end.new.queue (g.R.Tap.state c.find_end.new.tap).bytes) c.in-Far.is
    c.in_ok-len.ensures.found in
    let mid : Reading =
    record { line = []; bytes = drop (LONGEST + 1) c.find_end.new.queue; state = WithinLong } in
    reads_on c.drop_front.new.self c.find_end.new.queue unread (g.R.Tap.state c.args.tap.now).bytes
    (g.R.Tap.state c.find_end.new.tap).bytes
    (unread_in c.args.self.now Between c.drop_front.new.self (g.R.Tap.state c.args.tap.now).bytes unread
    c.requires (sym (ap (λ r. r.bytes) c.self.view_is) ∙ sym c.drop_front.ensures) is)
    c.find_end.ensures.come mid c.end_of_long.new.self (g.R.Tap.state c.end_of_long.new.tap).bytes
    c.end_of_long.result refl refl end.0 end.1 c.end_of_long.ensures.lines
