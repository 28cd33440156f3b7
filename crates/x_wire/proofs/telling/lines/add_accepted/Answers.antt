use Rattle.std.proofs.Common.{◌≡◌, ◌++◌, codes, refl, subst, ◌∙◌}
use Rattle.x_streams.specs.Writing.{Adds}
use Rattle.x_text.proofs.Adding.{three}
use Rattle.x_wire.specs.Messages.{accept_of, accept_text, auth_of}
use Rattle.x_wire.specs.MessageTexts.{accept_details, accept_name, auth_line, reply_line}
use Rattle.x_wire.specs.declared.messages.parts.AcceptStat.{AcceptStat}
use Rattle.x_wire.specs.declared.messages.parts.AcceptStat.TheVariants as accepts
use Rattle.x_wire.proofs.telling.lines.add_accepted.Goals as goal

name_of : (stat : AcceptStat) → accept_text stat ≡ accept_name (accept_of stat)
name_of (accepts.Success body) = refl
name_of accepts.ProgUnavail = refl
name_of (accepts.ProgMismatch low high) = refl
name_of accepts.ProcUnavail = refl
name_of accepts.GarbageArgs = refl
name_of accepts.SystemErr = refl

pub returns : goal.returns
returns g c =
    let stat = c.args.stat.now in
    let start = g.S.Sink.state c.args.sink.now in
    let end = g.S.Sink.state c.add_accept_details.new.sink in
    let heading = c.args.heading.now in
    let verf = auth_line (codes "verf") (auth_of c.args.verf.now) in
    let details = accept_details (accept_of stat) in
    let added = three c.args.pen.now c.add_reply_line.new.pen c.add_auth.new.pen c.add_accept_details.new.pen
    start (g.S.Sink.state c.add_reply_line.new.sink) (g.S.Sink.state c.add_auth.new.sink) end
    (reply_line heading.id.number heading.id.xid (codes "accepted " ++ c.text.result.now) heading.call
    heading.name.now) verf details
    c.add_reply_line.ensures c.add_auth.ensures c.add_accept_details.ensures in
    subst (λ word. Adds c.args.pen.now start c.add_accept_details.new.pen end
    (reply_line heading.id.number heading.id.xid (codes "accepted " ++ word) heading.call heading.name.now
    ++ verf ++ details))
    (c.text.ensures ∙ name_of stat) added
