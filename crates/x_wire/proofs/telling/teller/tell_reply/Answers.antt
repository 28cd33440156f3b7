use Rattle.std.proofs.Common.{◌≡◌, ◌++◌, false, codes, sym, ap, subst, ◌∙◌}
use Rattle.x_streams.specs.Writing.{Adds}
use Rattle.x_wire.specs.Bodies.{IsReadAs}
use Rattle.x_wire.specs.Messages.{accept_of, auth_of, body_of_reply, header_of_reply, reject_of, results_of}
use Rattle.x_wire.specs.MessageTexts.{accept_details, accept_name, auth_line, reject_details, reject_name}
use Rattle.x_wire.specs.MessageTexts.{reply_line}
use Rattle.x_wire.specs.Tellers.{TellsReply, number_kept}
use Rattle.x_wire.specs.declared.messages.parts.AcceptStat.{AcceptStat}
use Rattle.x_wire.specs.declared.messages.parts.AcceptStat.TheVariants as accepts
use Rattle.x_wire.specs.declared.messages.parts.Reply.{Reply}
use Rattle.x_wire.specs.declared.messages.parts.Reply.TheVariants as replies
use Rattle.x_wire.proofs.TellerLemmas.{bare_behind, tells_bare, tells_denied, tells_success}
use Rattle.x_wire.proofs.telling.teller.tell_reply.Goals as goal

pub returns-in_default : goal.returns-in_default
returns-in_default g c =
    let xid = c.args.id.xid in
    let start = g.S.Sink.state c.args.sink.now in
    let pen = c.add_accepted.new.pen in
    let end = g.S.Sink.state c.add_accepted.new.sink in
    let stat = c.in-Accepted.stat in
    record {
      told = subst (λ (r : Reply). TellsReply c.args.schema.now c.args.id.number xid c.args.heard
          (header_of_reply xid r) (body_of_reply r) false c.args.pen.now start pen end)
          (sym c.in-Accepted.is)
          (tells_bare c.args.schema.now c.args.id.number xid c.args.heard c.procedure_of-procedure.result
          c.name_of.result.now (auth_of c.in-Accepted.verf)
          (accept_of stat) (results_of stat) c.args.pen.now pen start end c.procedure_of-procedure.ensures
          c.name_of.ensures
          (λ calls. bare_behind c.args.schema.now calls xid (auth_of c.in-Accepted.verf) stat
          c.in_default.not-Success)
          (subst (λ n. Adds c.args.pen.now start pen end
          (reply_line c.args.id.number xid (codes "accepted " ++ accept_name (accept_of stat)) n
          c.name_of.result.now
          ++ auth_line (codes "verf") (auth_of c.in-Accepted.verf) ++ accept_details (accept_of stat)))
          c.number_of.ensures c.add_accepted.ensures));
      same = tt;
    }

pub returns-in-Denied-clause-told : goal.returns-in-Denied-clause-told
returns-in-Denied-clause-told g c =
    let xid = c.args.id.xid in
    let start = g.S.Sink.state c.args.sink.now in
    let pen = c.add_denied.new.pen in
    let end = g.S.Sink.state c.add_denied.new.sink in
    subst (λ (r : Reply). TellsReply c.args.schema.now c.args.id.number xid c.args.heard
    (header_of_reply xid r) (body_of_reply r) false c.args.pen.now start pen end)
    (sym c.in-Denied.is)
    (tells_denied c.args.schema.now c.args.id.number xid c.args.heard c.procedure_of-procedure.result
    c.name_of.result.now (reject_of c.in-Denied.stat)
    c.args.pen.now pen start end c.procedure_of-procedure.ensures c.name_of.ensures
    (subst (λ n. Adds c.args.pen.now start pen end
    (reply_line c.args.id.number xid (codes "denied " ++ reject_name (reject_of c.in-Denied.stat)) n
    c.name_of.result.now
    ++ reject_details (reject_of c.in-Denied.stat))) c.number_of.ensures c.add_denied.ensures))

pub returns-in_ok-results-in-Accepted-clause-told : goal.returns-in_ok-results-in-Accepted-clause-told
returns-in_ok-results-in-Accepted-clause-told g c =
    let xid = c.args.id.xid in
    let heard = c.args.heard in
    let name = c.name_of.result.now in
    let verf = auth_of c.in-Accepted.verf in
    let body = c.in-Success.body.now in
    let start = g.S.Sink.state c.args.sink.now in
    let mid = g.S.Sink.state c.add_accepted-in-Accepted.new.sink in
    let end = g.S.Sink.state c.add_lines.new.sink in
    let before = c.add_accepted-in-Accepted.new.pen in
    let pen = c.add_lines.new.pen in
    let head = subst (λ (a : AcceptStat). Adds c.args.pen.now start before mid
    (reply_line c.args.id.number xid (codes "accepted " ++ accept_name (accept_of a)) (number_kept heard) name
    ++ auth_line (codes "verf") verf ++ accept_details (accept_of a)))
    c.in-Success.is
    (subst (λ n. Adds c.args.pen.now start before mid
    (reply_line c.args.id.number xid (codes "accepted " ++ accept_name (accept_of c.in-Accepted.stat)) n name
    ++ auth_line (codes "verf") verf
    ++ accept_details (accept_of c.in-Accepted.stat))) c.number_of.ensures
    c.add_accepted-in-Accepted.ensures) in
    let whole : c.args.reply.now ≡ replies.Accepted c.in-Accepted.verf (accepts.Success c.in-Success.body) =
    c.in-Accepted.is ∙ ap (λ (a : AcceptStat). replies.Accepted c.in-Accepted.verf a) c.in-Success.is in
    subst (λ (r : Reply). TellsReply c.args.schema.now c.args.id.number xid heard (header_of_reply xid r)
    (body_of_reply r) c.add_lines.result c.args.pen.now start pen end)
    (sym whole)
    (tells_success c.args.schema.now c.args.id.number xid heard c.procedure_of-procedure.result name verf body
    c.in_ok-results-in-Accepted.results c.add_lines.result
    c.args.pen.now before pen start mid end c.procedure_of-procedure.ensures c.name_of.ensures
    (subst (λ t. IsReadAs c.args.schema.now t body c.in_ok-results-in-Accepted.results) c.res_of.ensures
    c.in_ok-results-in-Accepted.ensures)
    head c.add_lines.ensures.added c.add_lines.ensures.refused)
