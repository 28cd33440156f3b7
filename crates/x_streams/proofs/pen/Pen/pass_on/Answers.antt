use Rattle.std.proofs.Common.{true, [], refl, sym, subst, append-nil, ◌∙◌}
use Rattle.x_streams.specs.Writing.{Inked, Adds}
use Rattle.x_streams.proofs.Pens.{stopped_at}
use Rattle.x_streams.proofs.pen.Pen.pass_on.Goals as goal

pub returns-in-Err-clause-adds : goal.returns-in-Err-clause-adds
returns-in-Err-clause-adds g c =
    let old : Inked =
    record {
      pending = c.self.inside.pending.items;
      written = c.self.inside.written;
      stopped = c.self.inside.stopped;
    } in
    let new : Inked =
    record {
      pending = c.self.inside.pending.items;
      written = c.raised-self-inside-in-Err.result;
      stopped = true;
    } in
    let start = g.S.Sink.state c.args.sink.now in
    let now = g.S.Sink.state c.put_all.new.sink in
    subst (λ v. Adds v start new now []) c.self.view_is
    (stopped_at old new start now [] c.deref.result.now c.in-Err.taken c.if-self.false refl
    (c.deref.ensures.0 ∙ sym (append-nil c.self.inside.pending.items)) c.in-Err.ensures.within
    c.in-Err.ensures.front c.raised-self-inside-in-Err.ensures.no_fewer
    c.raised-self-inside-in-Err.ensures.sum c.in-Err.ensures.failed)
