use Rattle.std.proofs.Common.{true, refl, sym, subst, ap, ◌++◌, ◌∙◌}
use Rattle.x_streams.specs.Writing.{Inked, Adds}
use Rattle.x_streams.proofs.Pens.{passed_on, stopped_at}
use Rattle.x_streams.proofs.pen.Pen.write_through.Goals as goal

pub returns-in-Ok : goal.returns-in-Ok
returns-in-Ok g c =
    let old : Inked =
    record {
      pending = c.self.inside.pending.items;
      written = c.self.inside.written;
      stopped = c.self.inside.stopped;
    } in
    let new : Inked =
    record {
      pending = c.self.inside.pending.items;
      written = c.raised-self-inside.result;
      stopped = c.self.inside.stopped;
    } in
    let start = g.S.Sink.state c.args.sink.now in
    let now = g.S.Sink.state c.put_all.new.sink in
    let empty = ap (λ v. v.pending) c.self.view_is ∙ c.requires.empty in
    let goes = ap (λ v. v.stopped) c.self.view_is ∙ c.requires.goes_on in
    subst (λ v. Adds v start new now c.args.bytes.now) c.self.view_is
    (passed_on old new start now c.args.bytes.now c.args.bytes.now goes goes empty
    (ap (λ l. l ++ c.args.bytes.now) (sym empty)) c.in-Ok.ensures.all
    c.raised-self-inside.ensures.no_fewer c.raised-self-inside.ensures.sum)

pub returns-in-Err : goal.returns-in-Err
returns-in-Err g c =
    let old : Inked =
    record {
      pending = c.self.inside.pending.items;
      written = c.self.inside.written;
      stopped = c.self.inside.stopped;
    } in
    let new : Inked =
    record {
      pending = c.self.inside.pending.items;
      written = c.raised-self-inside-in-Err.result;
      stopped = true;
    } in
    let start = g.S.Sink.state c.args.sink.now in
    let now = g.S.Sink.state c.put_all.new.sink in
    let empty = ap (λ v. v.pending) c.self.view_is ∙ c.requires.empty in
    let goes = ap (λ v. v.stopped) c.self.view_is ∙ c.requires.goes_on in
    subst (λ v. Adds v start new now c.args.bytes.now) c.self.view_is
    (stopped_at old new start now c.args.bytes.now c.args.bytes.now c.in-Err.taken goes refl
    (ap (λ l. l ++ c.args.bytes.now) (sym empty)) c.in-Err.ensures.within c.in-Err.ensures.front
    c.raised-self-inside-in-Err.ensures.no_fewer c.raised-self-inside-in-Err.ensures.sum
    c.in-Err.ensures.failed)
