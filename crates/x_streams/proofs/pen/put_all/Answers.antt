use Rattle.std.proofs.Common.{◌-◌, length, drop, arith, length-take, length-drop}
use Rattle.x_streams.proofs.Pens.{put_more}
use Rattle.x_streams.proofs.pen.put_all.Goals as goal

pub loop-done-preserved : goal.loop-done-preserved
loop-done-preserved g c = record {
  within =
      let w = c.in-Ok.ensures.taken.within in
      let t = length-take (length c.args.bytes.now - c.loop-done.done)
      (drop c.loop-done.done c.args.bytes.now) in
      let d = length-drop c.loop-done.done c.args.bytes.now in
      omega (arith, w, t, d);
  taken = put_more (g.S.Sink.state c.args.sink.now).bytes (g.S.Sink.state c.loop-done.sink).bytes
      (g.S.Sink.state c.put.new.self).bytes c.args.bytes.now c.loop-done.done c.in-Ok.count
      c.loop-done.invariant.taken c.in-Ok.ensures.taken.taken;
}
