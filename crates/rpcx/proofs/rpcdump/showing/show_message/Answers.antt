use Rattle.std.proofs.Common.{Ok, subst}
use Rattle.x_wire.specs.StreamTexts.{DumpsMessage}
use Rattle.rpcx.proofs.Dumping.{read_whole}
use Rattle.rpcx.proofs.rpcdump.showing.show_message.Goals as goal

pub returns-in-Ok : goal.returns-in-Ok
returns-in-Ok g c =
    let start = g.I.Tap.state c.args.input.now in
    let now = g.I.Tap.state c.read_all.new.input in
    let before = g.O.Sink.state c.args.out.now in
    let after = g.O.Sink.state c.dump_message.new.sink in
    λ name. (
      read_whole start now c.in_ok-bytes.bytes.items
          (λ all. DumpsMessage c.args.schema.now all before after (Ok c.in-Ok.outcome))
          c.in_ok-bytes.ensures.read
          (subst (λ t. DumpsMessage c.args.schema.now t before after (Ok c.in-Ok.outcome))
          c.deref.ensures.value c.in-Ok.ensures.dumps),
      c.in_ok-bytes.ensures.read.working,
    )
