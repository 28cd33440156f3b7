use Rattle.std.proofs.Common.{Ok, ap, sym, subst, ◌∙◌}
use Rattle.x_schema.specs.Schema.{id_named}
use Rattle.x_value.specs.ValueTexts.{WritesValue}
use Rattle.rpcx.specs.Dumping.{WritesNamed}
use Rattle.rpcx.proofs.Dumping.{read_whole}
use Rattle.rpcx.proofs.rpcdump.showing.show_value.Goals as goal

pub returns-in-Ok : goal.returns-in-Ok
returns-in-Ok g c =
    let start = g.I.Tap.state c.args.input.now in
    let now = g.I.Tap.state c.read_all.new.input in
    let before = g.O.Sink.state c.args.out.now in
    let after = g.O.Sink.state c.dump_value.new.sink in (
      read_whole start now c.in_ok-bytes.bytes.items
          (λ all. WritesNamed c.args.schema.now c.args.type_name.now all before after (Ok c.in-Ok.outcome))
          c.in_ok-bytes.ensures.read (
            c.in-Some.id,
            ap (id_named c.args.schema.now) (sym c.as_bytes.ensures.value) ∙ sym c.in-Some.ensures.named,
            subst (λ t. WritesValue c.args.schema.now c.in-Some.id t before after (Ok c.in-Ok.outcome))
                c.deref.ensures.value c.in-Ok.ensures.written,
          ),
      c.in_ok-bytes.ensures.read.working,
    )
