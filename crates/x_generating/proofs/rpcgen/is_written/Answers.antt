use Rattle.x_compile.specs.Generated.{text_of}
use Rattle.x_args.proofs.Grown.{grown_kept}
use Rattle.x_generating.proofs.rpcgen.is_written.Goals as goal

pub returns-clause-front : goal.returns-clause-front
returns-clause-front g c e =
    let h = c.write_text.ensures.written in
    let text = text_of c.args.which c.args.session.now.base h.1 in (
      h.0,
      h.1,
      h.2,
      grown_kept c.write_text.result (g.O.Sink.state c.args.out.now) (g.O.Sink.state c.write_text.new.sink)
          (g.O.Sink.state c.flush.new.self) text h.3 c.flush.ensures.same,
    )
