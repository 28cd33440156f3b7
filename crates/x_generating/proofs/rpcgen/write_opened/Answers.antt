use Rattle.std.proofs.Common.{refl}
use Rattle.x_generating.specs.Generate.{broken}
use Rattle.x_generating.proofs.Outputs.{has_failed}
use Rattle.x_generating.proofs.rpcgen.write_opened.Goals as goal

pub returns-in_default : goal.returns-in_default
returns-in_default g c =
    let left = c.gen_write.new.out in
    let failed = has_failed (g.O.Opened.Sink.state left).failed c.gen_write.result c.gen_write.ensures.status
    c.in_default.not-Done in
    record {
      written = λ e. absurd (cc);
      status = λ e. absurd (cc);
      failed = λ _. broken (g.O.Opened.Outlet.is_closed left) (left, failed, refl)
          (c.gen_write.ensures.told c.in_default.not-Done);
      quiet = λ e. absurd (cc);
      as_it_was = λ _. c.take_away.ensures.standing;
      tidy = c.take_away.ensures.tidy;
    }
