use Rattle.std.proofs.Common.{subst}
use Rattle.serde.specs.Event.{Logs, unsigned}
use Rattle.x_published.proofs.WritingLemmas.{on_ok}
use Rattle.x_published.proofs.published.write_last.Goals as goal

pub returns : goal.returns
returns g c =
    let w = g.S.Serializer.written in
    on_ok c.end_map.result (λ end. (
      w c.key.new.self,
      w c.u64.new.self,
      c.in_ok-key.ensures,
      subst (λ n. Logs (w c.key.new.self) (w c.u64.new.self)
          (unsigned n)) c.number.ensures c.in_ok-u64.ensures,
      (
        w c.key-2.new.self,
        w c.str.new.self,
        c.in_ok-key-2.ensures,
        c.in_ok-str.ensures,
        end,
      ),
    )) c.end_map.ensures
