use Rattle.x_published.proofs.WritingLemmas.{on_ok}
use Rattle.x_published.proofs.published.write_position.Goals as goal

pub returns : goal.returns
returns g c =
    let w = g.S.Serializer.written in
    on_ok c.end_map.result (λ end. (
      w c.begin_map.new.self,
      c.in_ok-begin_map.ensures,
      (
        w c.key.new.self,
        w c.u64.new.self,
        c.in_ok-key.ensures,
        c.in_ok-u64.ensures,
        (
          w c.key-2.new.self,
          w c.u64-2.new.self,
          c.in_ok-key-2.ensures,
          c.in_ok-u64-2.ensures,
          end,
        ),
      ),
    )) c.end_map.ensures
