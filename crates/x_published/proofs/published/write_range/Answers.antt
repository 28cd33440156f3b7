use Rattle.x_published.proofs.WritingLemmas.{on_ok}
use Rattle.x_published.proofs.published.write_range.Goals as goal

pub returns : goal.returns
returns g c =
    let w = g.S.Serializer.written in
    on_ok c.end_map.result (λ end. (
      w c.begin_map.new.self,
      c.in_ok-begin_map.ensures,
      (
        w c.key.new.self,
        w c.write_position.new.out,
        c.in_ok-key.ensures,
        c.in_ok-write_position.ensures,
        (
          w c.key-2.new.self,
          w c.write_position-2.new.out,
          c.in_ok-key-2.ensures,
          c.in_ok-write_position-2.ensures,
          end,
        ),
      ),
    )) c.end_map.ensures
