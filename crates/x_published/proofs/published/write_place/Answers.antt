use Rattle.x_published.proofs.WritingLemmas.{on_ok}
use Rattle.x_published.proofs.published.write_place.Goals as goal

pub returns : goal.returns
returns g c =
    let w = g.S.Serializer.written in
    on_ok c.end_map-2.result (λ end. (
      w c.begin_map.new.self,
      c.in_ok-begin_map.ensures,
      (
        w c.key.new.self,
        w c.end_map.new.self,
        c.in_ok-key.ensures,
        (
          w c.begin_map-2.new.self,
          c.in_ok-begin_map-2.ensures,
          (
            w c.key-2.new.self,
            w c.write_range.new.out,
            c.in_ok-key-2.ensures,
            c.in_ok-write_range.ensures,
            (
              w c.key-3.new.self,
              w c.str.new.self,
              c.in_ok-key-3.ensures,
              c.in_ok-str.ensures,
              c.in_ok-end_map.ensures,
            ),
          ),
        ),
        (
          w c.key-4.new.self,
          w c.str-2.new.self,
          c.in_ok-key-4.ensures,
          c.in_ok-str-2.ensures,
          end,
        ),
      ),
    )) c.end_map-2.ensures
