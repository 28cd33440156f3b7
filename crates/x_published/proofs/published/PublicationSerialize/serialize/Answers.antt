use Rattle.x_published.specs.Published.{data_of}
use Rattle.x_published.proofs.WritingLemmas.{list_sent, on_ok}
use Rattle.x_published.proofs.published.PublicationSerialize.serialize.Goals as goal

pub returns : goal.returns
returns g c =
    let w = g.S.Serializer.written in
    on_ok c.end_map-2.result (λ end. (
      w c.begin_map.new.self,
      c.in_ok-begin_map.ensures,
      (
        w c.key.new.self,
        w c.str.new.self,
        c.in_ok-key.ensures,
        c.in_ok-str.ensures,
        (
          w c.key-2.new.self,
          w c.str-2.new.self,
          c.in_ok-key-2.ensures,
          c.in_ok-str-2.ensures,
          (
            w c.key-3.new.self,
            w c.end_map.new.self,
            c.in_ok-key-3.ensures,
            (
              w c.begin_map-2.new.self,
              c.in_ok-begin_map-2.ensures,
              (
                w c.key-4.new.self,
                w c.serialize.new.out,
                c.in_ok-key-4.ensures,
                list_sent data_of c.args.self.now.list.items (w c.key-4.new.self)
                    (w c.serialize.new.out) c.in_ok-serialize.ensures,
                (
                  w c.key-5.new.self,
                  w c.str-3.new.self,
                  c.in_ok-key-5.ensures,
                  c.in_ok-str-3.ensures,
                  (
                    w c.key-6.new.self,
                    w c.serialize-2.new.out,
                    c.in_ok-key-6.ensures,
                    c.in_ok-serialize-2.ensures,
                    c.in_ok-end_map.ensures,
                  ),
                ),
              ),
            ),
            end,
          ),
        ),
      ),
    )) c.end_map-2.ensures
