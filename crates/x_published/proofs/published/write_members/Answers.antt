use Rattle.x_published.proofs.WritingLemmas.{on_ok}
use Rattle.x_published.proofs.published.write_members.Goals as goal

pub returns : goal.returns
returns g c =
    let w = g.S.Serializer.written in
    on_ok c.write_rest.result (λ rest. (
      w c.key.new.self,
      w c.str.new.self,
      c.in_ok-key.ensures,
      c.in_ok-str.ensures,
      (
        w c.key-2.new.self,
        w c.write_range.new.out,
        c.in_ok-key-2.ensures,
        c.in_ok-write_range.ensures,
        rest,
      ),
    )) c.write_rest.ensures
