use Rattle.std.proofs.Common.{Some, subst}
use Rattle.serde.specs.Event.{Logs, map_begins}
use Rattle.x_published.proofs.WritingLemmas.{on_ok}
use Rattle.x_published.proofs.published.write_without_code.Goals as goal

pub returns : goal.returns
returns g c =
    let w = g.S.Serializer.written in
    on_ok c.write_members.result (λ rest. (
      w c.begin_map.new.self,
      subst (λ n. Logs (w c.args.out.now) (w c.begin_map.new.self) (map_begins (Some n)))
          c.count_without_code.ensures c.in_ok-begin_map.ensures,
      rest,
    )) c.write_members.ensures
