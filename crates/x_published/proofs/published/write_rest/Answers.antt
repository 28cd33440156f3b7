use Rattle.std.proofs.Common.{sym, subst}
use Rattle.std.specs.Prelude.{OnOk, option_map}
use Rattle.serde_json.specs.Events.{SendsMembers}
use Rattle.x_published.specs.Diagnostics.{rest_members}
use Rattle.x_published.specs.Published.{place_data}
use Rattle.x_published.proofs.WritingLemmas.{on_ok}
use Rattle.x_published.proofs.published.write_rest.Goals as goal

pub returns-in_ok-end_seq-in-Some : goal.returns-in_ok-end_seq-in-Some
returns-in_ok-end_seq-in-Some g c =
    let w = g.S.Serializer.written in
    subst (λ o. OnOk c.write_last.result (SendsMembers
    (rest_members c.args.severity (option_map place_data o)) (w c.args.out.now)
    (w c.write_last.new.out))) (sym c.in-Some.is)
    (on_ok c.write_last.result (λ last. (
      w c.key.new.self,
      w c.end_seq.new.self,
      c.in_ok-key-in-Some.ensures,
      (
        w c.begin_seq.new.self,
        c.in_ok-begin_seq-in-Some.ensures,
        (w c.write_place.new.out, c.in_ok-write_place-in-Some.ensures, c.in_ok-end_seq-in-Some.ensures),
      ),
      last,
    )) c.write_last.ensures)
