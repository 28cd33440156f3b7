use Rattle.std.proofs.Common.{◌≡◌, ◌∙◌, map, ap, refl, sym, subst}
use Rattle.x_compile.specs.Compile.{in_lines, places_of}
use Rattle.x_compile.proofs.Compiled.{one_compilation}
use Rattle.x_compile.proofs.FaultLemmas.{in_lines_from}
use Rattle.x_explain.specs.declared.found.FoundFault.{FoundFault}
use Rattle.x_explain.specs.Explained.{Telling}
use Rattle.x_explain.specs.Facts.{before_in, near_in, view_known}
use Rattle.x_explain.specs.Found.{IsEndOfToken, IsFound}
use Rattle.x_session.proofs.DeclaredLemmas.{of_each}
use Rattle.x_explain.proofs.PassLemmas.{HasPassed, passed_all, passed_more, passed_none, said_as, tail_is}
use Rattle.x_explain.proofs.explained.Telling.add_pass.Goals as goal

pub loop-place-init : goal.loop-place-init
loop-place-init g c =
    let told = c.faults-faults.ensures in
    let all = c.fault_places-place-items.ensures in
    let here = c.args.self.now.session.now.text in
    let text = c.bytes-text.result.now in
    let places = c.into_iter-place-iterator.result in
    let same = (one_compilation c.args.self.now.session.now.known here told.0 all.0 told.1 all.1
    told.2 all.2).1 in
    let faults : c.faults-faults.result ≡ map (in_lines text) places = told.3
    ∙ sym (in_lines_from here 0 told.1)
    ∙ ap (λ t. map (in_lines t) (places_of told.1)) (sym c.bytes-text.ensures)
    ∙ ap (λ items. map (in_lines text) (places_of items)) same
    ∙ ap (map (in_lines text)) (sym all.3 ∙ sym c.into_iter-place-iterator.ensures.into_iter_gives) in (
      faults,
      passed_none c.args.pass (before_in c.args.self.now.facts.now)
          (record { coloured = c.args.self.now.coloured; file = c.args.self.now.file.now; text = here })
          (near_in c.args.self.now.facts.now) places c.args.pen.now
          (g.S.Sink.state c.args.sink.now) c.requires,
    )

pub loop-place-preserved : goal.loop-place-preserved
loop-place-preserved g c =
    let self = c.args.self.now in
    let here = self.session.now.text in
    let t : Telling = record { coloured = self.coloured; file = self.file.now; text = here } in
    let text = c.bytes-text.result.now in
    let near = near_in self.facts.now in
    let places = before_in self.facts.now in
    let place = c.in-Some.place in
    let left = c.next.new.self in
    let all = c.into_iter-place-iterator.result in
    let start = g.S.Sink.state c.args.sink.now in
    let mid = g.S.Sink.state c.loop-place.sink in
    let end = g.S.Sink.state c.add_in.new.sink in
    let found : FoundFault =
    record { code = place.code; start = place.start; end = c.token_end-end.result } in
    let is : IsFound here place found =
    record {
      code = refl;
      start = refl;
      end = subst (λ t. IsEndOfToken t place.start c.token_end-end.result) c.bytes-text.ensures
          c.token_end-end.ensures;
    } in
    let two = sym c.in-Some-next.ensures.steps ∙ c.loop-place.invariant.0
    ∙ ap (map (in_lines text)) c.in-Some.ensures.steps in (
      tail_is c.in-Some-next.fault (in_lines text place) c.next-in-loop-place.new.self
          (map (in_lines text) left) two,
      passed_more c.args.pass places t near all left place found c.args.pen.now c.loop-place.pen
          c.add_in.new.pen start mid end
          (subst (λ ps. HasPassed c.args.pass self.session.now.known places t near all ps c.args.pen.now start
          c.loop-place.pen mid) c.in-Some.ensures.steps c.loop-place.invariant.1)
          is
          (λ tokens items of_text. said_as c.args.pass places self.coloured self.file.now text here
          items near found
          c.word_at.result.now (view_known c.known.result) c.loop-place.pen c.add_in.new.pen mid end
          c.bytes-text.ensures c.word_at.ensures
          (c.known.ensures here items (of_each here c.requires tokens items of_text)) c.add_in.ensures),
    )

pub returns : goal.returns
returns g c =
    let self = c.args.self.now in
    let here = self.session.now.text in
    let t : Telling = record { coloured = self.coloured; file = self.file.now; text = here } in
    let places = c.fault_places-place-items.ensures in
    let all = c.into_iter-place-iterator.result in
    passed_all c.args.pass (before_in self.facts.now) t (near_in self.facts.now) all
    c.loop-place.place-iterator c.args.pen.now c.loop-place.pen (g.S.Sink.state c.args.sink.now)
    (g.S.Sink.state c.loop-place.sink)
    c.in-None.ensures.steps.0 (
      places.0,
      places.1,
      places.2,
      c.into_iter-place-iterator.ensures.into_iter_gives ∙ places.3,
    ) c.loop-place.invariant.1
