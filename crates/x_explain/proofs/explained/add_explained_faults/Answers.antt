use Rattle.std.proofs.Common.{◌≡◌, ◌+◌, ◌-◌, ◌∙◌, ◌++◌, length, ap, refl, sym, subst, arith}
use Rattle.std.specs.List.{flat_map}
use Rattle.std.proofs.lemmas.List.{length-map}
use Rattle.x_streams.specs.Writing.{Adds}
use Rattle.x_text.proofs.Adding.{four}
use Rattle.x_compile.specs.Compile.{places_of}
use Rattle.x_compile.proofs.Compiled.{one_compilation}
use Rattle.x_compile.proofs.FaultLemmas.{places_many}
use Rattle.x_explain.specs.declared.explained.Pass.TheVariants.{Errors, Notes}
use Rattle.x_explain.specs.Explained.{IsPass, Telling, explanation, foreign_line, notes_at, said_by, summary}
use Rattle.x_explain.specs.Facts.{before_in, foreign_in, near_in}
use Rattle.x_session.specs.Foreign.{view_all, view_foreign}
use Rattle.x_session.proofs.DeclaredLemmas.{of_each}
use Rattle.x_explain.proofs.explained.add_explained_faults.Goals as goal

pub overflow_sub-caused : goal.overflow_sub-caused
overflow_sub-caused g c =
    let errors = c.error_count-errors.ensures in
    let count = c.fault_count.ensures in
    let known = c.args.session.now.known in
    let text = c.args.session.now.text in
    let same = (one_compilation known text count.0 errors.0 count.1 errors.1 count.2 errors.2).1 in
    let many : c.fault_count.result ≡ length (places_of errors.1) = count.3 ∙ places_many text 0 count.1
    ∙ ap (λ items. length (places_of items)) same in
    let is = errors.3 in
    omega (arith, many, is)

pub returns : goal.returns
returns g c =
    let errors = c.error_count-errors.ensures in
    let count = c.fault_count.ensures in
    let first = c.add_pass.ensures in
    let second = c.add_pass-2.ensures in
    let known = c.args.session.now.known in
    let text = c.args.session.now.text in
    let t : Telling = record { coloured = c.args.coloured; file = c.args.file.now; text = text } in
    let start = g.S.Sink.state c.args.sink.now in
    let mid = g.S.Sink.state c.add_pass.new.sink in
    let more = g.S.Sink.state c.add_pass-2.new.sink in
    let last = g.S.Sink.state c.add_foreign_lines.new.sink in
    let end = g.S.Sink.state c.add_summary.new.sink in
    let pen = c.args.pen.now in
    let next = c.add_pass.new.pen in
    let then = c.add_pass-2.new.pen in
    let items = errors.1 in
    let near = near_in c.args.facts.now in
    let before = before_in c.args.facts.now in
    let foreign = foreign_in c.args.facts.now in
    let facts = of_each text c.requires errors.0 items errors.2 in
    let places = places_of items in
    let of_count = (one_compilation known text count.0 errors.0 count.1 items count.2 errors.2).1 in
    let of_first = (one_compilation known text first.0 errors.0 first.1 items first.2 errors.2).1 in
    let of_second = (one_compilation known text second.0 errors.0 second.1 items second.2 errors.2).1 in
    let one : IsPass Errors before t items near places pen start next mid =
    subst (λ is. IsPass Errors before t is near (places_of is) pen start next mid) of_first first.3 in
    let two : IsPass Notes before t items near places next mid then more =
    subst (λ is. IsPass Notes before t is near (places_of is) next mid then more) of_second second.3 in
    let many : c.fault_count.result ≡ length places = count.3 ∙ places_many text 0 count.1
    ∙ ap (λ is. length (places_of is)) of_count in
    let is = errors.3 in
    let names = c.as_slice-foreign.result.now in
    let name_many : length foreign ≡ length names = length-map c.args.facts.now.foreign.items view_foreign
    ∙ ap length (sym c.as_slice-foreign.ensures.value) in
    let error_many : c.error_count-errors.result ≡ length places - notes_at places = omega (arith, is) in
    let note_many : c.fault_count.result - c.error_count-errors.result + length names
    ≡ notes_at places + length foreign = omega (arith, is, many, name_many) in
    let errors_said = flat_map (said_by Errors before t items near) one.0 in
    let notes_said = flat_map (said_by Notes before t items near) two.0 in
    let foreign_said = flat_map (foreign_line t.coloured t.file) foreign in
    let named = subst (λ ns. Adds then more c.add_foreign_lines.new.pen last
    (flat_map (foreign_line t.coloured t.file) (view_all ns))) c.as_slice-foreign.ensures.value
    c.add_foreign_lines.ensures in
    let added = four pen next then c.add_foreign_lines.new.pen c.add_summary.new.pen start mid more last end
    errors_said notes_said foreign_said (summary c.error_count-errors.result
    (c.fault_count.result - c.error_count-errors.result + length names))
    one.2 two.2 named c.add_summary.ensures in (
      errors.0,
      items,
      errors.2,
      (
        explanation before foreign t items near one.0 two.0,
        record {
          near = near;
          errors = one.0;
          notes = two.0;
          are_near = facts.near;
          are_found = one.1;
          are_found_too = two.1;
          said_is = refl;
        },
        subst (λ s. Adds pen start c.add_summary.new.pen end s)
            (λ i. errors_said ++ notes_said ++ foreign_said ++ summary (error_many i) (note_many i)) added,
      ),
    )
