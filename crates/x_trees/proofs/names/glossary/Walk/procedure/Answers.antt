use Rattle.std.proofs.Common.{◌≡◌, ◌∷◌, [], map, length, true, sym, subst, ◌∙◌}
use Rattle.std.proofs.lemmas.List.{length-map}
use Rattle.x_trees.specs.View.{view_argument, view_passed}
use Rattle.x_trees.specs.Gloss.{VoidArgument, ProcedureNumber, glossed, passed_by, others_by}
use Rattle.x_trees.specs.Words.{Number}
use Rattle.x_trees.specs.Collected.{Reads}
use Rattle.x_trees.proofs.GlossaryLemmas.{reads, reads_next, reads_then, reads_two}
use Rattle.x_trees.proofs.names.glossary.Walk.procedure.Goals as goal

pub returns : goal.returns
returns c =
    let all = c.args.procedure.now in
    let others = map view_argument all.others.items in
    let behind : Reads c.first_argument.new.self c.others.new.self (others_by glossed true others) =
    rw c.deref.ensures.value at c.in_ok-others.ensures in
    let count : c.len.result ≡ length others = c.len.ensures ∙ all.others.ok.0
    ∙ sym (length-map all.others.items view_argument) in
    let first : Reads c.skip.new.self c.first_argument.new.self
    (passed_by glossed true (VoidArgument (length others) ∷ []) (view_passed all.first)) =
    subst (λ n. Reads c.skip.new.self c.first_argument.new.self
    (passed_by glossed true (VoidArgument n ∷ []) (view_passed all.first))) count
    c.in_ok-first_argument.ensures in
    let number : Reads c.skip-2.new.self c.number.new.self
    (glossed (Number all.number.items) (ProcedureNumber all.number.items ∷ []) ∷ []) =
    reads (rw c.deref-2.ensures at c.in_ok-number.ensures) in
    reads_then c.in_ok-result.ensures
    (reads_two (reads c.skip.ensures)
    (reads_then (reads_then first behind)
    (reads_two (reads c.skip-2.ensures) (reads_next number (reads c.skip-3.ensures)))))
