use Rattle.std.proofs.Common.{◌≡◌, ◌+◌, ◌∷◌, [], drop, map, true, refl, ap, sym, ◌∙◌}
use Rattle.std.proofs.lemmas.List.{drop_all, drop_more}
use Rattle.x_trees.specs.View.{view_version}
use Rattle.x_trees.specs.Gloss.{VersionNumber, glossed, versions_by}
use Rattle.x_trees.specs.Words.{Number}
use Rattle.x_trees.specs.Collected.{Reads}
use Rattle.x_trees.proofs.GlossaryLemmas.{reads, reads_next, reads_two, reads_three, reads_then, reads_start}
use Rattle.x_trees.proofs.GlossaryLemmas.{reads_over, reads_end}
use Rattle.x_trees.proofs.names.glossary.Walk.versions.Goals as goal

pub loop-version-init : goal.loop-version-init
loop-version-init c = reads_start c.args.self.now _

pub loop-version-preserved : goal.loop-version-preserved
loop-version-preserved c =
    let item = c.version-item.result in
    let rest = drop (c.loop-version.version-index + 1) c.args.versions.now in
    let front : drop c.loop-version.version-index c.args.versions.now ≡ item ∷ rest =
    drop_more c.args.versions.now c.loop-version.version-index _ c.loop-version-test.true
    ∙ ap (λ x. x ∷ rest) (sym c.version-item.is) in
    let number : Reads c.skip-in-loop-version.new.self c.number.new.self
    (glossed (Number item.number.items) (VersionNumber item.number.items ∷ []) ∷ []) =
    reads (rw c.deref-in-loop-version.ensures at c.in_ok-number.ensures) in
    reads_over (λ xs. versions_by glossed true (map view_version xs)) item _ rest front refl
    c.loop-version.invariant
    (reads_three (reads c.skip.ensures)
    (reads_then (rw c.deref.ensures.value at c.in_ok-procedures.ensures)
    (reads_two (reads c.skip-in-loop-version.ensures)
    (reads_next number (reads c.skip-in-loop-version-2.ensures)))))

pub returns : goal.returns
returns c = reads_end (λ xs. versions_by glossed true (map view_version xs)) _
    (drop_all _ _ c.loop-version-test.false) refl c.loop-version.invariant
