use Rattle.std.proofs.Common.{◌≡◌, ◌+◌, ◌∷◌, ◌++◌, map, drop, ap, sym, ◌∙◌}
use Rattle.x_trees.specs.Notes.{view_note_at}
use Rattle.x_rules.specs.Tables.{seen_by}
use Rattle.x_rules.specs.Found.{fault_at, note_fault}
use Rattle.x_lists.proofs.ListLemmas.{drop_one, drop_none, listed_more, listed_all}
use Rattle.x_rules.proofs.rules.words.add_words.Goals as goal

pub loop-noted-preserved : goal.loop-noted-preserved
loop-noted-preserved c all known h =
    let at = c.loop-noted.noted-index in
    let ns = c.args.notes.now in
    let here = c.noted-item.result in
    let is : drop at ns ≡ here ∷ drop (at + 1) ns = drop_one ns at here c.loop-noted-test.true
    ∙ ap (λ x. x ∷ drop (at + 1) ns) (sym c.noted-item.is) in
    listed_more (λ n. fault_at n.word (note_fault (seen_by c.args.sights.now) known n.word n.note))
    c.loop-noted.faults.items c.add_fault.new.faults.items
    (map view_note_at (drop at ns)) (view_note_at here) (map view_note_at (drop (at + 1) ns)) _
    (ap (map view_note_at) is)
    (c.in_ok-add_fault.ensures ∙ ap (λ code. c.loop-noted.faults.items ++ fault_at here.word code)
    (c.note_fault-code.ensures all known h))
    (c.loop-noted.invariant all known h)

pub returns : goal.returns
returns c all known h =
    listed_all (λ n. fault_at n.word (note_fault (seen_by c.args.sights.now) known n.word n.note))
    c.loop-noted.faults.items _ _
    (ap (map view_note_at) (drop_none c.args.notes.now c.loop-noted.noted-index c.loop-noted-test.false))
    (c.loop-noted.invariant all known h)
