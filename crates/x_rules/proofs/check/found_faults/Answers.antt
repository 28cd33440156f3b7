use Rattle.std.proofs.Common.{map, ◌++◌, refl, ap, ◌∙◌}
use Rattle.x_trees.specs.Collected.{view_mention}
use Rattle.x_trees.specs.Collected.{view_name}
use Rattle.x_trees.specs.Seen.{names_of}
use Rattle.x_outline.specs.Bodies.{enumerators}
use Rattle.x_rules.specs.Constants.{knowns}
use Rattle.x_rules.specs.Found.{duplicates_from, mention_faults, note_faults, body_faults, found_faults}
use Rattle.x_trees.specs.Notes.{view_note_at}
use Rattle.x_outline.specs.Outlines.{outlined}
use Rattle.x_rules.specs.FirstPlaces.{first_place}
use Rattle.x_rules.specs.Tables.{seen_by, place_seen}
use Rattle.x_rules.proofs.OutlineLemmas.{added_before}
use Rattle.x_rules.proofs.check.found_faults.Goals as goal

pub returns : goal.returns
returns c o t =
    let outline = c.args.outline.now in
    let d = outlined outline in
    let see = seen_by c.args.sights.now in
    let all = enumerators d in
    let known = knowns see all in
    let ds = outline.declared.items in
    let bs = outline.bodies.items in
    let first = first_place 0 (names_of d) in
    let duplicates =
    ap (λ l. duplicates_from see (place_seen c.args.sights.now) 0 (map view_name l)) c.deref.ensures.value
    ∙ ap (λ f. duplicates_from see f 0 (map view_name ds))
    (ap (λ names name. first_place 0 names name) t.names) ∙ ap (duplicates_from see first 0) o.names_are in
    let uses = ap (λ l. mention_faults see all (map view_mention l)) c.deref-2.ensures.value
    ∙ ap (mention_faults see all) o.uses_are in
    let noted = ap (λ ns. note_faults see known (map view_note_at ns)) c.deref-3.ensures.value
    ∙ ap (note_faults see known) o.notes_are in
    let rest = body_faults d see known in
    let h3 = added_before _ _ _ _ _ rest (c.in_ok-add_body_faults.ensures o t)
    (c.in_ok-add_past_last.ensures all known t.numbers) refl in
    let h2 = added_before _ _ _ _ _ _ h3 (c.in_ok-add_words.ensures all known t.numbers) noted in
    let h1 = added_before _ _ _ _ _ _ h2 (c.in_ok-add_mentioned.ensures all known t.numbers) uses in
    let h0 = added_before _ _ _ _ _ _ h1 c.in_ok-add_duplicates.ensures duplicates in
    h0 ∙ ap (λ l. l ++ found_faults d see) c.new-faults.ensures.items
