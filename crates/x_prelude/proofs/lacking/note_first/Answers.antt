use Rattle.std.proofs.Common.{◌≡◌, ◌∷◌, ◌++◌, [], false, is_some, sym, subst, ◌∙◌}
use Rattle.std.specs.Map.{lookup}
use Rattle.std.specs.Str.{bytes_eq}
use Rattle.indexmap.proofs.CallerLemmas.{insert_entry-new}
use Rattle.x_prelude.specs.LackingTable.{HasFirsts, occurrence}
use Rattle.x_prelude.proofs.FirstLemmas.{has_more, has_same, no_entry}
use Rattle.x_prelude.proofs.lacking.note_first.Goals as goal

pub returns-in_ok-insert : goal.returns-in_ok-insert
returns-in_ok-insert c before h =
    let entries = c.args.firsts.now.entries in
    let m = c.args.mention.now in
    let none : is_some (lookup (λ k. bytes_eq m.name.now k.now) entries) ≡ false = sym c.contains_key.ensures
    ∙ c.if-not-contains_key.true in
    subst (λ es. HasFirsts es (before ++ occurrence c.args.item m ∷ []))
    (sym (c.in_ok-insert.ensures.entries ∙ insert_entry-new _ c.args.firsts.now m.name _
    (no_entry (λ k. bytes_eq m.name.now k.now) entries none)))
    (has_more entries (record { item = c.args.item; mention = m }) before none h)

pub returns-else-not-contains_key : goal.returns-else-not-contains_key
returns-else-not-contains_key c before h =
    has_same c.args.firsts.now.entries c.args.item c.args.mention.now before
    (sym c.contains_key.ensures ∙ c.if-not-contains_key.false) h
