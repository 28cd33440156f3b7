use Rattle.std.proofs.Common.{◌≡◌, ◌∷◌, ◌++◌, [], false, is_some, sym, subst, ◌∙◌}
use Rattle.std.specs.Map.{lookup}
use Rattle.std.specs.Str.{bytes_eq}
use Rattle.indexmap.proofs.CallerLemmas.{insert_entry-new}
use Rattle.x_session.proofs.DeclaredLemmas.{none_is}
use Rattle.x_prelude.specs.LackingTable.{HasTags, occurrence}
use Rattle.x_prelude.proofs.FirstLemmas.{new_tag, no_entry, no_tag, old_tag}
use Rattle.x_prelude.proofs.lacking.note_tag.Goals as goal

pub returns-in_default : goal.returns-in_default
returns-in_default c before h =
    no_tag c.args.tags.now.entries c.args.item c.args.mention.now before
    (none_is c.args.mention.now.tag c.in_default.not-Some) h

pub returns-in_ok-insert : goal.returns-in_ok-insert
returns-in_ok-insert c before h =
    let entries = c.args.tags.now.entries in
    let m = c.args.mention.now in
    let none : is_some (lookup (λ k. bytes_eq m.name.now k.now) entries) ≡ false = sym c.contains_key.ensures
    ∙ c.if-not-contains_key.true in
    subst (λ es. HasTags es (before ++ occurrence c.args.item m ∷ []))
    (sym (c.in_ok-insert.ensures.entries ∙ insert_entry-new _ c.args.tags.now m.name _
    (no_entry (λ k. bytes_eq m.name.now k.now) entries none)))
    (new_tag entries c.args.item m c.in-Some.tag before c.in-Some.is h)

pub returns-else-not-contains_key : goal.returns-else-not-contains_key
returns-else-not-contains_key c before h =
    old_tag c.args.tags.now.entries c.args.item c.args.mention.now before
    (sym c.contains_key.ensures ∙ c.if-not-contains_key.false) h
