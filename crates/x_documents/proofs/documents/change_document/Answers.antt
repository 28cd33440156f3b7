use Rattle.std.proofs.Common.{◌≡◌, ◌∙◌, ℕ, List, Option, Some, None, Vec, ap, map, option_map, refl, subst}
use Rattle.std.proofs.Common.{sym}
use Rattle.std.specs.Prelude.{MatchBool}
use Rattle.std.specs.Global.{Global}
use Rattle.x_frames.specs.declared.changes.TextChange.{TextChange}
use Rattle.serde_json.specs.View.{items_view}
use Rattle.x_frames.specs.KeptSaid.{no_memory_note}
use Rattle.x_frames.specs.Params.{replacement_of, replacements_in}
use Rattle.x_documents.specs.Noting.{IsChanged, IsChangedIf}
use Rattle.x_documents.specs.Replies.{said_of}
use Rattle.x_documents.specs.Views.{view_document}
use Rattle.x_documents.proofs.DocumentLemmas.{step_seen}
use Rattle.x_documents.proofs.NotingLemmas.{unheard}
use Rattle.x_documents.proofs.SaidLemmas.{no_memory_is_note, shows_note_if}
use Rattle.x_documents.proofs.documents.change_document.Goals as goal

pub returns-in-Ok-Some-clause-changed : goal.returns-in-Ok-Some-clause-changed
returns-in-Ok-Some-clause-changed c =
    let old = view_document c.args.document.now in
    let new = view_document c.change.new.self in
    let said = said_of c.change.result in
    let heard = ap (option_map (λ (l : Vec TextChange Global). map replacement_of l.items))
    (sym c.in-Ok-Some.field-0-is) ∙ c.in-Ok-Some.ensures in
    subst (λ o. IsChangedIf old c.args.version o said new) heard
    (subst (λ l. IsChanged old c.args.version
    (map replacement_of l) said new) c.deref.ensures.value c.change.ensures.changed)

pub returns-in-Ok-None-clause-note : goal.returns-in-Ok-None-clause-note
returns-in-Ok-None-clause-note c = shows_note_if c.lose.result c.wrong_note.result.now
    (said_of c.shown_if.result) c.shown_if.ensures

pub returns-then-lose-clause-changed : goal.returns-then-lose-clause-changed
returns-then-lose-clause-changed c =
    let x = c.args.document.now in
    unheard (view_document x) (view_document c.lose-in-Err.new.self) c.args.version
    (replacements_in (items_view c.args.changes.now.items))
    (Some no_memory_note) c.lose-in-Err.ensures.lost
    (subst (λ b. MatchBool b (Some no_memory_note ≡ Some no_memory_note) (Some no_memory_note ≡ None))
    (sym (step_seen x.in_step x.shown ∙ sym c.lose-in-Err.ensures.fell ∙ c.if-lose.true)) refl)

pub returns-then-lose-clause-note : goal.returns-then-lose-clause-note
returns-then-lose-clause-note c = no_memory_is_note

pub returns-else-lose-clause-changed : goal.returns-else-lose-clause-changed
returns-else-lose-clause-changed c =
    let x = c.args.document.now in
    let said : Option (List ℕ) = None in
    unheard (view_document x) (view_document c.lose-in-Err.new.self) c.args.version
    (replacements_in (items_view c.args.changes.now.items)) said c.lose-in-Err.ensures.lost
    (subst (λ b. MatchBool b (said ≡ Some no_memory_note) (said ≡ None))
    (sym (step_seen x.in_step x.shown ∙ sym c.lose-in-Err.ensures.fell ∙ c.if-lose.false)) refl)
