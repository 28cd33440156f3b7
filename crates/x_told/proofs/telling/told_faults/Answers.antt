use Rattle.std.proofs.Common.{◌≡◌, false, sym, ap, subst, ◌∙◌, ◌⊎◌, inl, inr}
use Rattle.std.specs.Prelude.{IfOk}
use Rattle.std.specs.List.{filter, list_any}
use Rattle.x_compile.specs.Compile.{places_of}
use Rattle.x_session.specs.Session.{Compiles}
use Rattle.x_session.proofs.DeclaredLemmas.{ok_then}
use Rattle.x_told.specs.Telling.{is_of_branch, is_of_faulty, told_of}
use Rattle.x_told.proofs.ToldLemmas.{any_of_branch, is_free_by, same_free}
use Rattle.x_told.proofs.SilentLemmas.{all_free}
use Rattle.x_told.proofs.telling.told_faults.Goals as goal
use Rattle.x_told.proofs.telling.told_faults.Goals.{
  else-has_repeat-via-then-has_repeat+else-has_use_of_faulty,
}
use Rattle.x_told.proofs.telling.told_faults.Goals.{else-has_repeat-via-else-has_repeat}

pub returns-then-has_use_of_faulty : goal.returns-then-has_use_of_faulty
returns-then-has_use_of_faulty c =
    let text = c.args.session.now.text in
    let shown = c.args.shown.now in
    subst (λ b. IfOk c.told_by_names.result (λ told. Compiles c.args.session.now.known text
    (λ items. told.items ≡ told_of b shown items))) (sym c.if-not-blanks.false)
    (c.told_by_names.ensures shown c.in_ok-branches.ensures)

pub returns : goal.returns
returns c =
    let found = c.in_ok-found.ensures in
    let shown = c.args.shown.now in
    let items = found.1 in
    let places = places_of items in
    let say = c.in_ok-branches.ensures in
    let none : (list_any (is_of_branch shown) places ≡ false)
    ⊎ (list_any (λ p. is_of_faulty p.code) places ≡ false) =
    elim c.else-has_repeat.branch [
      | else-has_repeat-via-then-has_repeat+else-has_use_of_faulty w ↦
          inr (sym (w.has_use_of_faulty.ensures
          ∙ ap (list_any _) (w.deref-then-has_repeat.ensures.value ∙ found.3)) ∙ w.if-has_use_of_faulty.false)
      | else-has_repeat-via-else-has_repeat w ↦
          inl (sym (c.has_repeat.ensures ∙ ap (list_any _) (c.deref.ensures.value ∙ found.3)
          ∙ any_of_branch shown _ say places) ∙ w.if-has_repeat.false)
    ] in
    ok_then c.without_repeats.result (λ told is. (
      found.0,
      items,
      found.2,
      is ∙ ap (filter (is_free_by _)) (c.deref-else-has_repeat.ensures.value ∙ found.3)
          ∙ same_free shown _ say places ∙ sym (all_free shown items none)
          ∙ ap (λ b. told_of b shown items) (sym c.if-not-blanks.false),
    )) c.without_repeats.ensures
