use Rattle.std.proofs.Common.{◌≡◌, Err, false, inr, subst, sym}
use Rattle.std.proofs.lemmas.Result.{err_from_is_err_and}
use Rattle.x_text.specs.Edits.{LiesWithin, change_of}
use Rattle.x_documents.specs.Compiled.{Stands}
use Rattle.x_documents.specs.Grounds.{ground_with, has_mark}
use Rattle.x_documents.specs.Noting.{IsNotCompiled}
use Rattle.x_documents.proofs.StandLemmas.{edit_compiled, edit_refused, stands_behind, text_was}
use Rattle.x_documents.proofs.carrying.carry_out_one.Goals as goal

pub follow_edit-requires-clause-within : goal.follow_edit-requires-clause-within
follow_edit-requires-clause-within c =
    subst (λ s. LiesWithin (change_of s c.in_ok-edit.edit))
    (sym (text_was c.args.files.now c.args.shown.now c.args.blanks c.args.compiled.now c.requires.stood))
    c.in_ok-edit.ensures.within

pub returns-in_err-follow_edit-clause-fault : goal.returns-in_err-follow_edit-clause-fault
returns-in_err-follow_edit-clause-fault c =
    let p = err_from_is_err_and c.from_residual-in_err-follow_edit.result
    c.from_residual-in_err-follow_edit.ensures.1 in
    let edit = c.in_ok-edit.edit in
    let shown = c.args.shown.now in
    let new = c.apply_change.new.text in
    let blanks = c.args.blanks in
    let fault = c.in_err-follow_edit.field-0.0 in
    let stands : Stands blanks new = stands_behind blanks shown new edit c.requires.stood.stands
    c.in_ok-edit.ensures.makes
    (c.stands.ensures.hash c.if-stands.true)
    (λ yes. subst (λ t. has_mark t ≡ false) c.bytes.ensures.text
    (c.stands.ensures.mark c.if-stands.true yes)) in
    rw (p.1, p.2) (inr (subst
    (λ t. IsNotCompiled (ground_with c.args.files.now c.args.compiled.now.from_c blanks false 0) t fault)
    c.in_ok-edit.ensures.text
    (edit_refused {T = Unit {0}}
    (Err fault) c.args.files.now shown new blanks c.args.compiled.now edit c.requires.stood
    c.in_ok-edit.ensures.makes stands c.in_err-follow_edit.ensures.large
    c.in_err-follow_edit.ensures.in_range)))

pub returns-then-stands-clause-followed : goal.returns-then-stands-clause-followed
returns-then-stands-clause-followed c =
    let edit = c.in_ok-edit.edit in
    let shown = c.args.shown.now in
    let new = c.apply_change.new.text in
    let blanks = c.args.blanks in
    let stands : Stands blanks new = stands_behind blanks shown new edit c.requires.stood.stands
    c.in_ok-edit.ensures.makes
    (c.stands.ensures.hash c.if-stands.true)
    (λ yes. subst (λ t. has_mark t ≡ false) c.bytes.ensures.text
    (c.stands.ensures.mark c.if-stands.true yes)) in
    edit_compiled c.args.files.now shown new blanks c.args.compiled.now c.follow_edit.new.text edit
    c.requires.stood
    c.in_ok-edit.ensures.makes stands c.follow_edit.ensures.files c.follow_edit.ensures.from_c
    c.in_ok-follow_edit.ensures.text c.in_ok-follow_edit.ensures.before

pub returns-then-stands-clause-stands : goal.returns-then-stands-clause-stands
returns-then-stands-clause-stands c = λ yes.
    let new = c.apply_change.new.text in
    let blanks = c.args.blanks in
    stands_behind blanks c.args.shown.now new c.in_ok-edit.edit c.requires.stood.stands
    c.in_ok-edit.ensures.makes
    (c.stands.ensures.hash c.if-stands.true)
    (λ yes. subst (λ t. has_mark t ≡ false) c.bytes.ensures.text (c.stands.ensures.mark c.if-stands.true yes))
