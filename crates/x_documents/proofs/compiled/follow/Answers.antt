use Rattle.std.proofs.Common.{◌≡◌, ◌∙◌, ◌<◌, ◌⊎◌, ap, length, subst, sym}
use Rattle.std.specs.Prelude.{IsErrOf, OnOk}
use Rattle.x_prelude.specs.Before.{IsBefore, IsCrowded}
use Rattle.x_text.specs.Edits.{change_of, edited_by}
use Rattle.x_text.specs.Limits.{most_text}
use Rattle.x_text.specs.declared.text.fault.TextFault.TheVariants.{TooLarge}
use Rattle.x_documents.proofs.compiled.follow.Goals as goal

pub returns-clause-text : goal.returns-clause-text
returns-clause-text c =
    let edit = c.edit_between-edit.result in
    subst (λ t. OnOk c.follow_edit.result (c.follow_edit.new.text.session.text ≡ t))
    (ap (λ s. edited_by (change_of s edit)) (sym c.bytes.ensures) ∙ c.edit_between-edit.ensures.makes)
    c.follow_edit.ensures.text

pub returns-clause-before : goal.returns-clause-before
returns-clause-before c =
    let edit = c.edit_between-edit.result in
    let old = c.args.text.now in
    let known = c.follow_edit.new.text.session.known in
    subst (λ t. OnOk c.follow_edit.result ∥ IsBefore old.files.items old.from_c t known ∥₁)
    (ap (λ s. edited_by (change_of s edit)) (sym c.bytes.ensures) ∙ c.edit_between-edit.ensures.makes)
    c.follow_edit.ensures.before

pub returns-clause-large : goal.returns-clause-large
returns-clause-large c =
    let edit = c.edit_between-edit.result in
    let old = c.args.text.now in
    subst (λ t. IsErrOf c.follow_edit.result TooLarge
    → ∥ (most_text < length t) ⊎ IsCrowded old.files.items old.from_c t ∥₁)
    (ap (λ s. edited_by (change_of s edit)) (sym c.bytes.ensures) ∙ c.edit_between-edit.ensures.makes)
    c.follow_edit.ensures.large
