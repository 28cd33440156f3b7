use Rattle.std.proofs.Common.{ap, subst, ◌∙◌}
use Rattle.std.specs.Prelude.{OnOk}
use Rattle.std.proofs.Math.Logic.{∥∥₁_map}
use Rattle.x_prelude.specs.Before.{IsBefore}
use Rattle.x_text.specs.Edits.{change_of, edited_by}
use Rattle.x_documents.proofs.CompiledLemmas.{large_so, merely_on, text_same}
use Rattle.x_documents.proofs.compiled.follow_edit.Goals as goal

pub returns-in_err-apply-clause-over : goal.returns-in_err-apply-clause-over
returns-in_err-apply-clause-over c = ∥∥₁_map c.requires.over c.apply.ensures.over

pub returns-clause-over : goal.returns-clause-over
returns-clause-over c = ∥∥₁_map c.requires.over (λ over. c.renew.ensures.over (c.apply.ensures.over over))

pub returns-clause-before : goal.returns-clause-before
returns-clause-before c =
    let r = c.renew.result in
    let old = c.args.text.now in
    let mid = c.apply.new.self in
    let known = c.renew.new.self.session.known in
    let made = edited_by (change_of old.session.text c.args.edit.now) in
    subst (λ f. OnOk r ∥ IsBefore f.items old.from_c made known ∥₁) c.apply.ensures.files
    (subst (λ f. OnOk r ∥ IsBefore mid.files.items f made known ∥₁) c.apply.ensures.from_c
    (subst (λ t. OnOk r ∥ IsBefore mid.files.items mid.from_c t known ∥₁) c.in_ok-apply.ensures.text
    (merely_on (IsBefore mid.files.items mid.from_c mid.session.text known) r c.requires.over
    (λ over. c.renew.ensures.before (c.apply.ensures.over over)))))

pub returns-clause-large : goal.returns-clause-large
returns-clause-large c =
    let old = c.args.text.now in
    let mid = c.apply.new.self in
    λ e. ∥∥₁_map c.requires.over (λ over.
    large_so old.files.items mid.files.items old.from_c mid.from_c
    (edited_by (change_of old.session.text c.args.edit.now)) mid.session.text
    (ap (λ f. f.items) c.apply.ensures.files) c.apply.ensures.from_c c.in_ok-apply.ensures.text
    (c.renew.ensures.large (c.apply.ensures.over over) e))

pub returns-clause-base : goal.returns-clause-base
returns-clause-base c = text_same c.renew.new.self.session.base c.args.text.now.session.base c.requires.over
    (λ over. c.renew.ensures.base (c.apply.ensures.over over) ∙ c.apply.ensures.base)
