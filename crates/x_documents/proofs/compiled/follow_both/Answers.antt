use Rattle.std.proofs.Common.{◌≡◌, ◌∙◌, ◌<◌, ◌⊎◌, length, subst, sym}
use Rattle.std.specs.Prelude.{IsErrOf, OnOk}
use Rattle.std.proofs.lemmas.Grind.{merely}
use Rattle.std.proofs.lemmas.Slice.Eq.{bytes_eq-Decides}
use Rattle.x_text.specs.Limits.{most_text}
use Rattle.x_text.specs.declared.text.fault.TextFault.TheVariants.{TooLarge}
use Rattle.x_prelude.specs.Before.{IsBefore, IsCrowded}
use Rattle.x_documents.proofs.CompiledLemmas.{on_merely, over_replaced, text_same}
use Rattle.x_documents.proofs.compiled.follow_both.Goals as goal

pub returns-then-eq-clause-before : goal.returns-then-eq-clause-before
returns-then-eq-clause-before c =
    let old = c.args.text.now in
    let same : c.args.files.now ≡ old.files.items =
    (bytes_eq-Decides c.args.files.now c.as_slice.result.now).0 (sym c.eq.ensures ∙ c.if-eq.true)
    ∙ c.as_slice.ensures.value in
    subst (λ f. OnOk c.follow.result ∥ IsBefore f old.from_c c.args.bytes.now c.follow.new.text.session.known
    ∥₁) (sym same)
    c.follow.ensures.before

pub returns-then-eq-clause-large : goal.returns-then-eq-clause-large
returns-then-eq-clause-large c =
    let old = c.args.text.now in
    let same : c.args.files.now ≡ old.files.items =
    (bytes_eq-Decides c.args.files.now c.as_slice.result.now).0 (sym c.eq.ensures ∙ c.if-eq.true)
    ∙ c.as_slice.ensures.value in
    subst (λ f. IsErrOf c.follow.result TooLarge → ∥ (most_text < length c.args.bytes.now)
    ⊎ IsCrowded f old.from_c c.args.bytes.now ∥₁) (sym same) c.follow.ensures.large

pub returns-else-eq-clause-over : goal.returns-else-eq-clause-over
returns-else-eq-clause-over c =
    over_replaced c.replace.result c.args.text.now c.replace.new.self c.replace.ensures.over
    c.replace.ensures.same
    c.requires

pub returns-else-eq-clause-before : goal.returns-else-eq-clause-before
returns-else-eq-clause-before c =
    on_merely (IsBefore c.args.files.now c.args.text.now.from_c c.args.bytes.now
    c.replace.new.self.session.known)
    c.replace.result c.replace.ensures.before

pub returns-else-eq-clause-large : goal.returns-else-eq-clause-large
returns-else-eq-clause-large c = λ e. merely (c.replace.ensures.large e)

pub returns-else-eq-clause-base : goal.returns-else-eq-clause-base
returns-else-eq-clause-base c =
    text_same c.replace.new.self.session.base c.args.text.now.session.base c.requires c.replace.ensures.base
