use Rattle.std.proofs.Common.{◌≡◌, ◌⊎◌, ◌<◌, ◌++◌, ap, length, subst, sym, ◌∙◌}
use Rattle.std.specs.Prelude.{IsErrOf}
use Rattle.std.specs.Cmp.Lexicographic.{same_text}
use Rattle.x_text.specs.Limits.{most_text}
use Rattle.x_text.specs.declared.text.fault.TextFault.TheVariants as faults
use Rattle.x_prelude.specs.Before.{IsBefore, IsCrowded, IsKnownOf}
use Rattle.x_prelude.proofs.BeforeLemmas.{crowds, is_before, is_prelude, passed_on, same_error}
use Rattle.x_prelude.proofs.followed.FollowedText.renew.Goals as goal

pub returns-then-eq-clause-before : goal.returns-then-eq-clause-before
returns-then-eq-clause-before c over =
    let s = c.args.self.now in
    let lacking = c.in-Ok.lacking.items in
    let same : s.lacking.items ≡ lacking = sym (sym c.as_slice.ensures.value
    ∙ same_text c.as_slice.result.now c.as_slice-2.result.now c.if-eq.ensures ∙ c.as_slice-2.ensures.value) in
    subst (λ k. IsBefore s.files.items s.from_c s.session.text k)
    (ap (λ d. d.known) (sym c.prelude_of.ensures.session))
    (is_before s.files.items s.from_c s.session.text lacking s.session.known
    (is_prelude s.files.items s.from_c s.session.text lacking s.known over.files c.in-Ok.ensures.text)
    (subst (λ l. IsKnownOf (s.files.items ++ l) s.session.known) same over.all))

pub returns-in_err-self-clause-large : goal.returns-in_err-self-clause-large
returns-in_err-self-clause-large c over =
    let s = c.args.self.now in
    let lacking = c.in-Ok.lacking.items in
    passed_on (λ r. IsErrOf r faults.TooLarge
    → (most_text < length s.session.text) ⊎ IsCrowded s.files.items s.from_c s.session.text)
    c.from_residual.result c.in_err-self.field-0.0 c.from_residual.ensures.1
    (λ e. crowds s.files.items s.from_c s.session.text lacking c.bytes.result.now
    (c.deref.result.now ++ c.deref-2.result.now)
    (is_prelude s.files.items s.from_c s.session.text lacking s.known over.files c.in-Ok.ensures.text)
    (c.bytes.ensures ∙ ap (λ d. d.text) c.prelude_of.ensures.session)
    (λ i. c.deref.ensures.value i ++ c.deref-2.ensures.value i)
    (c.in_err-self.ensures.large (same_error c.in_err-self.field-0.0 faults.TooLarge e)))

pub returns-clause-before : goal.returns-clause-before
returns-clause-before c over =
    let s = c.args.self.now in
    let lacking = c.in-Ok.lacking.items in
    let known = subst (λ t. IsKnownOf t c.in_ok-self.field-0.known)
    (λ i. c.deref.ensures.value i ++ c.deref-2.ensures.value i) c.in_ok-self.ensures.known_is in
    is_before s.files.items s.from_c s.session.text lacking c.in_ok-self.field-0.known
    (is_prelude s.files.items s.from_c s.session.text lacking s.known over.files c.in-Ok.ensures.text) known
