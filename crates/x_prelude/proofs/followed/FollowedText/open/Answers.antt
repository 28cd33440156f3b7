use Rattle.std.proofs.Common.{◌≡◌, ◌⊎◌, ◌<◌, ◌++◌, ap, append-nil, length, rules, subst, sym, ◌∙◌}
use Rattle.std.specs.Prelude.{IsErrOf}
use Rattle.x_text.specs.Limits.{most_text}
use Rattle.x_text.specs.declared.text.fault.TextFault.TheVariants as faults
use Rattle.x_compile.specs.Compile.{definitions_of}
use Rattle.x_compile.specs.Known.{known_names}
use Rattle.x_session.specs.Session.{Compiles, Document}
use Rattle.x_prelude.specs.Before.{IsCrowded, IsKnownOf}
use Rattle.x_prelude.specs.Prelude.{prelude}
use Rattle.x_prelude.proofs.BeforeLemmas.{crowds, is_before, is_prelude, no_items, passed_on, same_error}
use Rattle.x_prelude.proofs.followed.FollowedText.open.Goals as goal
use Rattle.x_prelude.proofs.followed.FollowedText.open.Goals.{then-not-is_empty+in_ok-session-2}
use Rattle.x_prelude.proofs.followed.FollowedText.open.Goals.{else-not-is_empty}

pub returns-in_err-session-2-clause-large : goal.returns-in_err-session-2-clause-large
returns-in_err-session-2-clause-large c =
    let files = c.args.files.now in
    let from = c.args.from_c in
    let text = c.args.bytes.now in
    let lacking = c.in-Ok.lacking.items in
    let own = c.in_ok-known.known in
    let compiled = subst (λ t. Compiles c.in_ok-session.session.known t (λ items. lacking
    ≡ prelude from (known_names own) (definitions_of items))) c.in_ok-session.ensures.text_is
    c.in-Ok.ensures.text in
    passed_on (λ r. IsErrOf r faults.TooLarge → (most_text < length text) ⊎ IsCrowded files from text)
    c.from_residual-in_err-session-2.result c.in_err-session-2.field-0.0
    c.from_residual-in_err-session-2.ensures.1
    (λ e. crowds files from text lacking text (files ++ c.deref.result.now)
    (is_prelude files from text lacking own c.in_ok-known.ensures.known compiled) (λ i. text)
    (ap (λ l. files ++ l) c.deref.ensures.value)
    (c.in_err-session-2.ensures.large (same_error c.in_err-session-2.field-0.0 faults.TooLarge e)))

-- what is known before the text, whether or not it lacks something
all_known : (c : goal.Joined-not-is_empty)
    → IsKnownOf (c.args.files.now ++ c.in-Ok.lacking.items) c.if-not-is_empty.session.known
all_known c =
    let front = c.args.files.now in
    let lacking = c.in-Ok.lacking.items in
    elim c.if-not-is_empty.branch [
      | then-not-is_empty+in_ok-session-2 w ↦
          subst (λ (s : Document). IsKnownOf (front ++ lacking) s.known) (sym w.session-is)
          (subst (λ l. IsKnownOf (front ++ l) w.in_ok-session-2.session.known) w.deref.ensures.value
          w.in_ok-session-2.ensures.known_is)
      | else-not-is_empty w ↦
          subst (λ (s : Document). IsKnownOf (front ++ lacking) s.known)
          (sym (w.session-is ∙ c.prelude_of.ensures.session))
          (subst (λ l. IsKnownOf l c.in_ok-session.session.known)
          (sym (append-nil front) ∙ ap (λ l. front ++ l)
          (sym (no_items c.in-Ok.lacking c.is_empty.result c.is_empty.ensures w.if-not-is_empty.false)))
          c.in_ok-session.ensures.known_is)
    ]

pub returns-clause-over : goal.returns-clause-over
returns-clause-over c =
    let lacking = c.in-Ok.lacking.items in
    let own : c.in-Ok-Ok.own_files.items ≡ c.args.files.now = c.in-Ok-Ok.ensures'.items in
    let all = all_known c in
    let based : c.if-not-is_empty.session.base ≡ c.args.base.now = search rules in
    record {
      files = subst (λ f. IsKnownOf f c.in_ok-known.known) (sym own) c.in_ok-known.ensures.known;
      all = subst (λ f. IsKnownOf (f ++ lacking) c.if-not-is_empty.session.known) (sym own) all;
      based = based ∙ sym c.in-Ok-Ok.ensures.items;
    }

pub returns-clause-lacking : goal.returns-clause-lacking
returns-clause-lacking c =
    let from = c.args.from_c in
    let lacking = c.in-Ok.lacking.items in
    let own = c.in_ok-known.known in
    let compiled = subst (λ t. Compiles c.in_ok-session.session.known t (λ items. lacking
    ≡ prelude from (known_names own) (definitions_of items))) c.in_ok-session.ensures.text_is
    c.in-Ok.ensures.text in
    is_prelude c.args.files.now from c.args.bytes.now lacking own c.in_ok-known.ensures.known compiled

pub returns-clause-before : goal.returns-clause-before
returns-clause-before c =
    let lacking = c.in-Ok.lacking.items in
    let all = all_known c in
    is_before c.args.files.now c.args.from_c c.args.bytes.now lacking c.if-not-is_empty.session.known
    (returns-clause-lacking c) all
