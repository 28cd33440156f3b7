use Rattle.std.proofs.Common.{◌≡◌, ℕ, zero, suc, List, refl, IfErr}
use Rattle.std.specs.Prelude.{Result}
use Rattle.x_wire.specs.declared.messages.fields.Refusal.{Refusal}
use Rattle.x_wire.specs.declared.messages.parts.Reply.{Reply}
use Rattle.x_wire.specs.HeaderForms.{reply_form, denied_form, FormFault}
use Rattle.x_wire.proofs.messages.reading.reply.Goals as goal

denied_err : (r : Result Reply Refusal) (n : ℕ) (bytes : List ℕ) → (n ≡ 0 → ⊥)
    → IfErr r (λ e. (xid : ℕ) → FormFault (denied_form xid) bytes e.left e.code)
    → IfErr r (λ e. (xid : ℕ) → FormFault (reply_form xid n) bytes e.left e.code)
denied_err r zero bytes some h = absurd (some refl)
denied_err r (suc n) bytes some h = h

pub returns-then-number-eq0-clause-err : goal.returns-then-number-eq0-clause-err
returns-then-number-eq0-clause-err c = rw c.if-number-eq0.true c.accepted.ensures.err

pub returns-else-number-eq0-clause-err : goal.returns-else-number-eq0-clause-err
returns-else-number-eq0-clause-err c =
    denied_err c.denied.result c.args.number c.args.bytes.now c.if-number-eq0.false c.denied.ensures.err
