use Rattle.std.proofs.Common.{ℕ}
use Rattle.std.proofs.lemmas.Result.{err_from_is_err_and}
use Rattle.x_wire.specs.Headers.{Auth}
use Rattle.x_wire.specs.HeaderForms.{HeaderForm, auth, length_form, body_form}
use Rattle.x_wire.proofs.Forms.{reads_then, behind}
use Rattle.x_wire.proofs.messages.fields.auth.Goals as goal

-- what stands behind the flavor, and behind the length
abbrev by_length : (Auth → HeaderForm) → ℕ → ℕ → HeaderForm
by_length on flavor n = body_form n (λ bs. on (auth flavor bs))

abbrev by_flavor : (Auth → HeaderForm) → ℕ → HeaderForm
by_flavor on flavor = length_form (by_length on flavor)

pub returns-in_err-flavor-clause-err : goal.returns-in_err-flavor-clause-err
returns-in_err-flavor-clause-err c =
    let p = err_from_is_err_and c.from_residual.result c.from_residual.ensures.1 in
    rw (p.1, p.2) (λ on. c.in_err-flavor.ensures.err (by_flavor on))

pub returns-in_err-length-clause-err : goal.returns-in_err-length-clause-err
returns-in_err-length-clause-err c =
    let p = err_from_is_err_and c.from_residual-in_err-length.result
    c.from_residual-in_err-length.ensures.1 in rw (p.1, p.2) (λ on.
    behind (c.in_ok-flavor.ensures.ok (by_flavor on))
    (c.in_err-length.ensures.err (by_length on c.in_ok-flavor.flavor)))

pub returns-in_err-body-clause-err : goal.returns-in_err-body-clause-err
returns-in_err-body-clause-err c =
    let p = err_from_is_err_and c.from_residual-in_err-body.result c.from_residual-in_err-body.ensures.1 in
    rw (p.1, p.2) (λ on.
    behind (reads_then (c.in_ok-flavor.ensures.ok (by_flavor on))
    (c.in_ok-length.ensures.ok (by_length on c.in_ok-flavor.flavor)))
    (c.in_err-body.ensures.err (λ bs. on (auth c.in_ok-flavor.flavor bs))))

pub returns-clause-ok : goal.returns-clause-ok
returns-clause-ok c = λ on.
    reads_then (reads_then (c.in_ok-flavor.ensures.ok (by_flavor on))
    (c.in_ok-length.ensures.ok (by_length on c.in_ok-flavor.flavor)))
    (c.in_ok-body.ensures.ok (λ bs. on (auth c.in_ok-flavor.flavor bs)))
