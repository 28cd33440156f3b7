use Rattle.std.proofs.Common.{ℕ}
use Rattle.std.proofs.lemmas.Result.{err_from_is_err_and}
use Rattle.x_wire.specs.Headers.{Header}
use Rattle.x_wire.specs.HeaderForms.{HeaderForm, Whole, number_form}
use Rattle.x_wire.proofs.Forms.{reads_then, behind}
use Rattle.x_wire.proofs.messages.reading.bounds.Goals as goal

-- what stands behind the lowest version
abbrev by_low : (ℕ → ℕ → Header) → ℕ → HeaderForm
by_low on low = number_form (λ high. Whole (on low high))

pub returns-in_err-low-clause-err : goal.returns-in_err-low-clause-err
returns-in_err-low-clause-err c =
    let p = err_from_is_err_and c.from_residual.result c.from_residual.ensures.1 in
    rw (p.1, p.2) (λ on bare. c.in_err-low.ensures.err (by_low on))

pub returns-in_err-high-clause-err : goal.returns-in_err-high-clause-err
returns-in_err-high-clause-err c =
    let p = err_from_is_err_and c.from_residual-in_err-high.result c.from_residual-in_err-high.ensures.1 in
    rw (p.1, p.2) (λ on bare.
    behind (c.in_ok-low.ensures.ok (by_low on))
    (c.in_err-high.ensures.err (λ high. Whole (on c.in_ok-low.low high))))

pub returns-in_err-end-clause-err : goal.returns-in_err-end-clause-err
returns-in_err-end-clause-err c =
    let p = err_from_is_err_and c.from_residual-in_err-end.result c.from_residual-in_err-end.ensures.1 in
    rw (p.1, p.2) (λ on bare.
    behind (reads_then (c.in_ok-low.ensures.ok (by_low on))
    (c.in_ok-high.ensures.ok (λ high. Whole (on c.in_ok-low.low high))))
    (c.in_err-end.ensures.err (on c.in_ok-low.low c.in_ok-high.high)
    (bare c.in_ok-low.low c.in_ok-high.high)))

pub returns-clause-ok : goal.returns-clause-ok
returns-clause-ok c = λ on.
    rw (c.in_ok-end.ensures.ok) at
    (reads_then (c.in_ok-low.ensures.ok (by_low on))
    (c.in_ok-high.ensures.ok (λ high. Whole (on c.in_ok-low.low high))))
