use Rattle.std.proofs.Common.{◌≡◌, false, arith, ap, sym, ◌∙◌}
use Rattle.std.specs.Prelude.{nat_eq, not, ◌&&◌}
use Rattle.std.specs.Option.{option_copied}
use Rattle.std.proofs.lemmas.Bool.{eq-eqb}
use Rattle.x_explain.proofs.AgainLemmas.{ends_with}
use Rattle.x_explain.proofs.again.ends_with_own.Goals as goal

pub returns-then-last-word : goal.returns-then-last-word
returns-then-last-word c =
    let last = c.in-Some.last.now in
    sym (ap (λ b. b && not last.lifted) (eq-eqb last.word c.args.word c.if-last-word.true))
    ∙ sym (ends_with c.args.word c.args.names.now last
    (sym c.last.ensures.value ∙ ap option_copied c.in-Some.is))

pub returns-else-last-word : goal.returns-else-last-word
returns-else-last-word c =
    let last = c.in-Some.last.now in
    let other : nat_eq last.word c.args.word ≡ false = grind (arith, c.if-last-word.false) in
    other ∙ sym (ap (λ b. b && not last.lifted) other)
    ∙ sym (ends_with c.args.word c.args.names.now last
    (sym c.last.ensures.value ∙ ap option_copied c.in-Some.is))
