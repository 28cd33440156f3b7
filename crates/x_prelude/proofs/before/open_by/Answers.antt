use Rattle.std.proofs.Common.{◌≡◌, ◌<◌, ◌≤◌, ℕ, true, false, true≢false, length, sym, ◌∙◌, arith}
use Rattle.std.specs.Prelude.{◌||◌}
use Rattle.x_text.specs.Limits.{most_text}
use Rattle.x_text.specs.declared.text.fault.TextFault.TheVariants as faults
use Rattle.x_prelude.proofs.BeforeLemmas.{opened_alone, same_error}
use Rattle.x_prelude.proofs.before.open_by.Goals as goal
use Rattle.x_prelude.proofs.before.open_by.Goals.{then-from_c, else-from_c}

fits : (n : ℕ) → n ≤ most_text → most_text < n → ⊥
fits n le more = omega (arith, le, more)

pub returns-then-not-from_c : goal.returns-then-not-from_c
returns-then-not-from_c c =
    let none : (c.args.from_c.types || c.args.from_c.foreign) ≡ false = elim c.if-from_c.branch [
      | then-from_c w ↦ absurd (true≢false (sym w.if-from_c.true ∙ sym w.value-is ∙ c.if-not-from_c.true))
      | else-from_c w ↦ λ i. w.if-from_c.false i || (sym w.value-is ∙ c.if-not-from_c.true) i
    ] in
    opened_alone c.args.files.now c.args.from_c c.args.base.now c.args.bytes.now c.open_over.result none
    (fits (length c.args.bytes.now) c.if-bytes-gt-MAX_TEXT.false) c.open_over.ensures

pub returns-in-Err : goal.returns-in-Err
returns-in-Err c = record {
  base_is = tt;
  text_is = tt;
  known_is = tt;
  too_large = λ long. absurd (fits (length c.args.bytes.now) c.if-bytes-gt-MAX_TEXT.false long);
  large = λ e. c.in-Err.ensures.large (same_error c.in-Err.fault faults.TooLarge e);
  in_range = λ e. c.in-Err.ensures.in_range (same_error c.in-Err.fault faults.BadRange e);
}
