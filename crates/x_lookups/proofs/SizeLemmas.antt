-- Sizes of unions.
use Rattle.std.proofs.Common.{◌≡◌, ℕ, zero, suc, ◌+◌, ◌<◌, List, [], ◌∷◌, Option, length, drop, slice_get}
use Rattle.std.proofs.Common.{arith, refl, ap, ◌∙◌}
use Rattle.x_schema.specs.declared.form.Arm.{Arm}
use Rattle.x_lookups.specs.Sizes.{with_case, with_cases}
use Rattle.x_lookups.specs.declared.sizes.Size.{Size}

one_more : (sizes : List Size) (size : Option Size) (cs : List (ℕ × Arm)) (i : ℕ) → i < length cs
    → with_cases sizes (with_case sizes size (slice_get cs i)) (drop (suc i) cs)
    ≡ with_cases sizes size (drop i cs)
one_more sizes size [] i lt = absurd (omega (arith, lt))
one_more sizes size (c ∷ cs) zero lt = refl
one_more sizes size (c ∷ cs) (suc i) lt = one_more sizes size cs i (omega (arith, lt))

-- one case more of those from a place on
pub case_more : (sizes : List Size) (size : Option Size) (cs : List (ℕ × Arm)) (i : ℕ) → i < length cs
    → with_cases sizes (with_case sizes size (slice_get cs i)) (drop (i + 1) cs)
    ≡ with_cases sizes size (drop i cs)
case_more sizes size cs i lt =
    let next : i + 1 ≡ suc i = omega arith in
    ap (λ n. with_cases sizes (with_case sizes size (slice_get cs i)) (drop n cs)) next
    ∙ one_more sizes size cs i lt
