-- Numbers in little memory, while large ones come in.
use Rattle.std.specs.Prelude.{All, ℤ, Option, slice_get}
use Rattle.std.proofs.Common.{◌≡◌, ◌<◌, ℕ, zero, suc, List, [], ◌∷◌, ◌++◌, length, map, arith, refl, ap, ◌∙◌}
use Rattle.std.proofs.lemmas.List.Elements.{All-head, All-tail}
use Rattle.x_lists.proofs.ListLemmas.{map_append}
use Rattle.x_rules.specs.Packed.{Grows, IsWithin, unpacked}
use Rattle.x_rules.specs.declared.rules.packed_numbers.Packed.{Packed}
use Rattle.x_rules.specs.declared.rules.packed_numbers.Packed.TheVariants as packed

in_front : (xs ys : List ℤ) (i : ℕ) → i < length xs → slice_get (xs ++ ys) i ≡ slice_get xs i
in_front [] ys i lt = absurd (omega (arith, lt))
in_front (x ∷ xs) ys zero lt = refl
in_front (x ∷ xs) ys (suc i) lt = in_front xs ys i (omega (arith, lt))

stays : (large more : List ℤ) (p : Packed) → IsWithin large p → unpacked (large ++ more) p ≡ unpacked large p
stays large more packed.Missing h = refl
stays large more (packed.Small n) h = refl
stays large more (packed.Large place) h = in_front large more place h

all_stay : (large more : List ℤ) (ps : List Packed) → All (IsWithin large) ps
    → map (unpacked (large ++ more)) ps ≡ map (unpacked large) ps
all_stay large more [] h = refl
all_stay large more (p ∷ ps) h =
    ap (λ n. n ∷ map (unpacked (large ++ more)) ps) (stays large more p (All-head (IsWithin large) p ps h))
    ∙ ap (λ ns. unpacked large p ∷ ns) (all_stay large more ps (All-tail (IsWithin large) p ps h))

-- the numbers so far stay, and one more stands behind them
pub packed_more : (old new : List ℤ) (ps qs : List Packed) (p : Packed) (n : Option ℤ) → All (IsWithin old) ps
    → Grows old new → unpacked new p ≡ n → qs ≡ ps ++ p ∷ []
    → map (unpacked new) qs ≡ map (unpacked old) ps ++ n ∷ []
packed_more old new ps qs p n within grows number behind =
    ap (map (unpacked new)) behind ∙ map_append (unpacked new) ps (p ∷ [])
    ∙ ap (λ m. map (unpacked new) ps ++ m ∷ []) number ∙ ap (λ l. map (unpacked l) ps ++ n ∷ []) grows.1
    ∙ ap (λ ns. ns ++ n ∷ []) (all_stay old grows.0 ps within)
