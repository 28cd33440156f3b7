-- The first `*/` of a list of bytes.
use Rattle.std.proofs.Common.{◌≡◌, ℕ, zero, suc, ◌+◌, ◌<◌, ◌≤◌, ◌⊎◌, inl, inr, Bool, true, false, cond, List}
use Rattle.std.proofs.Common.{[], ◌∷◌, length, get_or, Option, None, Some, arith, refl, ap, lit<, add-zero}
use Rattle.std.proofs.lemmas.Bool.{cases_order}
use Rattle.std.proofs.lemmas.Bool.Decides.{nat_tests}
use Rattle.memchr.specs.Find.{OccursAt, FindsNeedle}
use Rattle.x_lex.specs.Scan.{later, closes, first_close}
use Rattle.x_lex.specs.Bytes.{close}

-- the first place, if there is one
abbrev pub IsFirstClose : List ℕ → Option ℕ → Type 0
IsFirstClose xs None = (k : ℕ) → OccursAt xs close k → ⊥
IsFirstClose xs (Some i) = OccursAt xs close i × ((k : ℕ) → k < i → OccursAt xs close k → ⊥)

-- `OccursAt` by the two bytes
pub occurs_bytes : (xs : List ℕ) (k : ℕ) → OccursAt xs close k
    → (get_or xs k 0 ≡ 42) × (get_or xs (k + 1) 0 ≡ 47)
occurs_bytes xs k h =
    let a : get_or xs (k + 0) 0 ≡ 42 = h.reads 0 (omega arith) in
    let b : get_or xs (k + 1) 0 ≡ 47 = h.reads 1 (omega arith) in
    (grind (arith, a), b)

-- a byte that isn't 0 stands within the list
pub stands : (xs : List ℕ) (k c : ℕ) → get_or xs k 0 ≡ c → 0 < c → k < length xs
stands [] k c h p = absurd (omega (arith, h))
stands (x ∷ xs) zero c h p = omega arith
stands (x ∷ xs) (suc k) c h p = let r = stands xs k c h p in omega (arith, r)

pub bytes_occur : (xs : List ℕ) (k : ℕ) → get_or xs k 0 ≡ 42 → get_or xs (k + 1) 0 ≡ 47 → OccursAt xs close k
bytes_occur xs k a b =
    let within = stands xs (k + 1) 47 b (lit< tt) in
    record { fits = omega (arith, within); reads = λ j lt. reads_at xs k a b j lt }
  where
    reads_at : (xs : List ℕ) (k : ℕ) → get_or xs k 0 ≡ 42 → get_or xs (k + 1) 0 ≡ 47 → (j : ℕ) → j < 2
        → get_or xs (k + j) 0 ≡ get_or close j 0
    reads_at xs k a b zero lt = rw add-zero a
    reads_at xs k a b (suc zero) lt = b
    reads_at xs k a b (suc (suc j)) lt = absurd (omega arith)

-- the first byte apart, a `*/` stands one place earlier
shift : (b : ℕ) (bs : List ℕ) (k : ℕ) → OccursAt (b ∷ bs) close (suc k) → OccursAt bs close k
shift b bs k h = let e = occurs_bytes (b ∷ bs) (suc k) h in bytes_occur bs k e.0 (grind (arith, e.1))

unshift : (b : ℕ) (bs : List ℕ) (k : ℕ) → OccursAt bs close k → OccursAt (b ∷ bs) close (suc k)
unshift b bs k h = let e = occurs_bytes bs k h in bytes_occur (b ∷ bs) (suc k) e.0 (grind (arith, e.1))

not_here : (b : ℕ) (bs : List ℕ) → closes b bs ≡ false → OccursAt (b ∷ bs) close 0 → ⊥
not_here b bs fails h = let e = occurs_bytes (b ∷ bs) 0 h in grind (arith, nat_tests, e.0, e.1)

step : (b : ℕ) (bs : List ℕ) (here : Bool) (r : Option ℕ) → closes b bs ≡ here → IsFirstClose bs r
    → IsFirstClose (b ∷ bs) (cond here (Some 0) (later r))
step b bs true r passes h = (
  bytes_occur (b ∷ bs) 0 (grind (arith, nat_tests)) (grind (arith, nat_tests)),
  λ k lt. absurd (omega arith),
)
step b bs false None fails h = none
  where
    none : (k : ℕ) → OccursAt (b ∷ bs) close k → ⊥
    none zero o = not_here b bs fails o
    none (suc k) o = h k (shift b bs k o)
step b bs false (Some i) fails h = (unshift b bs i h.0, before)
  where
    before : (k : ℕ) → k < suc i → OccursAt (b ∷ bs) close k → ⊥
    before zero lt o = not_here b bs fails o
    before (suc k) lt o = h.1 k (omega arith) (shift b bs k o)

pub first_close_is : (xs : List ℕ) → IsFirstClose xs (first_close xs)
unfolding first_close
first_close_is [] = λ k h. absurd (omega (arith, h.fits))
first_close_is (b ∷ bs) = step b bs (closes b bs) (first_close bs) refl (first_close_is bs)

-- there is only one first place
pub same_first_close : (xs : List ℕ) (r s : Option ℕ) → IsFirstClose xs r → IsFirstClose xs s → r ≡ s
same_first_close xs None None h k = refl
same_first_close xs None (Some j) h k = absurd (h j k.0)
same_first_close xs (Some i) None h k = absurd (k i h.0)
same_first_close xs (Some i) (Some j) h k = ap Some (order (cases_order i j))
  where
    order : (i ≡ j) ⊎ ((i < j) ⊎ (j < i)) → i ≡ j
    order (inl e) = e
    order (inr (inl lt)) = absurd (k.1 i lt h.0)
    order (inr (inr gt)) = absurd (h.1 j gt k.0)

-- what a search for `*/` finds
pub found_close : (xs : List ℕ) (r : Option ℕ) → FindsNeedle xs close 0 r → r ≡ first_close xs
found_close xs None h = same_first_close xs None (first_close xs)
    (λ k o. h k (omega arith) (let f : k + 2 ≤ length xs = o.fits in omega (arith, f)) o) (first_close_is xs)
found_close xs (Some i) h = same_first_close xs (Some i) (first_close xs)
    (h.1, λ k lt o. h.0.before k (omega arith) lt o) (first_close_is xs)
