-- What a patch leaves, from an index on.
use Rattle.std.proofs.Common.{◌≡◌, ℕ, zero, suc, ◌+◌, ◌-◌, ◌≤◌, min, ⊎_elim, List, [], ◌∷◌, ◌++◌, length}
use Rattle.std.proofs.Common.{take, drop, arith, ap, sym, ◌∙◌, length-take-le, length-append, length-drop}
use Rattle.std.specs.List.{splice}
use Rattle.std.proofs.lemmas.Bool.{cases_lt}
use Rattle.std.proofs.lemmas.List.{drop-take, drop-drop, drop_all, take-take, take_min}
use Rattle.std.proofs.Math.Seq.{drop-append-add}
use Rattle.x_lists.specs.Lengths.{total_length, length_before}
use Rattle.x_lists.proofs.LengthLemmas.{before_le}
use Rattle.x_lists.proofs.SeqLemmas.{drop_front}

-- the fresh entries and those behind them, from the k-th of them on
behind : {X : Type 0} → (xs ys : List X) (end k : ℕ)
    → drop (min k (length ys)) ys ++ drop (end + (k - length ys)) xs ≡ drop k (ys ++ drop end xs)
behind xs ys end k =
    ⊎_elim
    (λ less.
    let all : min k (length ys) ≡ k = omega (arith, less) in
    let same : end + (k - length ys) ≡ end = omega (arith, less) in
    (λ i. drop (all i) ys ++ drop (same i) xs) ∙ sym (drop_front ys (drop end xs) k (omega (arith, less))))
    (λ more.
    let none : drop (min k (length ys)) ys ≡ [] = drop_all (min k (length ys)) ys (omega (arith, more)) in
    let parts : k ≡ length ys + (k - length ys) = omega (arith, more) in
    ap (λ l. l ++ drop (end + (k - length ys)) xs) none
    ∙ sym (drop-drop (k - length ys) end xs)
    ∙ sym (ap (λ n. drop n (ys ++ drop end xs)) parts ∙ drop-append-add ys (drop end xs) (k - length ys)))
    (cases_lt k (length ys))

pub patched_from : {X : Type 0} → (xs ys : List X) (at end index : ℕ) → at ≤ length xs
    → take (at - min index at) (drop (min index at) xs) ++ (drop (min (index - at) (length ys)) ys
    ++ drop (end + (index - at - length ys)) xs) ≡ drop index (splice xs at end ys)
patched_from xs ys at end index within =
    let rest = ys ++ drop end xs in
    let long : length (take at xs) ≡ at = length-take-le at xs within in
    ⊎_elim
    (λ less.
    let here : min index at ≡ index = omega (arith, less) in
    let parts : at ≡ index + (at - index) = omega (arith, less) in
    let none : index - at ≡ 0 = omega (arith, less) in
    let front : take (at - min index at) (drop (min index at) xs) ≡ drop index (take at xs) =
    ap (λ n. take (at - n) (drop n xs)) here
    ∙ sym (ap (λ n. drop index (take n xs)) parts ∙ drop-take index (at - index) xs) in
    (λ i. front i ++ behind xs ys end (index - at) i)
    ∙ ap (λ n. drop index (take at xs) ++ drop n rest) none
    ∙ sym (drop_front (take at xs) rest index (omega (arith, less, long))))
    (λ more.
    let none : at - min index at ≡ 0 = omega (arith, more) in
    let parts : index ≡ length (take at xs) + (index - at) = omega (arith, more, long) in
    (λ i. ap (λ n. take n (drop (min index at) xs)) none i ++ behind xs ys end (index - at) i)
    ∙ sym (ap (λ n. drop n (take at xs ++ rest)) parts ∙ drop-append-add (take at xs) rest (index - at)))
    (cases_lt index at)

-- how many entries a patch leaves
pub length-spliced : {X : Type 0} → (xs ys : List X) (at end : ℕ) → at ≤ length xs
    → length (splice xs at end ys) ≡ at + (length ys + (length xs - end))
length-spliced xs ys at end within =
    let a = length-append (take at xs) (ys ++ drop end xs) in
    let b = length-append ys (drop end xs) in
    let c = length-drop end xs in
    let d = length-take-le at xs within in
    omega (arith, a, b, c, d)

-- ---- where an entry starts of those that a patch leaves

before_over : {T : Type 0} (size : T → ℕ) (xs ys : List T) (n : ℕ)
    → length_before size (xs ++ ys) n ≡ length_before size xs n + length_before size ys (n - length xs)
before_over size [] ys zero = omega arith
before_over size [] ys (suc n) =
    let e : suc n - 0 ≡ suc n = omega arith in let h = ap (length_before size ys) e in omega (arith, h)
before_over size (x ∷ xs) ys zero =
    let e : 0 - suc (length xs) ≡ 0 = omega arith in let h = ap (length_before size ys) e in omega (arith, h)
before_over size (x ∷ xs) ys (suc n) =
    let e : suc n - suc (length xs) ≡ n - length xs = omega arith in
    let h = ap (length_before size ys) e in
    let r = before_over size xs ys n in
    omega (arith, h, r)

before_behind : {T : Type 0} (size : T → ℕ) (xs : List T) (end k : ℕ)
    → length_before size xs (end + k) ≡ length_before size xs end + length_before size (drop end xs) k
before_behind size xs zero k =
    let e : 0 + k ≡ k = omega arith in let h = ap (length_before size xs) e in omega (arith, h)
before_behind size [] (suc end) k =
    let a = before_le size [] (suc end + k) in let b = before_le size [] k in omega (arith, a, b)
before_behind size (x ∷ xs) (suc end) k =
    let e : suc end + k ≡ suc (end + k) = omega arith in
    let h = ap (length_before size (x ∷ xs)) e in
    let r = before_behind size xs end k in
    omega (arith, h, r)

-- a later entry starts no earlier
pub before_order : {T : Type 0} (size : T → ℕ) (xs : List T) (i j start start' : ℕ) → i ≤ j
    → start ≡ length_before size xs i → start' ≡ length_before size xs j → start ≤ start'
before_order size xs i j start start' le a b =
    let parts : i + (j - i) ≡ j = omega (arith, le) in
    let more = before_behind size xs i (j - i) in
    let same = ap (length_before size xs) parts in
    omega (arith, more, same, a, b)

before_taken : {T : Type 0} (size : T → ℕ) (xs : List T) (at n : ℕ) → at ≤ length xs
    → length_before size (take at xs) n ≡ length_before size xs (min n at)
before_taken size xs at n within =
    let long : length (take at xs) ≡ at = length-take-le at xs within in
    ap (total_length size)
    (sym (take_min n (take at xs)) ∙ ap (λ m. take (min n m) (take at xs)) long
    ∙ take-take (min n at) at xs (omega arith))

pub start_patched : {T : Type 0} (size : T → ℕ) (xs ys : List T) (at end index : ℕ) → at ≤ length xs
    → length_before size (splice xs at end ys) index
    ≡ length_before size xs (min index at) + (length_before size ys (index - at)
    + (length_before size xs (end + (index - at - length ys)) - length_before size xs end))
start_patched size xs ys at end index within =
    let long : length (take at xs) ≡ at = length-take-le at xs within in
    let one = before_over size (take at xs) (ys ++ drop end xs) index in
    let rest : index - length (take at xs) ≡ index - at = omega (arith, long) in
    let here = ap (length_before size (ys ++ drop end xs)) rest in
    let two = before_taken size xs at index within in
    let three = before_over size ys (drop end xs) (index - at) in
    let four = before_behind size xs end (index - at - length ys) in
    omega (arith, one, here, two, three, four)

-- the entries behind those that are taken out, as the program counts them
pub behind_at : (count count' at at' removed removed' index from into fresh : ℕ) → at' + removed' ≤ count'
    → index ≤ at' + (fresh + (count' - (at' + removed'))) → count ≡ count' → at ≡ at' → removed ≡ removed'
    → from ≡ min index at' → into ≡ min (index - from) fresh
    → count' - (count - at - removed - (index - from - into)) ≡ at' + removed' + (index - at' - fresh)
behind_at count count' at at' removed removed' index from into fresh among within c a r f i =
    omega (arith, among, within, c, a, r, f, i)

-- where an entry starts, by parts: `front` of the old ones before, `passed`
-- of the fresh ones, and from `gone` to `behind` of the old ones again
pub record StartsBy {T : Type 0} (size : T → ℕ) (xs ys : List T) (at end index front passed gone behind : ℕ) :
    Type 0 where
  pub start : front + passed + (behind - gone) ≡ length_before size (splice xs at end ys) index
  pub order : gone ≤ behind
  pub fits : front + passed + (behind - gone) ≤ total_length size (splice xs at end ys)

pub starts_by : {T : Type 0} (size : T → ℕ) (xs ys : List T) (at end index front passed gone behind : ℕ)
    → at ≤ length xs → front ≡ length_before size xs (min index at)
    → passed ≡ length_before size ys (index - at)
    → gone ≡ length_before size xs end → behind ≡ length_before size xs (end + (index - at - length ys))
    → StartsBy size xs ys at end index front passed gone behind
starts_by size xs ys at end index front passed gone behind within f p g b =
    let start = start_patched size xs ys at end index within in
    let more = before_behind size xs end (index - at - length ys) in
    let most = before_le size (splice xs at end ys) index in
    record {
      start = omega (arith, start, f, p, g, b);
      order = omega (arith, more, g, b);
      fits = omega (arith, start, f, p, g, b, most);
    }
