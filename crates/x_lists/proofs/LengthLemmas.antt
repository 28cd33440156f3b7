-- Lengths of entries together.
use Rattle.std.proofs.Common.{◌≡◌, ℕ, zero, suc, ◌+◌, ◌^◌, ◌≤◌, ◌<◌, List, [], ◌∷◌, ◌++◌, length, get_or}
use Rattle.std.proofs.Common.{take, drop, None, Some, arith, refl, sym, ap, subst, ◌∙◌, add-one}
use Rattle.std.proofs.Common.{length-append, length-take-le, append_assoc}
use Rattle.std.specs.Prelude.{slice_get, slice_set}
use Rattle.std.specs.List.{splice}
use Rattle.std.proofs.lemmas.List.{take_at, length-set}
use Rattle.x_lists.specs.Seqs.{Gapped}
use Rattle.x_lists.specs.Lengths.{total_length, length_before, IsPlaced, Patch, patched, LiesAmong}

module _ {T : Type 0} (size : T → ℕ) where
  pub total-append : (xs ys : List T)
      → total_length size (xs ++ ys) ≡ total_length size xs + total_length size ys
  total-append [] ys = omega arith
  total-append (x ∷ xs) ys = let r = total-append xs ys in omega (arith, r)

  pub before_le : (xs : List T) (i : ℕ) → length_before size xs i ≤ total_length size xs
  before_le xs zero = omega arith
  before_le [] (suc i) = omega arith
  before_le (x ∷ xs) (suc i) = let r = before_le xs i in omega (arith, r)

  pub before_all : (xs : List T) (i : ℕ) → length xs ≤ i → length_before size xs i ≡ total_length size xs
  before_all [] zero le = refl
  before_all [] (suc i) le = refl
  before_all (x ∷ xs) zero le = absurd (omega arith)
  before_all (x ∷ xs) (suc i) le = ap (λ n. size x + n) (before_all xs i (omega arith))

  -- an entry that is there, and what starts behind it
  pub before_read : (xs : List T) (i : ℕ) (x : T) → slice_get xs i ≡ Some x
      → length_before size xs (i + 1) ≡ length_before size xs i + size x
  before_read xs i x e = rw add-one (read xs i x e)
    where
      read : (xs : List T) (i : ℕ) (x : T) → slice_get xs i ≡ Some x
          → length_before size xs (suc i) ≡ length_before size xs i + size x
      read [] i x e = (cc)
      read (y ∷ ys) zero x e =
          let same : y ≡ x = (cc) in let f : size y ≡ size x = ap size same in omega (arith, f)
      read (y ∷ ys) (suc i) x e = let r = read ys i x e in omega (arith, r)

-- an entry that isn't there is past the end
pub none_past : {T : Type 0} (xs : List T) (i : ℕ) → slice_get xs i ≡ None → length xs ≤ i
none_past [] i e = omega arith
none_past (x ∷ xs) zero e = (cc)
none_past (x ∷ xs) (suc i) e = let r = none_past xs i e in omega (arith, r)

-- the first entries aren't longer than all
pub total_take_le : {T : Type 0} (size : T → ℕ) (xs : List T) (i : ℕ)
    → total_length size (take i xs) ≤ total_length size xs
total_take_le size xs i = before_le size xs i

total_take_suc : {T : Type 0} (size : T → ℕ) (xs : List T) (i : ℕ) (d : T) → i < length xs
    → total_length size (take (suc i) xs) ≡ total_length size (take i xs) + size (get_or xs i d)
total_take_suc size [] i d lt = absurd (omega arith)
total_take_suc size (x ∷ xs) zero d lt = omega arith
total_take_suc size (x ∷ xs) (suc i) d lt =
    let r = total_take_suc size xs i d (omega arith) in omega (arith, r)

-- one more entry
pub total_take_more : {T : Type 0} (size : T → ℕ) (xs : List T) (i : ℕ) (d : T) → i < length xs
    → total_length size (take (i + 1) xs) ≡ total_length size (take i xs) + size (get_or xs i d)
total_take_more size xs i d lt = rw add-one (total_take_suc size xs i d lt)

-- where entries replace others
module _ {T : Type 0} (size : T → ℕ) (xs news : List T) (i j : ℕ) (within : i ≤ length xs) where
  pub total-splice : total_length size (splice xs i j news)
      ≡ length_before size xs i + (total_length size news + total_length size (drop j xs))
  total-splice = total-append size (take i xs) (news ++ drop j xs)
      ∙ ap (λ n. length_before size xs i + n) (total-append size news (drop j xs))

  -- what starts behind the last of those that are put in
  pub before-splice : length_before size (splice xs i j news) (i + length news)
      ≡ length_before size xs i + total_length size news
  before-splice =
      let l : length (take i xs ++ news) ≡ i + length news = let a = length-append (take i xs) news in
      let b = length-take-le i xs within in omega (arith, a, b) in
      ap (total_length size) (ap (take (i + length news)) (sym (append_assoc (take i xs) news (drop j xs)))
      ∙ take_at (take i xs ++ news) (drop j xs) (i + length news) l) ∙ total-append size (take i xs) news

-- what a patch leaves, with the seat behind the fresh entries
module _ {T : Type 0} (size : T → ℕ) (xs : List T) (patch : Patch T) (among : LiesAmong xs patch)
    (short : total_length size (patched xs patch) < 2 ^ 64) where
  within_patch : patch.at ≤ length xs
  within_patch = let a : patch.at + patch.removed ≤ length xs = among in omega arith

  -- the fresh entries aren't longer than all that it leaves
  pub total_put : length_before size xs patch.at + total_length size patch.fresh < 2 ^ 64
  total_put = let s = total-splice size xs patch.fresh patch.at (patch.at + patch.removed) within_patch in
      omega (arith, s, short)

  pub placed_put : (now : Gapped T) (place : ℕ) → now.list ≡ patched xs patch
      → now.seat ≡ patch.at + length patch.fresh
      → place ≡ length_before size xs patch.at + total_length size patch.fresh → IsPlaced size now place
  placed_put now place is seat at =
      let all : length (patched xs patch)
      ≡ length (take patch.at xs) + (length patch.fresh + length (drop (patch.at + patch.removed) xs)) =
      length-append (take patch.at xs) (patch.fresh ++ drop (patch.at + patch.removed) xs)
      ∙ ap (λ n. length (take patch.at xs) + n)
      (length-append patch.fresh (drop (patch.at + patch.removed) xs)) in
      let front = length-take-le patch.at xs within_patch in
      let whole = ap length is in
      record {
        within = omega (arith, seat, all, front, whole);
        short = subst (λ l. total_length size l < 2 ^ 64) (sym is) short;
        placed = at ∙ sym (before-splice size xs patch.fresh patch.at (patch.at + patch.removed) within_patch)
            ∙ ap (length_before size (patched xs patch)) (sym seat)
            ∙ ap (λ l. length_before size l now.seat) (sym is);
      }

-- one entry in the place of another
set_as_splice : {T : Type 0} (xs : List T) (i : ℕ) (x : T) → i < length xs
    → slice_set xs i x ≡ splice xs i (suc i) (x ∷ [])
set_as_splice [] i x lt = absurd (omega arith)
set_as_splice (y ∷ ys) zero x lt = refl
set_as_splice (y ∷ ys) (suc i) x lt = ap (λ l. y ∷ l) (set_as_splice ys i x (omega arith))

pub set_splice : {T : Type 0} (xs : List T) (i : ℕ) (x : T) → i < length xs
    → slice_set xs i x ≡ splice xs i (i + 1) (x ∷ [])
set_splice xs i x lt =
    let e : suc i ≡ i + 1 = omega arith in set_as_splice xs i x lt ∙ ap (λ j. splice xs i j (x ∷ [])) e

-- what a list is with one entry in the place of another, and the seat behind it
module _ {T : Type 0} (size : T → ℕ) (xs : List T) (i : ℕ) (x : T) (within : i < length xs) where
  before_set : length_before size (slice_set xs i x) (i + 1) ≡ length_before size xs i + size x
  before_set =
      let one : size x + 0 ≡ size x = omega arith in
      ap (λ l. length_before size l (i + 1)) (set_splice xs i x within)
      ∙ before-splice size xs (x ∷ []) i (i + 1) (omega (arith, within))
      ∙ ap (λ n. length_before size xs i + n) one

  pub set_fits : total_length size (slice_set xs i x) < 2 ^ 64 → length_before size xs i + size x < 2 ^ 64
  set_fits short =
      let b = before_set in let l = before_le size (slice_set xs i x) (i + 1) in omega (arith, b, l, short)

  pub placed_set : total_length size (slice_set xs i x) < 2 ^ 64 → (now : Gapped T) (place : ℕ)
      → now.list ≡ slice_set xs i x → now.seat ≡ i + 1 → place ≡ length_before size xs i + size x
      → IsPlaced size now place
  placed_set short now place is seat at = record {
    within = let n = ap length is in let m = length-set xs i x in omega (arith, n, m, seat, within);
    short = subst (λ l. total_length size l < 2 ^ 64) (sym is) short;
    placed = at ∙ sym before_set ∙ ap (length_before size (slice_set xs i x)) (sym seat)
        ∙ ap (λ l. length_before size l now.seat) (sym is);
  }
