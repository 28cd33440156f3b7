-- How many tokens items have together.
use Rattle.std.proofs.Common.{◌≡◌, ℕ, zero, suc, ◌+◌, ◌≤◌, ◌<◌, List, [], ◌∷◌, ◌++◌, length, get_or, take}
use Rattle.std.proofs.Common.{drop, Some, arith, refl, sym, ap, ◌∙◌, add-one}
use Rattle.std.specs.Prelude.{IfSome, slice_get, slice_set}
use Rattle.std.specs.List.{splice}
use Rattle.std.proofs.lemmas.List.{map-append, take-map, drop-map, map-set}
use Rattle.x_lists.specs.Lengths.{total_length, length_before}
use Rattle.x_cutting.specs.declared.cutting.item_entry.ItemEntry.{ItemEntry}
use Rattle.x_cutting.specs.ItemList.{total, byte_counts, counts, kept, tokens_in, tokens_before}

pub total-append : (cs ds : List ℕ) → total (cs ++ ds) ≡ total cs + total ds
total-append [] ds = omega arith
total-append (c ∷ cs) ds = let r = total-append cs ds in omega (arith, r)

pub before_le : (cs : List ℕ) (i : ℕ) → tokens_before cs i ≤ total cs
before_le cs zero = omega arith
before_le [] (suc i) = omega arith
before_le (c ∷ cs) (suc i) = let r = before_le cs i in omega (arith, r)

pub before_mono : (cs : List ℕ) (i j : ℕ) → i ≤ j → tokens_before cs i ≤ tokens_before cs j
before_mono cs zero j le = omega arith
before_mono cs (suc i) zero le = absurd (omega arith)
before_mono [] (suc i) (suc j) le = omega arith
before_mono (c ∷ cs) (suc i) (suc j) le = let r = before_mono cs i j (omega arith) in omega (arith, r)

pub before_all : (cs : List ℕ) (i : ℕ) → length cs ≤ i → tokens_before cs i ≡ total cs
before_all [] zero le = refl
before_all [] (suc i) le = refl
before_all (c ∷ cs) zero le = absurd (omega arith)
before_all (c ∷ cs) (suc i) le = ap (λ n. c + n) (before_all cs i (omega arith))

before_suc : (cs : List ℕ) (i : ℕ) (d : ℕ) → i < length cs
    → tokens_before cs (suc i) ≡ tokens_before cs i + get_or cs i d
before_suc [] i d lt = absurd (omega arith)
before_suc (c ∷ cs) zero d lt = omega arith
before_suc (c ∷ cs) (suc i) d lt = let r = before_suc cs i d (omega arith) in omega (arith, r)

pub before_more : (cs : List ℕ) (i : ℕ) (d : ℕ) → i < length cs
    → tokens_before cs (i + 1) ≡ tokens_before cs i + get_or cs i d
before_more cs i d lt = rw add-one (before_suc cs i d lt)

-- the tokens of entries
module _ {K : Type 0} where
  -- what replaces entries replaces their counts
  pub counts-splice : (xs ys : List (ItemEntry K)) (i j : ℕ)
      → counts (splice xs i j ys) ≡ splice (counts xs) i j (counts ys)
  counts-splice xs ys i j =
      let f = λ (e : ItemEntry K). e.tokens in
      map-append f (take i xs) (ys ++ drop j xs)
      ∙ ap (λ l. l ++ counts (ys ++ drop j xs)) (sym (take-map f i xs))
      ∙ ap (λ l. take i (counts xs) ++ l) (map-append f ys (drop j xs)
      ∙ ap (λ l. counts ys ++ l) (sym (drop-map f j xs)))

  -- the tokens of entries are those of their counts
  total_counts_suc : (xs : List (ItemEntry K)) (i : ℕ)
      → length_before tokens_in xs i ≡ tokens_before (counts xs) i
  total_counts_suc xs zero = refl
  total_counts_suc [] (suc i) = refl
  total_counts_suc (x ∷ xs) (suc i) = ap (λ n. x.tokens + n) (total_counts_suc xs i)

  pub before_as : (xs ys : List (ItemEntry K)) (i : ℕ) → xs ≡ ys
      → length_before tokens_in xs i ≡ tokens_before (counts ys) i
  before_as xs ys i same = total_counts_suc xs i ∙ ap (λ l. tokens_before (counts l) i) same

  pub total_as : (xs ys : List (ItemEntry K)) → xs ≡ ys → total_length tokens_in xs ≡ total (counts ys)
  total_as xs ys same = by xs ∙ ap (λ l. total (counts l)) same
    where
      by : (xs : List (ItemEntry K)) → total_length tokens_in xs ≡ total (counts xs)
      by [] = refl
      by (x ∷ xs) = ap (λ n. x.tokens + n) (by xs)

  -- an item that has as many tokens, in the place of another
  pub counts_set : (xs : List (ItemEntry K)) (i : ℕ) (new : ItemEntry K) → i < length xs
      → IfSome (slice_get xs i) (λ old. new.tokens ≡ old.tokens) → counts (slice_set xs i new) ≡ counts xs
  counts_set [] i new lt same = absurd (omega arith)
  counts_set (x ∷ xs) zero new lt same = ap (λ n. n ∷ counts xs) same
  counts_set (x ∷ xs) (suc i) new lt same = ap (λ l. x.tokens ∷ l) (counts_set xs i new (omega arith) same)

  -- one that has as many bytes
  pub bytes_same : (xs : List (ItemEntry K)) (i : ℕ) (new : ItemEntry K) → i < length xs
      → IfSome (slice_get xs i) (λ old. new.bytes ≡ old.bytes)
      → byte_counts (slice_set xs i new) ≡ byte_counts xs
  bytes_same [] i new lt same = absurd (omega arith)
  bytes_same (x ∷ xs) zero new lt same = ap (λ n. n ∷ byte_counts xs) same
  bytes_same (x ∷ xs) (suc i) new lt same = ap (λ l. x.bytes ∷ l) (bytes_same xs i new (omega arith) same)

  pub bytes_set : (xs : List (ItemEntry K)) (i : ℕ) (new : ItemEntry K)
      → byte_counts (slice_set xs i new) ≡ slice_set (byte_counts xs) i new.bytes
  bytes_set xs i new = map-set (λ (e : ItemEntry K). e.bytes) xs i new

  pub kept_set : (xs : List (ItemEntry K)) (i : ℕ) (new : ItemEntry K)
      → kept (slice_set xs i new) ≡ slice_set (kept xs) i new.kept
  kept_set xs i new = map-set (λ (e : ItemEntry K). e.kept) xs i new

  pub kept_get : (xs : List (ItemEntry K)) (i : ℕ) (x : ItemEntry K) → slice_get xs i ≡ Some x
      → slice_get (kept xs) i ≡ Some x.kept
  kept_get [] i x e = (cc)
  kept_get (y ∷ ys) zero x e = let f : y ≡ x = (cc) in ap (λ (v : ItemEntry K). Some v.kept) f
  kept_get (y ∷ ys) (suc i) x e = kept_get ys i x e
