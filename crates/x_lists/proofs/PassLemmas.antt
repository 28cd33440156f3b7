-- The first entries of two stacks are passed over.
use Rattle.std.proofs.Common.{◌≡◌, ℕ, ◌+◌, ◌-◌, ◌^◌, ◌<◌, min, ⊎_elim, List, [], ◌∷◌, ◌++◌, reverse, length}
use Rattle.std.proofs.Common.{take, drop, arith, refl, sym, ap, ◌∙◌, length-append, length-take-le}
use Rattle.std.proofs.lemmas.List.{take-append-drop, reverse-append, length-reverse, drop_all}
use Rattle.std.proofs.lemmas.Bool.{cases_lt}
use Rattle.x_lists.specs.Lengths.{total_length, length_before}
use Rattle.x_lists.proofs.LengthLemmas.{total-append}
use Rattle.x_lists.proofs.SeqLemmas.{walked}

module _ {T : Type 0} (size : T → ℕ) where
  total-reverse : (xs : List T) → total_length size (reverse xs) ≡ total_length size xs
  total-reverse [] = refl
  total-reverse (x ∷ xs) =
      let split = ap (total_length size) (reverse-append (x ∷ []) xs)
      ∙ total-append size (reverse xs) (x ∷ []) in
      let same = total-reverse xs in
      omega (arith, split, same)

  total-split : (xs : List T) (i : ℕ)
      → total_length size (take i xs) + total_length size (drop i xs) ≡ total_length size xs
  total-split xs i = sym (total-append size (take i xs) (drop i xs))
      ∙ ap (total_length size) (take-append-drop i xs)

  -- where the first m of the front are passed over, and all but the first k of the rear
  module _ (front rear passed others : List T) (count m k : ℕ) (m_is : m ≡ min count (length front))
      (passed_is : passed ≡ take m front)
      (k_is : k ≡ length rear - (count - length passed)) (others_is : others ≡ drop k rear) where
    kept : k ≡ length rear - (count - m)
    kept = let taken = ap length passed_is ∙ length-take-le m front (omega (arith, m_is)) in
        omega (arith, k_is, taken)

    pub passed_left : drop m front ++ reverse (take k rear) ≡ drop count (front ++ reverse rear)
    passed_left =
        ⊎_elim
        (λ within. walked front rear count (length front) k m (omega (arith, within)) refl m_is
        (let is = kept in omega (arith, within, m_is, is)))
        (λ past.
        let is = kept in
        let all = length-append front (reverse rear) in
        let turned = length-reverse rear in
        let none : k ≡ 0 = omega (arith, past, m_is, is) in
        let gone : drop m front ≡ [] = drop_all m front (omega (arith, past, m_is)) in
        (λ i. gone i ++ reverse (ap (λ n. take n rear) none i))
        ∙ sym (drop_all count (front ++ reverse rear) (omega (arith, past, all, turned))))
        (cases_lt count (length front + length rear))

    pub passed_total : total_length size passed + total_length size others
        ≡ length_before size (front ++ reverse rear) count
    passed_total =
        let first = ap (total_length size) passed_is in
        let last = ap (total_length size) others_is in
        let one = total-split front m in
        let two = total-split rear k in
        let three = total-split (front ++ reverse rear) count in
        let left = sym (total-append size (drop m front) (reverse (take k rear)))
        ∙ ap (total_length size) passed_left in
        let turned = total-reverse (take k rear) in
        let whole = total-append size front (reverse rear) in
        let rest = total-reverse rear in
        omega (arith, first, last, one, two, three, left, turned, whole, rest)

    pub passed_short : total_length size (front ++ reverse rear) < 2 ^ 64
        → total_length size passed + total_length size others < 2 ^ 64
    passed_short short =
        let total = passed_total in
        let all = total-split (front ++ reverse rear) count in
        omega (arith, short, total, all)
