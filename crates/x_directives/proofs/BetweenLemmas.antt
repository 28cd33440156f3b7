-- What two lists have in common at the front and at the rear.
use Rattle.std.proofs.Common.{◌≡◌, ℕ, ◌+◌, ◌-◌, ◌<◌, ◌≤◌, List, [], ◌∷◌, ◌++◌, length, take, drop, get_or}
use Rattle.std.proofs.Common.{arith, sym, ap, ◌∙◌, append_assoc, slice_range, length-drop}
use Rattle.std.proofs.lemmas.List.{take-append-drop, drop-drop, drop_more}
use Rattle.std.proofs.Math.Seq.{take-add}

-- more in common at the front
pub more_in_front : (old new : List ℕ) (same n : ℕ) → take same old ≡ take same new
    → take n (drop same old) ≡ take n (drop same new) → take (same + n) old ≡ take (same + n) new
more_in_front old new same n front more =
    take-add same n old ∙ (λ i. front i ++ more i) ∙ sym (take-add same n new)

-- a block before the rear joins it
joined : (text : List ℕ) (same n : ℕ) → same + n ≤ length text
    → drop (length text - (same + n)) text
    ≡ take n (drop (length text - same - n) text) ++ drop (length text - same) text
joined text same n fits =
    let at = length text - same - n in
    let here : length text - (same + n) ≡ at = omega arith in
    let next : at + n ≡ length text - same = omega arith in
    ap (λ k. drop k text) here
    ∙ sym (take-append-drop n (drop at text))
    ∙ ap (λ l. take n (drop at text) ++ l) (drop-drop n at text ∙ ap (λ k. drop k text) next)

-- more in common at the rear
pub more_at_rear : (old new : List ℕ) (same n : ℕ) → same + n ≤ length old → same + n ≤ length new
    → drop (length old - same) old ≡ drop (length new - same) new
    → take n (drop (length old - same - n) old) ≡ take n (drop (length new - same - n) new)
    → drop (length old - (same + n)) old ≡ drop (length new - (same + n)) new
more_at_rear old new same n in_old in_new rear more =
    joined old same n in_old ∙ (λ i. more i ++ rear i) ∙ sym (joined new same n in_new)

-- one byte is a list of one
pub one_at : (text : List ℕ) (at : ℕ) → at < length text → take 1 (drop at text) ≡ get_or text at 0 ∷ []
one_at text at lt = ap (take 1) (drop_more text at 0 lt)

pub one_same : (old new : List ℕ) (i j : ℕ) → i < length old → j < length new
    → get_or old i 0 ≡ get_or new j 0 → take 1 (drop i old) ≡ take 1 (drop j new)
one_same old new i j in_old in_new same =
    one_at old i in_old ∙ ap (λ b. b ∷ []) same ∙ sym (one_at new j in_new)

-- what lies between the front and the rear makes the one of the other
module _ (old new : List ℕ) (start rear : ℕ) where
  pub makes_new : (insert rest rest' : List ℕ) → start ≤ length old → start ≤ length new
      → take start old ≡ take start new → rest ≡ drop start old → rest' ≡ drop start new
      → rear ≤ length rest → rear ≤ length rest'
      → drop (length rest - rear) rest ≡ drop (length rest' - rear) rest'
      → insert ≡ slice_range new start (length new - rear)
      → take start old ++ insert ++ drop (length old - rear) old ≡ new
  makes_new insert rest rest' in_old in_new front rest_is rest_is' rear_old rear_new same insert_is =
      let n = length rest - rear in
      let m = length rest' - rear in
      let size : length rest ≡ length old - start = ap length rest_is ∙ length-drop start old in
      let size' : length rest' ≡ length new - start = ap length rest_is' ∙ length-drop start new in
      let at : length old - rear ≡ start + n = omega arith in
      let count : length new - rear - start ≡ m = omega arith in
      let behind : drop (length old - rear) old ≡ drop m rest' =
      ap (λ k. drop k old) at ∙ sym (drop-drop n start old) ∙ ap (drop n) (sym rest_is) ∙ same in
      let mid : insert ≡ take m rest' =
      insert_is ∙ ap (λ k. take k (drop start new)) count ∙ ap (take m) (sym rest_is') in
      (λ i. (front i ++ mid i) ++ behind i)
      ∙ append_assoc (take start new) (take m rest') (drop m rest')
      ∙ ap (λ l. take start new ++ l) (take-append-drop m rest' ∙ rest_is')
      ∙ take-append-drop start new
