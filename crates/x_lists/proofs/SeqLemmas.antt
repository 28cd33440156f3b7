-- Two stacks as one list, seen from the other end, and with a run replaced at the seat.
use Rattle.std.proofs.Common.{◌≡◌, ℕ, zero, suc, ◌+◌, ◌-◌, ◌<◌, ◌≤◌, min, ⊎_elim, List, [], ◌∷◌, ◌++◌, take}
use Rattle.std.proofs.Common.{drop, length, reverse, refl, sym, ap, ◌∙◌, arith, length-append, length-drop}
use Rattle.std.proofs.Common.{length-take-le}
use Rattle.std.specs.Prelude.{Some, slice_get, slice_set}
use Rattle.std.specs.List.{splice}
use Rattle.std.proofs.lemmas.Bool.{cases_lt}
use Rattle.std.proofs.Math.Seq.{take-append_seam}
use Rattle.std.proofs.lemmas.List.{append_assoc, drop_all, take_all, drop_at, reverse-append, reverse-reverse}
use Rattle.std.proofs.lemmas.List.{length-reverse, take-append-drop, take-append-le}

other_end : {X : Type 0} → (a b : List X) → reverse (a ++ reverse b) ≡ b ++ reverse a
other_end a b = reverse-append a (reverse b) ∙ ap (λ t. t ++ reverse a) (reverse-reverse b)

-- what two stacks hold from one end, they hold from the other
pub turned : {X : Type 0} → (a b c d : List X) → a ++ reverse b ≡ c ++ reverse d
    → b ++ reverse a ≡ d ++ reverse c
turned a b c d e = sym (other_end a b) ∙ ap reverse e ∙ other_end c d

-- a stack's lowest entries are the last of the list that it stands for
pub reverse-take : {X : Type 0} → (xs : List X) (n : ℕ) → n ≤ length xs
    → reverse (take n xs) ≡ drop (length xs - n) (reverse xs)
reverse-take xs n l =
    let e : reverse xs ≡ reverse (drop n xs) ++ reverse (take n xs) = ap reverse (sym (take-append-drop n xs))
    ∙ reverse-append (take n xs) (drop n xs) in
    let m : length (reverse (drop n xs)) ≡ length xs - n = length-reverse (drop n xs) ∙ length-drop n xs in
    sym (ap (drop (length xs - n)) e ∙ drop_at (reverse (drop n xs)) (reverse (take n xs)) (length xs - n) m)

drop_part : {X : Type 0} → (xs ys : List X) (m : ℕ) → drop (length xs + m) (xs ++ ys) ≡ drop m ys
drop_part [] ys m =
    let e : zero + m ≡ m = omega arith in
    ap (λ n. drop n ys) e
drop_part (x ∷ xs) ys m =
    let e : suc (length xs) + m ≡ suc (length xs + m) = omega arith in
    ap (λ n. drop n (x ∷ (xs ++ ys))) e ∙ drop_part xs ys m

-- the seat stands within the removed range: its part before the seat
-- goes from the top of one stack, the other from the top of the other
pub spliced : {X : Type 0} → (front rear last cut new list : List X) (at end middle : ℕ)
    → front ++ reverse rear ≡ list → length front ≡ middle → at ≤ middle → middle ≤ end → end ≤ length list
    → last ≡ take at front ++ new → cut ≡ take (length rear - (end - middle)) rear
    → last ++ reverse cut ≡ splice list at end new
spliced front rear last cut new list at end middle e lf lo hi w el ec =
    let total : length front + length rear ≡ length list =
    omega (arith, length-append front (reverse rear), length-reverse rear, ap length e) in
    let n : end - middle ≤ length rear = omega arith in
    let q : length rear - (length rear - (end - middle)) ≡ end - middle = omega arith in
    let r : reverse cut ≡ drop (end - middle) (reverse rear) = ap reverse ec
    ∙ reverse-take rear (length rear - (end - middle)) (omega arith) ∙ ap (λ k. drop k (reverse rear)) q in
    let t : take at list ≡ take at front = ap (take at) (sym e)
    ∙ take-append-le at front (reverse rear) (omega arith) in
    let k : end ≡ length front + (end - middle) = omega arith in
    let d : drop end list ≡ drop (end - middle) (reverse rear) = ap (drop end) (sym e)
    ∙ ap (λ i. drop i (front ++ reverse rear)) k ∙ drop_part front (reverse rear) (end - middle) in
    rw (el, r, t, d) (append_assoc (take at front) new (drop (end - middle) (reverse rear)))

pub drop_front : {X : Type 0} → (xs ys : List X) (m : ℕ) → m ≤ length xs → drop m (xs ++ ys) ≡ drop m xs ++ ys
drop_front xs ys zero le = refl
drop_front [] ys (suc m) le = absurd (omega arith)
drop_front (x ∷ xs) ys (suc m) le = drop_front xs ys m (omega arith)

-- two stacks from an index on: what is left of each
pub walked : {X : Type 0} → (front rear : List X) (index seat k m : ℕ) → index ≤ length front + length rear
    → seat ≡ length front → m ≡ min index seat → k ≡ length rear - (index - seat)
    → drop m front ++ reverse (take k rear) ≡ drop index (front ++ reverse rear)
walked front rear index seat k m within seat_is m_is k_is =
    ⊎_elim
    (λ less.
    let all : k ≡ length rear = omega (arith, less, k_is) in
    let at : m ≡ index = omega (arith, less, m_is) in
    (λ i. drop (at i) front
    ++ reverse ((ap (λ n. take n rear) all ∙ take_all (length rear) rear (omega arith)) i))
    ∙ sym (drop_front front (reverse rear) index (omega (arith, less, seat_is))))
    (λ more.
    let at : m ≡ length front = omega (arith, more, m_is, seat_is) in
    let same : k ≡ length rear - (index - length front) = omega (arith, k_is, seat_is) in
    let back : length rear - (length rear - (index - length front)) ≡ index - length front =
    omega (arith, within, more, seat_is) in
    let whole : index ≡ length front + (index - length front) = omega (arith, more, seat_is) in
    let empty : drop m front ≡ [] = drop_all m front (omega (arith, at)) in
    let rest : reverse (take k rear) ≡ drop (index - length front) (reverse rear) =
    ap (λ n. reverse (take n rear)) same ∙ reverse-take rear (length rear - (index - length front))
    (omega arith) ∙ ap (λ n. drop n (reverse rear)) back in
    (λ i. empty i ++ rest i) ∙ sym (ap (λ n. drop n (front ++ reverse rear)) whole
    ∙ drop_part front (reverse rear) (index - length front)))
    (cases_lt index seat)

-- an entry of the first of two lists
pub set_front : {X : Type 0} → (xs ys : List X) (i : ℕ) (x : X) → i < length xs
    → slice_set (xs ++ ys) i x ≡ slice_set xs i x ++ ys
set_front [] ys i x lt = absurd (omega arith)
set_front (y ∷ xs) ys zero x lt = refl
set_front (y ∷ xs) ys (suc i) x lt = ap (λ l. y ∷ l) (set_front xs ys i x (omega arith))

-- the entry at an index, which stands on top of the second of two stacks, goes, and another one comes
pub record HasExchanged {X : Type 0} (list front left : List X) (at : ℕ) (out new : X) : Type 0 where
  pub out_is : slice_get list at ≡ Some out
  pub put_is : (front ++ new ∷ []) ++ reverse left ≡ slice_set list at new

get_seam : {X : Type 0} → (xs ys : List X) (y : X) → slice_get (xs ++ y ∷ ys) (length xs) ≡ Some y
get_seam [] ys y = refl
get_seam (x ∷ xs) ys y = get_seam xs ys y

set_seam : {X : Type 0} → (xs ys : List X) (y z : X) → slice_set (xs ++ y ∷ ys) (length xs) z ≡ xs ++ z ∷ ys
set_seam [] ys y z = refl
set_seam (x ∷ xs) ys y z = ap (λ l. x ∷ l) (set_seam xs ys y z)

pub has_exchanged : {X : Type 0} → (list front rear left : List X) (at : ℕ) (out new : X)
    → front ++ reverse rear ≡ list → length front ≡ at → rear ≡ left ++ out ∷ []
    → HasExchanged list front left at out new
has_exchanged list front rear left at out new whole seat top =
    let list_is : list ≡ front ++ out ∷ reverse left =
    sym whole ∙ ap (λ r. front ++ reverse r) top ∙ ap (λ r. front ++ r) (reverse-append left (out ∷ [])) in
    record {
      out_is = (λ i. slice_get (list_is i) (sym seat i)) ∙ get_seam front (reverse left) out;
      put_is = append_assoc front (new ∷ []) (reverse left)
          ∙ sym (set_seam front (reverse left) out new)
          ∙ (λ i. slice_set (sym list_is i) (seat i) new);
    }

-- in one list: the kept entries go before the removed ones, which are cut off, and then behind the new ones
pub replaced : {X : Type 0} → (list turned kept whole last new : List X) (at remove moved : ℕ)
    → at + remove ≤ length list → moved ≡ length list - (at + remove)
    → turned ≡ take at list ++ (drop (at + remove) list ++ take remove (drop at list))
    → kept ≡ take (at + moved) turned → whole ≡ kept ++ new
    → last ≡ take at whole ++ (drop (at + moved) whole ++ take moved (drop at whole))
    → last ≡ splice list at (at + remove) new
replaced list turned kept whole last new at remove moved within moved_is turned_is kept_is whole_is last_is =
    let front = take at list in
    let behind = drop (at + remove) list in
    let gone = take remove (drop at list) in
    let front_length : length front ≡ at = length-take-le at list (omega arith) in
    let behind_length : length behind ≡ moved = length-drop (at + remove) list ∙ sym moved_is in
    let both : length (front ++ behind) ≡ at + moved = omega (arith, length-append front behind) in
    let left : kept ≡ front ++ behind = kept_is
    ∙ ap (take (at + moved)) (turned_is ∙ sym (append_assoc front behind gone))
    ∙ ap (λ n. take n ((front ++ behind) ++ gone)) (sym both) ∙ take-append_seam (front ++ behind) gone in
    let all : whole ≡ (front ++ behind) ++ new = whole_is ∙ ap (λ t. t ++ new) left in
    let parts : whole ≡ front ++ (behind ++ new) = all ∙ append_assoc front behind new in
    let first : take at whole ≡ front = ap (take at) parts
    ∙ ap (λ n. take n (front ++ (behind ++ new))) (sym front_length)
    ∙ take-append_seam front (behind ++ new) in
    let rest : drop at whole ≡ behind ++ new = ap (drop at) parts
    ∙ drop_at front (behind ++ new) at front_length in
    let middle : take moved (drop at whole) ≡ behind = ap (take moved) rest
    ∙ ap (λ n. take n (behind ++ new)) (sym behind_length) ∙ take-append_seam behind new in
    let put : drop (at + moved) whole ≡ new = ap (drop (at + moved)) all
    ∙ drop_at (front ++ behind) new (at + moved) both in
    last_is ∙ (λ i. first i ++ (put i ++ middle i))
