-- How an edit is carried out in place, and in another buffer.
use Rattle.std.proofs.Common.{◌≡◌, ℕ, ◌+◌, ◌-◌, ◌<◌, ◌≤◌, min, List, ◌++◌, length, take, drop, arith, sym, ap}
use Rattle.std.proofs.Common.{◌∙◌, length-append, length-take-le}
use Rattle.std.proofs.Math.Seq.{take-append_seam, take-length}
use Rattle.std.proofs.lemmas.List.{take-take, take-append-drop}
use Rattle.std.proofs.lemmas.Slice.{drop-append-drop, between_is}
use Rattle.x_text.specs.Edits.{Change, edited_by, LiesWithin}

-- where fewer bytes take the place of more: these are written over
-- the first of the others, and what is left of those is taken out
pub closed : (change : Change) (mid new front : List ℕ) (over : ℕ) → LiesWithin change
    → change.start + over < change.end → over ≡ min (length change.insert) (change.end - change.start)
    → front ≡ take over change.insert
    → mid ≡ take change.start change.old ++ front ++ drop (change.start + length front) change.old
    → new ≡ take (change.start + over) mid ++ drop change.end mid → new ≡ edited_by change
closed change mid new front over lies left over_is front_is mid_is new_is =
    let text = change.old in
    let start = change.start in
    let end = change.end in
    let insert = change.insert in
    let forward = lies.forward in
    let within = lies.within in
    let whole : over ≡ length insert = omega (arith, left, over_is) in
    let same : front ≡ insert = front_is ∙ ap (λ n. take n insert) whole ∙ take-length insert in
    let written = take start text ++ front in
    let size : length written ≡ start + over =
    omega (
      arith,
      forward,
      within,
      left,
      length-append (take start text) front,
      length-take-le start text (omega (arith, forward, within)),
      ap length same,
      whole,
    ) in
    let at : start + length front ≡ start + over = omega (arith, ap length same, whole) in
    let mid_at : mid ≡ written ++ drop (start + over) text = mid_is ∙ ap (λ n. written ++ drop n text) at in
    let before : take (start + over) mid ≡ written = ap (take (start + over)) mid_at
    ∙ ap (λ n. take n (written ++ drop (start + over) text)) (sym size)
    ∙ take-append_seam written (drop (start + over) text) in
    let behind : drop end mid ≡ drop end text = ap (drop end) mid_at
    ∙ drop-append-drop (start + over) text written end (omega (arith, left)) size in
    new_is ∙ (λ i. before i ++ behind i) ∙ ap (λ l. (take start text ++ l) ++ drop end text) same

-- first bytes, and those that follow them up to a place
front_joined : (xs : List ℕ) (i j : ℕ) → i ≤ j → take i xs ++ take (j - i) (drop i xs) ≡ take j xs
front_joined xs i j le =
    ap (λ l. l ++ take (j - i) (drop i xs)) (sym (take-take i j xs le))
    ∙ ap (λ l. take i (take j xs) ++ l) (between_is xs i j)
    ∙ take-append-drop i (take j xs)

-- where first bytes are there, what follows them up to the change
-- comes, then what the change inserts, and then what stands behind it
pub joined : (change : Change) (kept : ℕ) (first front whole new : List ℕ) → kept ≤ change.start
    → first ≡ take kept change.old → front ≡ first ++ take (change.start - kept) (drop kept change.old)
    → whole ≡ front ++ change.insert → new ≡ whole ++ drop change.end change.old → new ≡ edited_by change
joined change kept first front whole new before first_is front_is whole_is new_is =
    let start : front ≡ take change.start change.old = front_is
    ∙ ap (λ l. l ++ take (change.start - kept) (drop kept change.old)) first_is
    ∙ front_joined change.old kept change.start before in
    new_is ∙ ap (λ l. l ++ drop change.end change.old) (whole_is ∙ ap (λ l. l ++ change.insert) start)
