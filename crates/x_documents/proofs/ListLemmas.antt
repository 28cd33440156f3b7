-- Lists of which some entries are left out, from the last to the first.
use Rattle.std.proofs.Common.{◌≡◌, ℕ, suc, ◌+◌, ◌<◌, ◌≤◌, Bool, true, false, cond, List, [], ◌∷◌, ◌++◌}
use Rattle.std.proofs.Common.{length, take, drop, get_or, arith, sym, ap, ◌∙◌, append_assoc}
use Rattle.std.specs.Prelude.{filter, remove}
use Rattle.std.proofs.lemmas.List.{length-take-le, get_or_append_left, get_or-take}
use Rattle.std.proofs.Math.Seq.{drop-cons, take-append_seam, drop-append-add, take-suc}

module _ {X : Type 0} (p : X → Bool) where
  -- what stands before a place, and behind it what passes
  abbrev pub kept_from : List X → ℕ → List X
  kept_from old at = take at old ++ filter p (drop at old)

  parted : (old : List X) (at : ℕ) (x : X) → at < length old → x ≡ get_or old at x
      → kept_from old (at + 1) ≡ take at old ++ x ∷ filter p (drop (at + 1) old)
  parted old at x lt is =
      let next : at + 1 ≡ suc at = omega arith in
      let front : take (at + 1) old ≡ take at old ++ x ∷ [] = ap (λ k. take k old) next
      ∙ take-suc old at x lt ∙ ap (λ y. take at old ++ y ∷ []) (sym is) in
      ap (λ l. l ++ filter p (drop (at + 1) old)) front
      ∙ append_assoc (take at old) (x ∷ []) (filter p (drop (at + 1) old))

  behind : (old : List X) (at : ℕ) (x : X) → at < length old → x ≡ get_or old at x
      → drop at old ≡ x ∷ drop (at + 1) old
  behind old at x lt is =
      let next : suc at ≡ at + 1 = omega arith in
      drop-cons old at x lt ∙ (λ i. sym is i ∷ drop (next i) old)

  -- an entry that passes stays
  pub passed : (old : List X) (at : ℕ) (x : X) → at < length old → x ≡ get_or old at x → p x ≡ true
      → kept_from old (at + 1) ≡ kept_from old at
  passed old at x lt is yes_is =
      parted old at x lt is
      ∙ ap (λ l. take at old ++ l) (sym (ap (filter p) (behind old at x lt is)
      ∙ ap (λ t. cond t (x ∷ filter p (drop (at + 1) old)) (filter p (drop (at + 1) old))) yes_is))

  -- one that does not is taken out
  pub failed : (old : List X) (at : ℕ) (x : X) → at < length old → x ≡ get_or old at x → p x ≡ false
      → remove (kept_from old (at + 1)) at ≡ kept_from old at
  failed old at x lt is no_is =
      let front = take at old in
      let rest = filter p (drop (at + 1) old) in
      let len : length front ≡ at = length-take-le at old (omega arith) in
      let one : take at (front ++ x ∷ rest) ≡ front = ap (λ k. take k (front ++ x ∷ rest)) (sym len)
      ∙ take-append_seam front (x ∷ rest) in
      let next : suc at ≡ length front + 1 = omega (arith, len) in
      let two : drop (suc at) (front ++ x ∷ rest) ≡ rest = ap (λ k. drop k (front ++ x ∷ rest)) next
      ∙ drop-append-add front (x ∷ rest) 1 in
      ap (λ l. remove l at) (parted old at x lt is) ∙ (λ i. one i ++ two i)
      ∙ ap (λ l. front ++ l) (sym (ap (filter p) (behind old at x lt is)
      ∙ ap (λ t. cond t (x ∷ rest) rest) no_is))

  -- the entry at a place, by the list in which those behind it were looked at
  pub seen : (old items : List X) (at k : ℕ) (x : X) → k + 1 ≡ at → at ≤ length old
      → items ≡ kept_from old at → x ≡ get_or items k x → x ≡ get_or old k x
  seen old items at k x next le items_is x_is =
      let len : length (take at old) ≡ at = length-take-le at old le in
      x_is ∙ ap (λ l. get_or l k x) items_is ∙ get_or_append_left (take at old) (filter p (drop at old)) x k
      (omega (arith, len, next)) ∙ get_or-take at old k x (omega (arith, next))

  pub gone : (old items : List X) (at k : ℕ) (x : X) → k + 1 ≡ at → at ≤ length old
      → items ≡ kept_from old at → x ≡ get_or items k x → p x ≡ false → remove items k ≡ kept_from old k
  gone old items at k x next le items_is x_is out =
      ap (λ l. remove l k) (items_is ∙ ap (kept_from old) (sym next))
      ∙ failed old k x (omega (arith, next, le)) (seen old items at k x next le items_is x_is) out

  pub stays : (old items : List X) (at k : ℕ) (x : X) → k + 1 ≡ at → at ≤ length old
      → items ≡ kept_from old at → x ≡ get_or items k x → p x ≡ true → items ≡ kept_from old k
  stays old items at k x next le items_is x_is kept =
      items_is ∙ ap (kept_from old) (sym next) ∙ passed old k x (omega (arith, next, le))
      (seen old items at k x next le items_is x_is) kept
