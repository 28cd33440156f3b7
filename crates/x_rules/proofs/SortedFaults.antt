-- Faults looked up in their order.
use Rattle.std.specs.Prelude.{nat_le, nat_lt, ◌&&◌, ◌||◌}
use Rattle.std.proofs.Common.{◌≡◌, ℕ, zero, suc, ◌+◌, ◌-◌, ◌^◌, min, ◌<◌, ◌≤◌, length, get_or, ◌⊎◌, inl, inr}
use Rattle.std.proofs.Common.{Bool, true, false, List, [], ◌∷◌, arith, refl, sym, ap, subst, ◌∙◌}
use Rattle.std.proofs.lemmas.Bool.{cases_lt}
use Rattle.std.proofs.lemmas.Bool.Decides.{nat_tests}
use Rattle.std.proofs.lemmas.List.Elements.{All-from_all_within}
use Rattle.std.proofs.lemmas.List.Folds.{list_any_at, list_any_none}
use Rattle.std.proofs.lemmas.List.Sorted.{IsNonDecreasingBy-from_all_adjacent}
use Rattle.std.specs.List.Sorted.{IsNonDecreasingBy, IsPartitionPoint}
use Rattle.x_rules.specs.Cases.{has_fault}
use Rattle.x_rules.specs.Rules.{IsBefore, Ascends}
use Rattle.x_rules.specs.declared.fault.WordFault.{WordFault}

before_word : (f g : WordFault) → IsBefore f g → f.word ≤ g.word
before_word f g (inl a) = omega (arith, a)
before_word f g (inr a) = let e = a.0 in omega (arith, e)

rising : (fs : List WordFault) → Ascends fs → (k : ℕ) (d : WordFault) → suc k < length fs
    → (get_or fs k d).word ≤ (get_or fs (suc k) d).word
rising [] h k d lt = absurd (omega (arith, lt))
rising (f ∷ []) h k d lt = absurd (omega (arith, lt))
rising (f ∷ g ∷ rest) h zero d lt = before_word f g h.0
rising (f ∷ g ∷ rest) h (suc k) d lt = rising (g ∷ rest) h.1 k d (omega (arith, lt))

pub words_rise : (fs : List WordFault) → Ascends fs → IsNonDecreasingBy (λ f. f.word) fs
words_rise fs up = IsNonDecreasingBy-from_all_adjacent (λ f. f.word) fs
    (λ k d lt. step k d (omega (arith, lt)))
  where
    step : (k : ℕ) (d : WordFault) → suc k < length fs → (get_or fs k d).word ≤ (get_or fs (k + 1) d).word
    step k d lt = let next : suc k ≡ k + 1 = omega arith in
        subst (λ j. (get_or fs k d).word ≤ (get_or fs j d).word) next (rising fs up k d lt)

-- a fault stands at a word from one to before another
pub inside : (from to word : ℕ) → from ≤ word → word < to → (nat_le from word && nat_lt word to) ≡ true
inside from to word le lt = grind (arith, nat_tests)

short : (from to word : ℕ) → word < from → (nat_le from word && nat_lt word to) ≡ false
short from to word lt = grind (arith, nat_tests)

pub within : (from to word : ℕ) → (nat_le from word && nat_lt word to) ≡ true → (from ≤ word) × (word < to)
within from to word e = (grind (arith, nat_tests), grind (arith, nat_tests))

far : (from to word : ℕ) → to ≤ word → (nat_le from word && nat_lt word to) ≡ false
far from to word le = grind (arith, nat_tests)

below : (word from : ℕ) → nat_lt word from ≡ true → word < from
below word from e = grind (arith, nat_tests)

not_below : (word from : ℕ) → nat_lt word from ≡ false → from ≤ word
not_below word from e = grind (arith, nat_tests)

-- the first fault from a word on, by which it is known whether one stands before another word
abbrev pub IsFirstFrom : List WordFault → ℕ → ℕ → Type 0
IsFirstFrom fs from place =
    IsPartitionPoint (λ f. nat_lt f.word from ≡ true) (λ f. nat_lt f.word from ≡ false) fs place

pub fault_there : (fs : List WordFault) (from to place : ℕ) (f : WordFault) → Ascends fs
    → IsFirstFrom fs from place → place < length fs → ((d : WordFault) → f ≡ get_or fs place d)
    → nat_lt f.word to ≡ has_fault fs from to
fault_there fs from to place f up first lt is = by (nat_lt f.word to) refl
  where
    test : WordFault → Bool
    test g = nat_le from g.word && nat_lt g.word to

    from_here : from ≤ f.word
    from_here = not_below f.word from
        (subst (λ g. nat_lt g.word from ≡ false) (sym (is f)) (first.1 place f (omega arith) lt))

    by : (b : Bool) → nat_lt f.word to ≡ b → b ≡ has_fault fs from to
    by true e = sym (list_any_at test fs place f lt
        (subst (λ g. test g ≡ true) (is f) (inside from to f.word from_here (below f.word to e))))
    by false e = sym (list_any_none test fs
        (All-from_all_within (λ g. test g ≡ false) fs (λ k d low lt. none k d lt (cases_lt k place))))
      where
        none : (k : ℕ) (d : WordFault) → k < length fs → (k < place) ⊎ (place ≤ k)
            → test (get_or fs k d) ≡ false
        none k d lt (inl before) = short from to (get_or fs k d).word
            (below (get_or fs k d).word from (first.0 k d (omega arith) before))
        none k d lt (inr behind) =
            let rise : f.word ≤ (get_or fs k d).word = subst (λ g. g.word ≤ (get_or fs k d).word) (sym (is d))
            (words_rise fs up place k d behind lt) in
            let over : to ≤ f.word = not_below f.word to e in
            far from to (get_or fs k d).word (omega (arith, rise, over))

-- no fault stands from the word on
pub no_fault_there : (fs : List WordFault) (from to place : ℕ) → IsFirstFrom fs from place → length fs ≤ place
    → false ≡ has_fault fs from to
no_fault_there fs from to place first le =
    sym (list_any_none (λ g. nat_le from g.word && nat_lt g.word to) fs
    (All-from_all_within (λ g. (nat_le from g.word && nat_lt g.word to) ≡ false) fs
    (λ k d low lt. short from to (get_or fs k d).word
    (below (get_or fs k d).word from (first.0 k d (omega arith) (omega (arith, lt, le)))))))

-- ---- words as far as they are counted

counted : (at from to word : ℕ) → from ≡ min (at + 2) (2 ^ 64 - 1) → to < 2 ^ 64
    → (nat_le from word && nat_lt word to) ≡ (nat_le (at + 2) word && nat_lt word to)
counted at from to word is fits = by (cases_lt word to)
  where
    by : (word < to) ⊎ (to ≤ word)
        → (nat_le from word && nat_lt word to) ≡ (nat_le (at + 2) word && nat_lt word to)
    by (inr over) = far from to word over ∙ sym (far (at + 2) to word over)
    by (inl lt) = then (cases_lt word from)
      where
        then : (word < from) ⊎ (from ≤ word)
            → (nat_le from word && nat_lt word to) ≡ (nat_le (at + 2) word && nat_lt word to)
        then (inl less) = short from to word less ∙ sym (short (at + 2) to word (omega (arith, is, less)))
        then (inr le) = inside from to word le lt
            ∙ sym (inside (at + 2) to word (omega (arith, is, le, lt, fits)) lt)

-- a fault stands behind a word just where it does as far as words are counted
pub counted_fault : (fs : List WordFault) (at from to : ℕ) → from ≡ min (at + 2) (2 ^ 64 - 1) → to < 2 ^ 64
    → has_fault fs from to ≡ has_fault fs (at + 2) to
counted_fault [] at from to is fits = refl
counted_fault (f ∷ fs) at from to is fits =
    ap (λ b. b || has_fault fs from to) (counted at from to f.word is fits)
    ∙ ap (λ b. (nat_le (at + 2) f.word && nat_lt f.word to) || b) (counted_fault fs at from to is fits)
