-- A walk by one token more.
use Rattle.std.proofs.Common.{◌≡◌, ℕ, zero, suc, ◌+◌, ◌-◌, ◌<◌, List, [], ◌∷◌, ◌++◌, ◌≤◌, take, drop, map}
use Rattle.std.proofs.Common.{length, arith, sym, ap, ◌∙◌, append_assoc}
use Rattle.std.proofs.lemmas.List.{length-map, length-drop}
use Rattle.x_lex.specs.Places.{Lexeme, lexeme}
use Rattle.x_lex.specs.declared.tokens.token.Token.{Token}

step_take : {X : Type 0} (x : X) (next : List X) (k m : ℕ) → k ≡ suc m → take k (x ∷ next) ≡ x ∷ take m next
step_take x next k m e = ap (λ n. take n (x ∷ next)) e

step_drop : {X : Type 0} (x : X) (next : List X) (k m : ℕ) → k ≡ suc m → drop k (x ∷ next) ≡ drop m next
step_drop x next k m e = ap (λ n. drop n (x ∷ next)) e

pub taken_more : {X : Type 0} (xs walk next all : List X) (x : X) (count n m : ℕ) → walk ≡ x ∷ next
    → n < count → m ≡ n + 1 → xs ++ take (count - n) walk ≡ all
    → (xs ++ x ∷ []) ++ take (count - m) next ≡ all
taken_more xs walk next all x count n m e lt is h =
    append_assoc xs (x ∷ []) (take (count - m) next)
    ∙ ap (λ l. xs ++ l)
    (sym (ap (take (count - n)) e ∙ step_take x next (count - n) (count - m) (omega arith))) ∙ h

pub left_more : {X : Type 0} (walk next all : List X) (x : X) (count n m : ℕ) → walk ≡ x ∷ next → n < count
    → m ≡ n + 1 → drop (count - n) walk ≡ all → drop (count - m) next ≡ all
left_more walk next all x count n m e lt is h =
    sym (ap (drop (count - n)) e ∙ step_drop x next (count - n) (count - m) (omega arith)) ∙ h

pub take-short : {X : Type 0} (n : ℕ) (xs : List X) → length (take n xs) ≤ length xs
take-short zero xs = omega arith
take-short (suc n) [] = omega arith
take-short (suc n) (x ∷ xs) = let h = take-short n xs in omega (arith, h)

-- what is taken of a walk, and what is left of it, is no more than the walk
pub few_taken : (ts : List Token) (walk : List Lexeme) (n most : ℕ) → map lexeme ts ≡ take n walk
    → length walk ≤ most → length ts ≤ most
few_taken ts walk n most is small =
    let a = length-map ts lexeme in let b = ap length is in let c = take-short n walk in
    omega (arith, a, b, c, small)

pub few_left : (walk : List Lexeme) (n most : ℕ) → length walk ≤ most → length (drop n walk) ≤ most
few_left walk n most small = let a = length-drop n walk in omega (arith, a, small)
