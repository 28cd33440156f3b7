-- What a walk finds, part by part.
use Rattle.std.proofs.Common.{◌≡◌, ℕ, ◌+◌, ◌^◌, ◌<◌, List, [], ◌∷◌, ◌++◌, length, take, ap, sym, subst, ◌∙◌}
use Rattle.std.proofs.Common.{append_assoc, length-append, arith}
use Rattle.std.proofs.lemmas.List.{append-nil}
use Rattle.std.proofs.Math.Seq.{take-append_seam}
use Rattle.x_trees.specs.Gloss.{Role, Gloss, told_of}
use Rattle.x_trees.specs.Collected.{Walked, Covers, CoversAll}

pub finds_none : {A : Type 0} (a : Walked A) → Covers a a 0 (λ k. [])
finds_none a = record {
  word = λ fits. omega arith;
  list = λ fits. sym (append-nil a.list);
}

pub finds_then : {A : Type 0} {a b c : Walked A} {n m : ℕ} {f g : ℕ → List A} → Covers a b n f
    → Covers b c m g → Covers a c (n + m) (λ k. f k ++ g (k + n))
finds_then {a = a} {b} {c} {n} {m} {f} {g} x y = record {
  word = λ fits. let at = x.word (first fits) in y.word (second fits at) ∙ ap (λ w. w + m) at ∙ three;
  list = λ fits. let at = x.word (first fits) in y.list (second fits at)
      ∙ ap (λ l. l ++ g b.word) (x.list (first fits))
      ∙ ap (λ w. (a.list ++ f a.word) ++ g w) at
      ∙ append_assoc a.list (f a.word) (g (a.word + n));
}
  where
    first : a.word + (n + m) < 2 ^ 64 → a.word + n < 2 ^ 64
    first fits = omega (arith, fits)

    second : a.word + (n + m) < 2 ^ 64 → b.word ≡ a.word + n → b.word + m < 2 ^ 64
    second fits at = omega (arith, fits, at)

    three : (a.word + n) + m ≡ a.word + (n + m)
    three = omega arith

pub finds_as : {A : Type 0} {a b : Walked A} {n : ℕ} {f : ℕ → List A} (m : ℕ) (g : ℕ → List A)
    → Covers a b n f → n ≡ m → ((k : ℕ) → f k ≡ g k) → Covers a b m g
finds_as {a = a} {b} {n} {f} m g x same alike = record {
  word = λ fits. x.word (subst (λ j. a.word + j < 2 ^ 64) (sym same) fits) ∙ ap (λ j. a.word + j) same;
  list = λ fits. x.list (subst (λ j. a.word + j < 2 ^ 64) (sym same) fits)
      ∙ ap (λ l. a.list ++ l) (alike a.word);
}

-- found at a word, and from that word on
pub finds_here : {A : Type 0} {a b c : Walked A} {n : ℕ} {f g : ℕ → List A} → Covers a b 0 f → Covers b c n g
    → Covers a c n (λ k. f k ++ g k)
finds_here {n = n} {f} {g} x y =
    finds_as n (λ k. f k ++ g k) (finds_then x y) (omega arith)
    (λ k. let here : k + 0 ≡ k = omega arith in ap (λ j. f k ++ g j) here)

-- what was found is taken away
pub finds_less : {A : Type 0} (a b c : Walked A) (n : ℕ) (f : ℕ → List A) → Covers a b n f → c.word ≡ b.word
    → c.list ≡ take (length a.list) b.list → Covers a c n (λ k. [])
finds_less a b c n f x word list = record {
  word = λ fits. word ∙ x.word fits;
  list = λ fits. list ∙ ap (take (length a.list)) (x.list fits) ∙ take-append_seam a.list (f a.word)
      ∙ sym (append-nil a.list);
}

-- what is told of words, and of others behind them
pub told_append : {A : Type 0} (tell : ℕ → List Role → List A) (k : ℕ) (xs ys : List Gloss)
    → told_of tell k (xs ++ ys) ≡ told_of tell k xs ++ told_of tell (k + length xs) ys
told_append tell k [] ys =
    let same : k ≡ k + 0 = omega arith in ap (λ j. told_of tell j ys) same
told_append tell k (x ∷ xs) ys =
    let same : (k + 1) + length xs ≡ k + length (x ∷ xs) = omega arith in
    ap (λ l. tell k x.roles ++ l) (told_append tell (k + 1) xs ys
    ∙ ap (λ j. told_of tell (k + 1) xs ++ told_of tell j ys) same)
    ∙ sym (append_assoc (tell k x.roles) (told_of tell (k + 1) xs) (told_of tell (k + length (x ∷ xs)) ys))

-- the words over which a walk has gone that found so much
pub covers_words : {A : Type 0} {tell : ℕ → List Role → List A} {a b : Walked A} (words : List Gloss) (n : ℕ)
    (found : ℕ → List A) → Covers a b n found → n ≡ length words → ((k : ℕ) → found k ≡ told_of tell k words)
    → CoversAll tell a b words
covers_words words n found x count told = record { all = finds_as _ _ x count told }

-- words, and others behind them
pub covers_then : {A : Type 0} {tell : ℕ → List Role → List A} {a b c : Walked A} {xs ys : List Gloss}
    → CoversAll tell a b xs → CoversAll tell b c ys → CoversAll tell a c (xs ++ ys)
covers_then {tell = tell} {xs = xs} {ys} x y =
    covers_words (xs ++ ys) _ _ (finds_then x.all y.all) (sym (length-append xs ys))
    (λ k. sym (told_append tell k xs ys))

pub covers_next : {A : Type 0} {tell : ℕ → List Role → List A} {a b c : Walked A} {g : Gloss}
    {ys : List Gloss} → CoversAll tell a b (g ∷ []) → CoversAll tell b c ys → CoversAll tell a c (g ∷ ys)
covers_next x y = covers_then x y

pub covers_two : {A : Type 0} {tell : ℕ → List Role → List A} {a b c : Walked A} {g h : Gloss}
    {ys : List Gloss} → CoversAll tell a b (g ∷ h ∷ []) → CoversAll tell b c ys
    → CoversAll tell a c (g ∷ h ∷ ys)
covers_two x y = covers_then x y

pub covers_three : {A : Type 0} {tell : ℕ → List Role → List A} {a b c : Walked A} {f g h : Gloss}
    {ys : List Gloss} → CoversAll tell a b (f ∷ g ∷ h ∷ []) → CoversAll tell b c ys
    → CoversAll tell a c (f ∷ g ∷ h ∷ ys)
covers_three x y = covers_then x y

pub covers_as : {A : Type 0} {tell : ℕ → List Role → List A} {a b : Walked A} {xs ys : List Gloss}
    → CoversAll tell a b xs → xs ≡ ys → CoversAll tell a b ys
covers_as {tell = tell} {a} {b} x same = subst (CoversAll tell a b) same x

-- ---- words of which nothing is told

abbrev pub IsQuiet : {A : Type 0} → (ℕ → List Role → List A) → List Gloss → Type 0
IsQuiet tell words = (k : ℕ) → told_of tell k words ≡ []

-- what a walk from the first word on has found, if nothing
-- is told of the words behind those that it has gone over
pub finds_all : {A : Type 0} {tell : ℕ → List Role → List A} {a b : Walked A} (front rest : List Gloss)
    → a.word ≡ 0 → a.list ≡ [] → CoversAll tell a b front → IsQuiet tell rest
    → length (front ++ rest) < 2 ^ 64 → b.list ≡ told_of tell 0 (front ++ rest)
finds_all {tell = tell} {a} front rest start empty x quiet few =
    x.all.list (subst (λ w. w + length front < 2 ^ 64) (sym start) short)
    ∙ ap (λ l. l ++ told_of tell a.word front) empty
    ∙ ap (λ w. told_of tell w front) start
    ∙ sym (told_append tell 0 front rest ∙ ap (λ l. told_of tell 0 front ++ l) (quiet (0 + length front))
    ∙ append-nil (told_of tell 0 front))
  where
    short : 0 + length front < 2 ^ 64
    short = omega (arith, few, length-append front rest)
