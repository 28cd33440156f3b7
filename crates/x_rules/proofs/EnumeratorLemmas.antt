-- The enumerators of bodies, one by one.
use Rattle.std.proofs.Common.{◌≡◌, ℕ, suc, ◌+◌, ◌-◌, ◌^◌, ◌<◌, ◌≤◌, min, Bool, false, List, [], ◌∷◌, ◌++◌}
use Rattle.std.proofs.Common.{length, take, drop, ap, sym, subst, ◌∙◌, append_assoc, length-append, arith}
use Rattle.std.proofs.lemmas.List.{take-append-drop}
use Rattle.std.specs.List.{IsAmong}
use Rattle.x_trees.specs.Tree as tree
use Rattle.x_trees.specs.Spell.{spell_body, spell_enumerator, spell_other_enumerators, spell_enumerators}
use Rattle.x_trees.specs.Collected.{Walked, Covers}
use Rattle.x_trees.proofs.CollectLemmas.{finds_then, finds_as}
use Rattle.x_outline.specs.Bodies.{BodyAt, EnumeratorAt, enumerators_from, enumerators_of, enumerators_in}
use Rattle.x_trees.proofs.AmongLemmas.{among_first, among_rear}

-- the enumerators from the word on, each with a word behind it
abbrev pub GoesNames : Walked EnumeratorAt → Walked EnumeratorAt → Bool → List tree.Enumerator → Type 0
GoesNames a b is_first es =
    Covers a b (length (spell_other_enumerators es)) (λ k. enumerators_from is_first k es)

pub goes_names : {to : Walked EnumeratorAt} (word next n : ℕ) (list more : List EnumeratorAt)
    (x : EnumeratorAt) (e : tree.Enumerator) (es : List tree.Enumerator)
    → x ≡ record { word = word; name = e.name; given = e.value; is_first = x.is_first }
    → n ≡ length (spell_enumerator e) → next ≡ min (min (word + n) (2 ^ 64 - 1) + 1) (2 ^ 64 - 1)
    → more ≡ list ++ x ∷ [] → GoesNames (record { word = next; list = more }) to false es
    → GoesNames (record { word = word; list = list }) to x.is_first (e ∷ es)
goes_names {to} word next n list more x e es is count at added rest =
    finds_as _ _ (finds_then one rest)
    (long (length (spell_enumerator e)) (length (spell_other_enumerators es))
    ∙ ap suc (sym (length-append (spell_enumerator e) (spell_other_enumerators es))))
    (λ k. ap (λ w. record { word = k; name = e.name; given = e.value; is_first = x.is_first }
    ∷ enumerators_from false w es) (there k (length (spell_enumerator e))))
  where
    long : (n m : ℕ) → (n + 1) + m ≡ suc (n + m)
    long n m = omega arith

    there : (k n : ℕ) → k + (n + 1) ≡ (k + n) + 1
    there k n = omega arith

    reach : (n m : ℕ) → n ≡ m → next ≡ min (min (word + n) (2 ^ 64 - 1) + 1) (2 ^ 64 - 1)
        → word + (m + 1) < 2 ^ 64 → next ≡ word + (m + 1)
    reach n m same at fits = omega (arith, same, at, fits)

    one : Covers (record { word = word; list = list }) (record { word = next; list = more })
        (length (spell_enumerator e) + 1)
        (λ k. record { word = k; name = e.name; given = e.value; is_first = x.is_first } ∷ [])
    one = record {
      word = λ fits. reach n (length (spell_enumerator e)) count at fits;
      list = λ fits. added ∙ ap (λ y. list ++ y ∷ []) is;
    }

-- the commas are no more words than the braces
other_short : (es : List tree.Enumerator)
    → length (spell_other_enumerators es) ≤ suc (length (spell_enumerators es))
other_short [] = omega arith
other_short (e ∷ es) = same (length (spell_other_enumerators (e ∷ es)))
  where
    same : (n : ℕ) → n ≤ n
    same n = omega arith

pub names_fit : (at word : ℕ) (es : List tree.Enumerator) → at + length (spell_body (tree.Enum es)) < 2 ^ 64
    → word ≡ min (at + 1) (2 ^ 64 - 1)
    → (word ≡ at + 1) × (word + length (spell_other_enumerators es) < 2 ^ 64)
names_fit at word es fits is = (first, second)
  where
    few : at + suc (length (spell_enumerators es) + 1) < 2 ^ 64
    few = subst (λ n. at + suc n < 2 ^ 64) (length-append (spell_enumerators es) (_ ∷ [])) fits

    begin : (n : ℕ) → at + suc (n + 1) < 2 ^ 64 → word ≡ at + 1
    begin n h = omega (arith, h, is)

    first : word ≡ at + 1
    first = begin (length (spell_enumerators es)) few

    end : (n m : ℕ) → at + suc (n + 1) < 2 ^ 64 → m ≤ suc n → word + m < 2 ^ 64
    end n m h less = omega (arith, h, less, first)

    second : word + length (spell_other_enumerators es) < 2 ^ 64
    second = end (length (spell_enumerators es)) (length (spell_other_enumerators es)) few (other_short es)

pub among_at : {X : Type 0} (xs : List X) (i : ℕ) (x : X) (rest : List X) → drop i xs ≡ x ∷ rest
    → IsAmong xs x
among_at xs i x rest front =
    subst (λ l. IsAmong l x) (take-append-drop i xs)
    (among_rear (take i xs) (drop i xs) x (subst (λ l. IsAmong l x) (sym front) (among_first x rest)))

pub in_more : (now next : List EnumeratorAt) (b : BodyAt) (bs all : List BodyAt) (found : List EnumeratorAt)
    → all ≡ b ∷ bs → next ≡ now ++ enumerators_of b → now ++ enumerators_in all ≡ found
    → next ++ enumerators_in bs ≡ found
in_more now next b bs all found front step h =
    ap (λ l. l ++ enumerators_in bs) step ∙ append_assoc now (enumerators_of b) (enumerators_in bs)
    ∙ sym (ap (λ l. now ++ enumerators_in l) front) ∙ h
