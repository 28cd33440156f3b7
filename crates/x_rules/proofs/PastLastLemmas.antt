-- Enumerators without a value, one after another.
use Rattle.std.specs.Prelude.{ℤ, slice_get, option_and_then}
use Rattle.std.proofs.Common.{◌≡◌, ℕ, zero, suc, ◌+◌, ◌<◌, ◌≤◌, Option, None, Some, List, [], ◌∷◌, ◌++◌, map}
use Rattle.std.proofs.Common.{take, drop, get_or, length, refl, sym, ap, ◌∙◌, append_assoc, append-nil, arith}
use Rattle.std.proofs.lemmas.List.{length-map}
use Rattle.x_trees.specs.Tree.{Value}
use Rattle.x_outline.specs.Bodies.{EnumeratorAt}
use Rattle.x_rules.specs.Constants.{Known}
use Rattle.x_rules.specs.Found.{fault_at, past_last, past_last_faults}
use Rattle.x_trees.specs.View.{view_most}
use Rattle.x_outline.specs.Parts.{view_enumerator_at}
use Rattle.x_outline.specs.declared.parts.EnumeratorAt.{EnumeratorAt as Kept}
use Rattle.x_rules.specs.declared.fault.WordFault.{WordFault}
use Rattle.x_lists.proofs.ListLemmas.{drop_one, drop_none}

no_number : (given : Option Value) → past_last given None ≡ None
no_number None = refl
no_number (Some v) = refl

-- the faults from a place on are that of its enumerator, by its number if it has one, and those behind
pub past_here : (es : List EnumeratorAt) (ks : List Known) (place : ℕ) (e : EnumeratorAt)
    (rest : List EnumeratorAt) → map (λ k. k.enumerator) ks ≡ take (length ks) es → drop place es ≡ e ∷ rest
    → past_last_faults (drop place ks)
    ≡ fault_at e.word (past_last e.given
    (option_and_then (λ n. n) (slice_get (map (λ k. k.number) ks) place)))
    ++ past_last_faults (drop (suc place) ks)
past_here [] ks zero e rest front is = absurd (cc)
past_here [] ks (suc p) e rest front is = absurd (cc)
past_here (x ∷ es) [] zero e rest front is = sym (ap (λ o. fault_at e.word o ++ []) (no_number e.given))
past_here (x ∷ es) [] (suc p) e rest front is = sym (ap (λ o. fault_at e.word o ++ []) (no_number e.given))
past_here (x ∷ es) (k ∷ ks) zero e rest front is =
    let same : k.enumerator ≡ e = cc in
    ap (λ y. fault_at y.word (past_last y.given k.number) ++ past_last_faults ks) same
past_here (x ∷ es) (k ∷ ks) (suc p) e rest front is =
    let more : map (λ k. k.enumerator) ks ≡ take (length ks) es = cc in past_here es ks p e rest more is

drop_mapped : {X Y : Type 0} (f : X → Y) (n : ℕ) (xs : List X) → drop n (map f xs) ≡ map f (drop n xs)
drop_mapped f zero xs = refl
drop_mapped f (suc n) [] = refl
drop_mapped f (suc n) (x ∷ xs) = drop_mapped f n xs

-- the faults so far, and that of the enumerator in a place
pub past_next : (now next all_faults : List WordFault) (all : List EnumeratorAt) (known : List Known)
    (es : List Kept) (numbers : List (Option ℤ)) (place : ℕ) (d : Kept) → place < length es
    → map view_enumerator_at es ≡ all → numbers ≡ map (λ k. k.number) known
    → map (λ k. k.enumerator) known ≡ take (length known) all
    → next ≡ now ++ fault_at (get_or es place d).word
    (past_last (view_most (get_or es place d).enumerator.now.value)
    (option_and_then (λ n. n) (slice_get numbers place)))
    → now ++ past_last_faults (drop place known) ≡ all_faults
    → next ++ past_last_faults (drop (place + 1) known) ≡ all_faults
past_next now next all_faults all known es numbers place d lt list is front step h =
    ap (λ l. l ++ past_last_faults (drop (place + 1) known)) step
    ∙ append_assoc now _ (past_last_faults (drop (place + 1) known))
    ∙ ap (λ k. now
    ++ (fault_at here.word (past_last here.given (option_and_then (λ n. n) (slice_get numbers place)))
    ++ past_last_faults (drop k known))) after
    ∙ ap (λ ns. now
    ++ (fault_at here.word (past_last here.given (option_and_then (λ n. n) (slice_get ns place)))
    ++ past_last_faults (drop (suc place) known))) is
    ∙ sym (ap (λ l. now ++ l)
    (past_here all known place here (map view_enumerator_at (drop (place + 1) es)) front at))
    ∙ h
  where
    here : EnumeratorAt
    here = view_enumerator_at (get_or es place d)

    after : place + 1 ≡ suc place
    after = omega arith

    at : drop place all ≡ here ∷ map view_enumerator_at (drop (place + 1) es)
    at = ap (drop place) (sym list) ∙ drop_mapped view_enumerator_at place es
        ∙ ap (map view_enumerator_at) (drop_one es place d lt)

take_few : {X : Type 0} (n : ℕ) (xs : List X) → length (take n xs) ≤ length xs
take_few zero xs = omega arith
take_few (suc n) [] = omega arith
take_few (suc n) (x ∷ xs) = let more = take_few n xs in omega (arith, more)

-- no enumerator is left
pub past_none : (es : List Kept) (all : List EnumeratorAt) (known : List Known) (place : ℕ)
    → map view_enumerator_at es ≡ all → map (λ k. k.enumerator) known ≡ take (length known) all
    → length es ≤ place
    → {now all_faults : List WordFault} → now ++ past_last_faults (drop place known) ≡ all_faults
    → now ≡ all_faults
past_none es all known place list front le {now} h = sym (append-nil now)
    ∙ sym (ap (λ ks. now ++ past_last_faults ks) (drop_none known place few)) ∙ h
  where
    long : length all ≡ length es
    long = sym (ap length list) ∙ length-map es view_enumerator_at

    count : length known ≡ length (take (length known) all)
    count = sym (length-map known (λ k. k.enumerator)) ∙ ap length front

    few : length known ≤ place
    few = let a = long in let b = count in let c = take_few (length known) all in omega (arith, a, b, c, le)
