-- Which items are silent, by what is kept of the faults gone over.
use Rattle.std.proofs.Common.{◌≡◌, ◌≢◌, ℕ, zero, suc, ◌<◌, ◌≤◌, Bool, true, false, cond, eqb, ltb, List, []}
use Rattle.std.proofs.Common.{◌∷◌, ◌++◌, length, set, Option, None, Some, refl, sym, ap, ◌∙◌, arith}
use Rattle.std.proofs.Common.{eq-eqb, ne_eqb, ◌⊎◌, inl, inr}
use Rattle.std.proofs.lemmas.Bool.{eqb-true, ltb-true, lt-ltb, le-ltb, ltb-false}
use Rattle.std.proofs.lemmas.List.{get_or-set_same, get_or-set_other}
use Rattle.std.proofs.lemmas.List.Folds.{list_any-append}
use Rattle.std.specs.Prelude.{not, ◌==◌, ◌&&◌, ◌||◌}
use Rattle.std.specs.List.{filter, list_any}
use Rattle.std.specs.Option.{option_map_or}
use Rattle.x_text.proofs.Cases.{false_true}
use Rattle.x_names.specs.Declarers.{first_declarer}
use Rattle.x_names.specs.declared.names.Declarer.{Declarer}
use Rattle.x_compile.specs.Compile.{Item, definitions_of, places_of, tokens_of}
use Rattle.x_compile.specs.declared.fault.FaultPlace.{FaultPlace}
use Rattle.x_told.specs.Telling.{follows_from, has_fault, is_of_branch, is_of_faulty, is_silent, is_told}
use Rattle.x_told.specs.Telling.{is_told_where}
use Rattle.x_told.specs.Telling.{silent_before, word_from}
use Rattle.x_told.specs.Voices.{heard_in, heard_with, is_silent_voice, voice_at, voice_of}
use Rattle.x_told.specs.declared.telling.Voice.{Voice}
use Rattle.x_told.specs.declared.telling.Voice.TheVariants.{Faultless}
use Rattle.x_told.proofs.ToldLemmas.{is_free}

-- ---- tests

and_no : (b : Bool) → (b && false) ≡ false
and_no true = refl
and_no false = refl

or_no : (b : Bool) → (b || false) ≡ b
or_no true = refl
or_no false = refl

pub neither : (a b : Bool) → (a || b) ≡ false → (a ≡ false) × (b ≡ false)
neither true b e = absurd (cc)
neither false b e = (refl, e)

-- what fails wherever another test fails finds nothing where that one finds nothing
finds_none : {X : Type 0} (t u : X → Bool) → ((x : X) → t x ≡ false → u x ≡ false) → (xs : List X)
    → list_any t xs ≡ false → list_any u xs ≡ false
finds_none t u h [] e = refl
finds_none t u h (x ∷ xs) e =
    let both = neither (t x) (list_any t xs) e in
    (λ i. h x both.0 i || list_any u xs) ∙ finds_none t u h xs both.1

-- ---- where nothing is of a later branch, or nothing follows

follows_none : (items : List Item) (silent : ℕ → Bool) → ((j : ℕ) → silent j ≡ false) → (p : FaultPlace)
    → follows_from items silent p ≡ false
follows_none items silent h p =
    ap (λ b. is_of_faulty p.code && b)
    (at (first_declarer (definitions_of items) (word_from (tokens_of items) p.start)))
    ∙ and_no (is_of_faulty p.code)
  where
    at : (o : Option Declarer) → option_map_or (λ (d : Declarer). silent d.item) o false ≡ false
    at None = refl
    at (Some d) = h d.item

-- no item is silent where none before is
silent_step : (shown : List ℕ) (items : List Item) → list_any (is_of_branch shown) (places_of items) ≡ false
    → (n j : ℕ) → ((j : ℕ) → silent_before shown items n j ≡ false)
    → silent_before shown items (suc n) j ≡ false
silent_step shown items none n j before = by (j == n)
  where
    untold : (p : FaultPlace) → is_of_branch shown p ≡ false
        → (p.item == n && not (is_told_where shown items (silent_before shown items n) p)) ≡ false
    untold p e =
        (λ i. p.item == n && not (not (e i || follows_none items (silent_before shown items n) before p i)))
        ∙ and_no (p.item == n)

    no_fault : has_fault items (λ p. not (is_told_where shown items (silent_before shown items n) p)) n
        ≡ false
    no_fault = finds_none (is_of_branch shown)
        (λ p. p.item == n && not (is_told_where shown items (silent_before shown items n) p)) untold
        (places_of items) none

    by : (b : Bool) → cond b (is_silent items (is_told_where shown items (silent_before shown items n)) n)
        (silent_before shown items n j) ≡ false
    by true = ap (λ b. b && not (has_fault items
        (is_told_where shown items (silent_before shown items n)) n)) no_fault
    by false = before j

silent_none : (shown : List ℕ) (items : List Item) → list_any (is_of_branch shown) (places_of items) ≡ false
    → (n j : ℕ) → silent_before shown items n j ≡ false
silent_none shown items none zero j = refl
silent_none shown items none (suc n) j = silent_step shown items none n j (silent_none shown items none n)

none_of_branch : (shown : List ℕ) (items : List Item)
    → list_any (is_of_branch shown) (places_of items) ≡ false
    → filter (is_told shown items) (places_of items) ≡ filter (is_free shown) (places_of items)
none_of_branch shown items none =
    ap (λ (t : FaultPlace → Bool). filter t (places_of items))
    (λ i p. (ap (λ b. not (is_of_branch shown p || b)) (follows_none items (silent_before shown items p.item)
    (silent_none shown items none p.item) p) ∙ ap not (or_no (is_of_branch shown p))) i)

none_follows : (shown : List ℕ) (items : List Item) (ps : List FaultPlace)
    → list_any (λ p. is_of_faulty p.code) ps ≡ false
    → filter (is_told shown items) ps ≡ filter (is_free shown) ps
none_follows shown items [] none = refl
none_follows shown items (p ∷ ps) none =
    let both = neither (is_of_faulty p.code) (list_any (λ (q : FaultPlace). is_of_faulty q.code) ps) none in
    let o = option_map_or (λ (d : Declarer). silent_before shown items p.item d.item)
    (first_declarer (definitions_of items) (word_from (tokens_of items) p.start)) false in
    let same : is_told shown items p ≡ is_free shown p =
    ap (λ b. not (is_of_branch shown p || (b && o))) both.0 ∙ ap not (or_no (is_of_branch shown p)) in
    let rest = none_follows shown items ps both.1 in
    (λ i. cond (same i) (p ∷ rest i) (rest i))

none_of_faulty : (shown : List ℕ) (items : List Item)
    → list_any (λ p. is_of_faulty p.code) (places_of items) ≡ false
    → filter (is_told shown items) (places_of items) ≡ filter (is_free shown) (places_of items)
none_of_faulty shown items none = none_follows shown items (places_of items) none

pub all_free : (shown : List ℕ) (items : List Item)
    → (list_any (is_of_branch shown) (places_of items) ≡ false)
    ⊎ (list_any (λ p. is_of_faulty p.code) (places_of items) ≡ false)
    → filter (is_told shown items) (places_of items) ≡ filter (is_free shown) (places_of items)
all_free shown items (inl none) = none_of_branch shown items none
all_free shown items (inr none) = none_of_faulty shown items none

-- ---- which items are silent

-- a test of the faults of an item is that of each fault of the item
scoped : (j : ℕ) (f g : FaultPlace → Bool) → ((p : FaultPlace) → p.item ≡ j → f p ≡ g p)
    → (ps : List FaultPlace)
    → list_any (λ p. p.item == j && f p) ps ≡ list_any (λ p. p.item == j && g p) ps
scoped j f g h [] = refl
scoped j f g h (p ∷ ps) =
    let rest = scoped j f g h ps in
    (λ i. here (eqb p.item j) refl i || rest i)
  where
    here : (b : Bool) → eqb p.item j ≡ b → (b && f p) ≡ (b && g p)
    here true e = h p (eqb-true p.item j e)
    here false e = refl

-- what is silent by all that is told
silent_in : (shown : List ℕ) (items : List Item) (j : ℕ)
    → is_silent items (is_told_where shown items (silent_before shown items j)) j
    ≡ is_silent items (is_told shown items) j
silent_in shown items j =
    let same : (p : FaultPlace) → p.item ≡ j
    → is_told_where shown items (silent_before shown items j) p ≡ is_told shown items p =
    λ p e. ap (λ n. is_told_where shown items (silent_before shown items n) p) (sym e) in
    (λ i. scoped j (λ p. not (is_told_where shown items (silent_before shown items j) p))
    (λ p. not (is_told shown items p)) (λ p e. ap not (same p e)) (places_of items) i
    && not (scoped j (is_told_where shown items (silent_before shown items j)) (is_told shown items) same
    (places_of items) i))

-- an item is silent before a number if it has a lesser one and is silent
next_silent : (shown : List ℕ) (items : List Item) (n j : ℕ)
    → silent_before shown items n j ≡ (ltb j n && is_silent items (is_told shown items) j)
    → silent_before shown items (suc n) j ≡ (ltb j (suc n) && is_silent items (is_told shown items) j)
next_silent shown items n j before = by (j == n) refl
  where
    less : j ≢ n → (b : Bool) → ltb j n ≡ b → ltb j n ≡ ltb j (suc n)
    less other true e =
        let lt = ltb-true j n e in
        e ∙ sym (lt-ltb j (suc n) (omega (arith, lt)))
    less other false e =
        let le = ltb-false j n e in
        e ∙ sym (le-ltb j (suc n) (omega (arith, le, other)))

    by : (b : Bool) → (j == n) ≡ b
        → cond b (is_silent items (is_told_where shown items (silent_before shown items n)) n)
        (silent_before shown items n j) ≡ (ltb j (suc n) && is_silent items (is_told shown items) j)
    by true e =
        let same = eqb-true j n e in
        let lt : j < suc n = omega (arith, same) in
        silent_in shown items n ∙ ap (is_silent items (is_told shown items)) (sym same)
        ∙ sym (ap (λ b. b && is_silent items (is_told shown items) j) (lt-ltb j (suc n) lt))
    by false e =
        before ∙ ap (λ b. b && is_silent items (is_told shown items) j)
        (less (λ s. false_true (sym e ∙ eq-eqb j n s)) (ltb j n) refl)

silent_is : (shown : List ℕ) (items : List Item) (n j : ℕ)
    → silent_before shown items n j ≡ (ltb j n && is_silent items (is_told shown items) j)
silent_is shown items zero j =
    sym (ap (λ b. b && is_silent items (is_told shown items) j) (le-ltb j 0 (omega arith)))
silent_is shown items (suc n) j = next_silent shown items n j (silent_is shown items n j)

-- ---- by what is kept of the faults gone over

-- these faults stand in no item before a number
abbrev pub AreFrom : ℕ → List FaultPlace → Type 0
AreFrom n [] = Unit {0}
AreFrom n (p ∷ ps) = (n ≤ p.item) × AreFrom n ps

later_none : (n j : ℕ) (f : FaultPlace → Bool) → j < n → (ps : List FaultPlace) → AreFrom n ps
    → list_any (λ p. p.item == j && f p) ps ≡ false
later_none n j f lt [] from = refl
later_none n j f lt (p ∷ ps) from =
    let le = from.0 in
    let other = ne_eqb p.item j (λ e. omega (arith, e, lt, le)) in
    (λ i. (other i && f p) || later_none n j f lt ps from.1 i)

silent_voice : (t u : Bool) → is_silent_voice (voice_of t u) ≡ (u && not t)
silent_voice true true = refl
silent_voice true false = refl
silent_voice false true = refl
silent_voice false false = refl

-- an item before all faults that are left is silent if its faults so far are
heard_silent : (shown : List ℕ) (items : List Item) (done left : List FaultPlace) (n j : ℕ)
    → done ++ left ≡ places_of items → AreFrom n left → j < n
    → is_silent_voice (heard_in (is_told shown items) done j) ≡ is_silent items (is_told shown items) j
heard_silent shown items done left n j parts from lt =
    let told = is_told shown items in
    let whole : (f : FaultPlace → Bool) → list_any (λ p. p.item == j && f p) done ≡ has_fault items f j =
    λ f. sym (or_no (list_any (λ (p : FaultPlace). p.item == j && f p) done))
    ∙ ap (λ b. list_any (λ (p : FaultPlace). p.item == j && f p) done || b)
    (sym (later_none n j f lt left from))
    ∙ sym (list_any-append (λ (p : FaultPlace). p.item == j && f p) done left)
    ∙ ap (list_any (λ (p : FaultPlace). p.item == j && f p)) parts in
    silent_voice (list_any (λ (p : FaultPlace). p.item == j && told p) done)
    (list_any (λ (p : FaultPlace). p.item == j && not (told p)) done)
    ∙ (λ i. whole (λ p. not (told p)) i && not (whole told i))

-- what is kept of each item tells which items before that of the next fault are silent
pub silent_by : (shown : List ℕ) (items : List Item) (done left : List FaultPlace)
    (voices : List Voice) (n : ℕ)
    → done ++ left ≡ places_of items → AreFrom n left
    → ((j : ℕ) → voice_at voices j ≡ heard_in (is_told shown items) done j) → (j : ℕ)
    → (ltb j n && is_silent_voice (voice_at voices j)) ≡ silent_before shown items n j
silent_by shown items done left voices n parts from heard j =
    by (ltb j n) refl ∙ sym (silent_is shown items n j)
  where
    by : (b : Bool) → ltb j n ≡ b
        → (b && is_silent_voice (voice_at voices j)) ≡ (b && is_silent items (is_told shown items) j)
    by true e = ap is_silent_voice (heard j)
        ∙ heard_silent shown items done left n j parts from (ltb-true j n e)
    by false e = refl

-- ---- a fault more

voice_here : (b t u : Bool)
    → heard_with b (voice_of t u) ≡ voice_of (t || (b || false)) (u || (not b || false))
voice_here true true true = refl
voice_here true true false = refl
voice_here true false true = refl
voice_here true false false = refl
voice_here false true true = refl
voice_here false true false = refl
voice_here false false true = refl
voice_here false false false = refl

pub heard_more : (told : FaultPlace → Bool) (done : List FaultPlace) (voices new : List Voice)
    (p : FaultPlace)
    (b : Bool) → told p ≡ b → p.item < length voices
    → ((j : ℕ) → voice_at voices j ≡ heard_in told done j)
    → new ≡ set voices p.item (heard_with b (voice_at voices p.item))
    → (j : ℕ) → voice_at new j ≡ heard_in told (done ++ p ∷ []) j
heard_more told done voices new p b is lt heard new_is j =
    ap (λ v. voice_at v j) new_is ∙ by (eqb p.item j) refl ∙ sym more
  where
    of_told : Bool
    of_told = list_any (λ (q : FaultPlace). q.item == j && told q) done

    of_untold : Bool
    of_untold = list_any (λ (q : FaultPlace). q.item == j && not (told q)) done

    more : heard_in told (done ++ p ∷ []) j
        ≡ voice_of (of_told || ((eqb p.item j && b) || false))
        (of_untold || ((eqb p.item j && not b) || false))
    more =
        (λ i. voice_of (list_any-append (λ (q : FaultPlace). q.item == j && told q) done (p ∷ []) i)
        (list_any-append (λ (q : FaultPlace). q.item == j && not (told q)) done (p ∷ []) i))
        ∙ (λ i. voice_of (of_told || ((eqb p.item j && is i) || false))
        (of_untold || ((eqb p.item j && not (is i)) || false)))

    by : (c : Bool) → eqb p.item j ≡ c
        → voice_at (set voices p.item (heard_with b (voice_at voices p.item))) j
        ≡ voice_of (of_told || ((c && b) || false)) (of_untold || ((c && not b) || false))
    by true e =
        let same = eqb-true p.item j e in
        ap (voice_at (set voices p.item (heard_with b (voice_at voices p.item)))) (sym same)
        ∙ get_or-set_same voices p.item (heard_with b (voice_at voices p.item)) Faultless lt
        ∙ ap (λ k. heard_with b (voice_at voices k)) same ∙ ap (heard_with b) (heard j)
        ∙ voice_here b of_told of_untold
    by false e =
        let other : j ≢ p.item = λ s. false_true (sym e ∙ eq-eqb p.item j (sym s)) in
        get_or-set_other voices p.item j (heard_with b (voice_at voices p.item)) Faultless other ∙ heard j
        ∙ (λ i. voice_of (sym (or_no of_told) i) (sym (or_no of_untold) i))
