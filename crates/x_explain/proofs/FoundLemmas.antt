-- The faults of a text, each with the place where its token ends.
use Rattle.std.proofs.Common.{◌≡◌, ℕ, zero, suc, ◌+◌, List, [], ◌∷◌, ◌++◌, ◌<◌, ◌≤◌, length, take, drop}
use Rattle.std.proofs.Common.{get_or, drop-cons, ap, sym, subst, ◌∙◌, refl, arith}
use Rattle.std.proofs.lemmas.List.{at_drop_all}
use Rattle.x_compile.specs.declared.fault.FaultPlace.{FaultPlace}
use Rattle.x_explain.specs.declared.found.FoundFault.{FoundFault}
use Rattle.x_explain.specs.Found.{AreFound, IsEndOfToken, IsFound}

-- one fault more
pub found_more : (text : List ℕ) (fs : List FaultPlace) (ds : List FoundFault) (f : FaultPlace)
    (d : FoundFault) → AreFound text fs ds → IsFound text f d → AreFound text (fs ++ f ∷ []) (ds ++ d ∷ [])
found_more text [] [] f d are is = (is, tt)
found_more text [] (e ∷ ds) f d are is = absurd are
found_more text (g ∷ fs) [] f d are is = absurd are
found_more text (g ∷ fs) (e ∷ ds) f d are is = (are.0, found_more text fs ds f d are.1 is)

pub take_more : {X : Type 0} (xs : List X) (i : ℕ) (x : X) (rest : List X) → drop i xs ≡ x ∷ rest
    → take (i + 1) xs ≡ take i xs ++ x ∷ []
take_more [] zero x rest is = absurd (cc)
take_more [] (suc i) x rest is = absurd (cc)
take_more (y ∷ xs) zero x rest is = let same : y ≡ x = cc in ap (λ z. z ∷ []) same
take_more (y ∷ xs) (suc i) x rest is =
    let next : suc i + 1 ≡ suc (i + 1) = omega arith in
    ap (λ n. take n (y ∷ xs)) next ∙ ap (λ l. y ∷ l) (take_more xs i x rest is)

-- the fault at the next place
pub found_step : (text : List ℕ) (ps : List FaultPlace) (i : ℕ) (none : FaultPlace) (ds new : List FoundFault)
    (end : ℕ) → i < length ps → AreFound text (take i ps) ds → IsEndOfToken text (get_or ps i none).start end
    → new ≡ ds ++ record { code = (get_or ps i none).code; start = (get_or ps i none).start; end = end } ∷ []
    → AreFound text (take (i + 1) ps) new
found_step text ps i none ds new end lt are ends is =
    let f = get_or ps i none in
    let d : FoundFault = record { code = f.code; start = f.start; end = end } in
    subst (λ l. AreFound text l new) (sym (take_more ps i f (drop (suc i) ps) (drop-cons ps i none lt)))
    (subst (AreFound text (take i ps ++ f ∷ [])) (sym is)
    (found_more text (take i ps) ds f d are (record { code = refl; start = refl; end = ends })))

-- the next of them
pub record Next (text : List ℕ) (fs : List FaultPlace) (i : ℕ) (d : FoundFault) : Type 0 where
  pub place : FaultPlace
  pub is : IsFound text place d
  pub more : take (i + 1) fs ≡ take i fs ++ place ∷ []

pub next_found : (text : List ℕ) (fs : List FaultPlace) (ds : List FoundFault) (i : ℕ) (d : FoundFault)
    (rest : List FoundFault) → AreFound text fs ds → drop i ds ≡ d ∷ rest → Next text fs i d
next_found text [] [] zero d rest are is = absurd (cc)
next_found text [] [] (suc i) d rest are is = absurd (cc)
next_found text [] (e ∷ ds) i d rest are is = absurd are
next_found text (f ∷ fs) [] i d rest are is = absurd are
next_found text (f ∷ fs) (e ∷ ds) zero d rest are is =
    let same : e ≡ d = cc in record { place = f; is = subst (IsFound text f) same are.0; more = refl }
next_found text (f ∷ fs) (e ∷ ds) (suc i) d rest are is =
    let r = next_found text fs ds i d rest are.1 is in
    let next : suc i + 1 ≡ suc (i + 1) = omega arith in
    record { place = r.place; is = r.is; more = ap (λ n. take n (f ∷ fs)) next ∙ ap (λ l. f ∷ l) r.more }

pub next_at : (text : List ℕ) (fs : List FaultPlace) (ds : List FoundFault) (i : ℕ) (none : FoundFault)
    → i < length ds → AreFound text fs ds → Next text fs i (get_or ds i none)
next_at text fs ds i none lt are =
    next_found text fs ds i (get_or ds i none) (drop (suc i) ds) are (drop-cons ds i none lt)

-- its token ends there
pub ends_there : (text : List ℕ) (fs : List FaultPlace) (ds : List FoundFault) (i : ℕ) (none : FoundFault)
    → i < length ds → AreFound text fs ds → IsEndOfToken text (get_or ds i none).start (get_or ds i none).end
ends_there text fs ds i none lt are =
    let next = next_at text fs ds i none lt are in
    subst (λ at. IsEndOfToken text at (get_or ds i none).end) (sym next.is.start) next.is.end

-- behind the last one there is none
pub found_all : (text : List ℕ) (fs : List FaultPlace) (ds : List FoundFault) (i : ℕ) → AreFound text fs ds
    → drop i ds ≡ [] → take i fs ≡ fs
found_all text [] [] zero are is = refl
found_all text [] [] (suc i) are is = refl
found_all text [] (e ∷ ds) i are is = absurd are
found_all text (f ∷ fs) [] i are is = absurd are
found_all text (f ∷ fs) (e ∷ ds) zero are is = absurd (cc)
found_all text (f ∷ fs) (e ∷ ds) (suc i) are is = ap (λ l. f ∷ l) (found_all text fs ds i are.1 is)

pub found_to_the_last : (text : List ℕ) (fs : List FaultPlace) (ds : List FoundFault) (i : ℕ) → length ds ≤ i
    → AreFound text fs ds → take i fs ≡ fs
found_to_the_last text fs ds i le are = found_all text fs ds i are (at_drop_all (λ l. l) ds i le)
