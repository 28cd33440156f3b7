-- The users of a name.
use Rattle.std.specs.Prelude.{◌||◌, is_some, nat_lt, slice_index_or, IsTrue}
use Rattle.std.proofs.lemmas.Bool.{ltb-true, ltb-false}
use Rattle.x_uses.specs.declared.uses.ItemSplice.{ItemSplice}
use Rattle.std.specs.List.{IsAmong, list_any}
use Rattle.std.specs.Str.{bytes_eq}
use Rattle.std.proofs.Common.{◌≡◌, ◌<◌, ◌⊎◌, inl, inr, ℕ, zero, suc, ◌+◌, ◌-◌, ◌≤◌, Bool, true, false, cond}
use Rattle.std.proofs.Common.{List, [], ◌∷◌, length, Option, Some, None, refl, sym, ap, subst, ◌∙◌, arith}
use Rattle.std.proofs.lemmas.Slice.Eq.{bytes_eq-Decides}
use Rattle.x_trees.specs.Tree.{Definition}
use Rattle.x_trees.specs.Seen.{names_of}
use Rattle.x_trees.proofs.AmongLemmas.{among_cases, among_none, among_first, among_more}
use Rattle.x_recheck.specs.Editing.{TextEdit, IsEdit, definition_at, new_number, old_number}
use Rattle.x_uses.specs.Occurrences.{sees, users_of}
use Rattle.x_recheck.specs.inside.Deciding.{IsKeptUser}
use Rattle.x_recheck.proofs.Numbering.{IsKeptAs, definition_kept, kept_cases}

among_passes : (names : List (List ℕ)) (name : List ℕ) → IsAmong names name
    → list_any (bytes_eq name) names ≡ true
among_passes [] name h = absurd (among_none name h)
among_passes (n ∷ ns) name h = by (among_cases n name ns h) (λ k. among_passes ns name k)
    (bytes_eq name n) refl
  where
    by : (name ≡ n) ⊎ IsAmong ns name → (IsAmong ns name → list_any (bytes_eq name) ns ≡ true) → (b : Bool)
        → bytes_eq name n ≡ b → list_any (bytes_eq name) (n ∷ ns) ≡ true
    by k more true e = ap (λ b. b || list_any (bytes_eq name) ns) e
    by (inl same) more false e =
        let there : bytes_eq name n ≡ true = (bytes_eq-Decides name n).1 same in absurd (cc)
    by (inr k) more false e = ap (λ b. b || list_any (bytes_eq name) ns) e ∙ more k

-- users have the numbers of items of the list
pub user_within : (n : ℕ) (ds : List (Option Definition)) (name : List ℕ) (j : ℕ)
    → IsAmong (users_of n ds name) j → j < n + length ds
user_within n [] name j h = absurd (among_none j h)
user_within n (d ∷ ds) name j h = by (sees d name) h (λ k. user_within (suc n) ds name j k)
  where
    first : (j ≡ n) ⊎ IsAmong (users_of (suc n) ds name) j
        → (IsAmong (users_of (suc n) ds name) j → j < suc n + length ds) → j < n + suc (length ds)
    first (inl e) more = omega (arith, e)
    first (inr k) more = let lt = more k in omega (arith, lt)

    by : (b : Bool) → IsAmong (cond b (n ∷ users_of (suc n) ds name) (users_of (suc n) ds name)) j
        → (IsAmong (users_of (suc n) ds name) j → j < suc n + length ds) → j < n + suc (length ds)
    by true h more = first (among_cases n j (users_of (suc n) ds name) h) more
    by false h more = let lt = more h in omega (arith, lt)

-- an item that sees the name is a user
user_there : (n : ℕ) (ds : List (Option Definition)) (name : List ℕ) (i : ℕ) (d : Definition)
    → definition_at ds i ≡ Some d → IsAmong (names_of d) name → IsAmong (users_of n ds name) (n + i)
user_there n [] name i d h among = absurd (cc)
user_there n (x ∷ ds) name zero d h among =
    let passes : sees x name ≡ true = ap (λ o. sees o name) h ∙ among_passes (names_of d) name among in
    let here : n ≡ n + 0 = omega arith in
    subst (λ b. IsAmong (cond b (n ∷ users_of (suc n) ds name) (users_of (suc n) ds name)) (n + 0))
    (sym passes) (subst (IsAmong (n ∷ users_of (suc n) ds name)) here
    (among_first n (users_of (suc n) ds name)))
user_there n (x ∷ ds) name (suc i) d h among = by (sees x name) (user_there (suc n) ds name i d h among)
  where
    by : (b : Bool) → IsAmong (users_of (suc n) ds name) (suc n + i)
        → IsAmong (cond b (n ∷ users_of (suc n) ds name) (users_of (suc n) ds name)) (n + suc i)
    by true there =
        let same : suc n + i ≡ n + suc i = omega arith in
        among_more n (n + suc i) (users_of (suc n) ds name)
        (subst (IsAmong (users_of (suc n) ds name)) same there)
    by false there = let same : suc n + i ≡ n + suc i = omega arith in
        subst (IsAmong (users_of (suc n) ds name)) same there

-- a kept user was a user
pub kept_user : (e : TextEdit) (k : ℕ) (name : List ℕ) → IsEdit e → (u : IsKeptUser e k name)
    → IsAmong (users_of 0 e.old name) u.was
kept_user e k name is u =
    let same : 0 + u.was ≡ u.was = omega arith in
    subst (IsAmong (users_of 0 e.old name)) same
    (user_there 0 e.old name u.was u.definition (sym (definition_kept e k u.was is u.kept) ∙ u.has) u.sees)

-- ---- a name with one user at the most

-- it has no kept users where it has none
pub none_among : (users : List ℕ) → length users < 1 → (was : ℕ) → IsAmong users was → ⊥
none_among users few was among = omega (arith, few, among.1.0)

-- the first of them is one
pub first_among : (users : List ℕ) → 1 ≤ length users → IsAmong users (slice_index_or users 0 0)
first_among [] le = absurd (omega (arith, le))
first_among (x ∷ xs) le = among_first x xs

-- an item that is kept has a number after the edit
stays_somewhere : (p : ItemSplice) (k was : ℕ) → old_number p k ≡ Some was
    → IsTrue (is_some (new_number p was))
stays_somewhere p k was kept = by (nat_lt was p.at) refl (nat_lt was (p.at + p.removed)) refl
    (kept_cases p k was kept)
  where
    by : (b : Bool) → nat_lt was p.at ≡ b → (c : Bool) → nat_lt was (p.at + p.removed) ≡ c → IsKeptAs p k was
        → IsTrue (is_some (cond b (Some was) (cond c None (Some (was - p.removed + p.added)))))
    by true e c d h = refl
    by false e false d h = refl
    by false e true d (inl h) =
        let le = ltb-false was p.at e in let is = h.1 in let lt = h.0 in absurd (omega (arith, le, is, lt))
    by false e true d (inr h) =
        let lt = ltb-true was (p.at + p.removed) d in let le = h.0 in let is = h.1 in
        absurd (omega (arith, le, is, lt))

-- the one user is the kept one
pub only_kept : (p : ItemSplice) (users : List ℕ) → length users < 2 → (k was : ℕ) → IsAmong users was
    → old_number p k ≡ Some was → IsTrue (is_some (new_number p (slice_index_or users 0 0)))
only_kept p [] few k was among kept = absurd (none_among [] (omega arith) was among)
only_kept p (x ∷ []) few k was among kept = by (among_cases x was [] among)
  where
    by : (was ≡ x) ⊎ IsAmong [] was → IsTrue (is_some (new_number p x))
    by (inl same) = subst (λ y. IsTrue (is_some (new_number p y))) same (stays_somewhere p k was kept)
    by (inr among) = absurd (among_none was among)
only_kept p (x ∷ y ∷ ys) few k was among kept = absurd (omega (arith, few))
