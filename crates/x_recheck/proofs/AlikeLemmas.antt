-- What a kept item sees of names whose first declarers are alike.
use Rattle.std.specs.Prelude.{option_and_then, nat_lt}
use Rattle.std.specs.List.{IsAmong}
use Rattle.std.proofs.Common.{◌≡◌, ◌<◌, ℕ, zero, suc, ◌+◌, Bool, true, false, cond, List, [], ◌∷◌, map}
use Rattle.std.proofs.Common.{Option, Some, None, refl, sym, ap, subst, ◌∙◌, arith}
use Rattle.std.proofs.lemmas.Bool.{ltb-true, ltb-false}
use Rattle.x_trees.specs.Tree.{Definition}
use Rattle.x_trees.specs.declared.names.declared_name.NameKind.{NameKind}
use Rattle.x_trees.specs.declared.names.declared_name.NameKind.TheVariants as kinds
use Rattle.x_names.specs.Declarers.{is_beforehand, first_declarer}
use Rattle.x_names.specs.declared.names.Declarer.{Declarer}
use Rattle.x_rules.specs.Results.{KnownNames, known_or, Outcome, IsOutcome, IsResult, AreResults}
use Rattle.x_rules.specs.Results.{AreResultsFrom, result_at, view_of, view_by, meaning_at, beforehand_meaning}
use Rattle.x_rules.specs.Views.{View, Meaning, Earlier, Later, Own}
use Rattle.x_trees.specs.Seen.{names_of}
use Rattle.x_trees.proofs.AmongLemmas.{among_first, among_more}
use Rattle.x_rules.proofs.ResultLaws.{one_outcome}
use Rattle.x_uses.specs.declared.uses.ItemSplice.{ItemSplice}
use Rattle.x_recheck.specs.Editing.{TextEdit, definitions_after, IsEdit, definition_at, old_number}
use Rattle.x_recheck.specs.Editing.{old_result}
use Rattle.x_recheck.specs.inside.Deciding.{IsAlike, IsUnchanged, IsSettled}
use Rattle.x_recheck.proofs.Numbering.{same_order, definition_kept}

-- ---- views

same_test : (a b c d : ℕ) → (a < b → c < d) → (c < d → a < b) → nat_lt a b ≡ nat_lt c d
same_test a b c d to from = by (nat_lt a b) refl (nat_lt c d) refl
  where
    by : (s : Bool) → nat_lt a b ≡ s → (t : Bool) → nat_lt c d ≡ t → s ≡ t
    by true p true q = refl
    by false p false q = refl
    by true p false q =
        let lt = to (ltb-true a b p) in let le = ltb-false c d q in absurd (omega (arith, lt, le))
    by false p true q =
        let lt = from (ltb-true c d q) in let le = ltb-false a b p in absurd (omega (arith, lt, le))

abbrev seen_at : Bool → Bool → NameKind → Bool → Meaning → View
seen_at before behind kind lifted meaning =
    cond before (Earlier kind lifted meaning) (cond behind (Later kind lifted) (Own kind lifted))

-- where it is not declared earlier, a name shows no meaning
same_sight : (b b' c c' : Bool) (k k' : NameKind) (l l' : Bool) (m m' : Meaning) → b ≡ b' → c ≡ c' → k ≡ k'
    → l ≡ l' → (b' ≡ true → m ≡ m')
    → seen_at b c k l m ≡ seen_at b' c' k' l' m'
same_sight b true c c' k k' l l' m m' eb ec ek el em = λ i. seen_at (eb i) (ec i) (ek i) (el i) (em refl i)
same_sight b false c c' k k' l l' m m' eb ec ek el em = ap (λ t. seen_at t c k l m) eb
    ∙ (λ i. seen_at false (ec i) (ek i) (el i) m')

-- what a kept item sees of a name whose first declarers are alike
seen_alike : (p : ItemSplice) (r s : ℕ → Option Outcome) (was k : ℕ) (first now : Option Declarer)
    → old_number p k ≡ Some was → IsAlike p first now
    → ((o f : Declarer) → first ≡ Some o → now ≡ Some f → f.item < k → meaning_at r o ≡ meaning_at s f)
    → view_of r was first ≡ view_of s k now
seen_alike p r s was k None None kept alike means = refl
seen_alike p r s was k None (Some f) kept alike means = absurd alike
seen_alike p r s was k (Some o) None kept alike means = absurd alike
seen_alike p r s was k (Some o) (Some f) kept alike means =
    let order = same_order p o.item was f.item k kept alike.0 in
    same_sight (nat_lt o.item was) (nat_lt f.item k) (nat_lt was o.item) (nat_lt k f.item) o.kind f.kind
    o.lifted f.lifted (meaning_at r o) (meaning_at s f)
    (same_test o.item was f.item k order.before order.before')
    (same_test was o.item k f.item order.behind order.behind') alike.1 alike.2
    (λ e. means o f refl refl (ltb-true f.item k e))

-- a settled item sees its names as before
pub settled_unchanged : (e : TextEdit) (after : List (Option Outcome)) (k : ℕ) → IsSettled e after k k
    → IsUnchanged e after k
settled_unchanged e after k h = record {
  kept = h.kept;
  same = λ name u.
      ap (λ v. cond (is_beforehand name) (Earlier kinds.Constant false (beforehand_meaning name))
      (known_or (e.known name) v))
      (seen_alike e.place (result_at e.outcomes) (result_at after) u.was k (first_declarer e.old name)
      (first_declarer (definitions_after e) name) u.kept (h.alike name u) (h.means name u));
}

-- ---- results

-- each item of a list of results has its result
from_index : (known : KnownNames) (ds : List (Option Definition)) (r : ℕ → Option Outcome) (n : ℕ)
    (xs : List (Option Definition)) (os : List (Option Outcome)) → AreResultsFrom known ds r n xs os
    → (i : ℕ) → IsResult known ds r (n + i) (definition_at xs i) (result_at os i)
from_index known ds r n [] [] h i = tt
from_index known ds r n [] (o ∷ os) h i = absurd h
from_index known ds r n (x ∷ xs) [] h i = absurd h
from_index known ds r n (x ∷ xs) (o ∷ os) h zero =
    let e : n ≡ n + 0 = omega arith in subst (λ k. IsResult known ds r k x o) e h.0
from_index known ds r n (x ∷ xs) (o ∷ os) h (suc i) =
    let e : suc n + i ≡ n + suc i = omega arith in
    subst (λ k. IsResult known ds r k (definition_at xs i) (result_at os i)) e
    (from_index known ds r (suc n) xs os h.1 i)

pub result_by_index : (known : KnownNames) (ds : List (Option Definition)) (rs : List (Option Outcome))
    → AreResults known ds rs → (i : ℕ)
    → IsResult known ds (result_at rs) i (definition_at ds i) (result_at rs i)
result_by_index known ds rs h i =
    let e : 0 + i ≡ i = omega arith in
    subst (λ k. IsResult known ds (result_at rs) k (definition_at ds i) (result_at rs i)) e
    (from_index known ds (result_at rs) 0 ds rs h i)

-- an item without a definition has no result
pub no_result : (known : KnownNames) (ds : List (Option Definition)) (r : ℕ → Option Outcome) (k : ℕ)
    (o : Option Outcome) → IsResult known ds r k None o → o ≡ None
no_result known ds r k None h = refl
no_result known ds r k (Some o) h = absurd h

-- views of the same names that are the same one by one
pub same_views : (f g : List ℕ → View) (names : List (List ℕ))
    → ((name : List ℕ) → IsAmong names name → f name ≡ g name) → map f names ≡ map g names
same_views f g [] h = refl
same_views f g (n ∷ ns) h =
    let head : f n ≡ g n = h n (among_first n ns) in
    let rest : map f ns ≡ map g ns = same_views f g ns (λ name k. h name (among_more n name ns k)) in
    λ i. head i ∷ rest i

-- a definition has one result under the same views
same_result : (known : KnownNames) (ds es : List (Option Definition)) (r s : ℕ → Option Outcome) (j k : ℕ)
    (d : Definition) (o p : Option Outcome)
    → map (view_by known ds r j) (names_of d) ≡ map (view_by known es s k) (names_of d)
    → IsResult known ds r j (Some d) o → IsResult known es s k (Some d) p → o ≡ p
same_result known ds es r s j k d None p same a b = absurd a
same_result known ds es r s j k d (Some o) None same a b = absurd b
same_result known ds es r s j k d (Some o) (Some p) same a b =
    ap Some (one_outcome d (map (view_by known es s k) (names_of d)) o p
    (subst (λ vs. IsOutcome d vs o) same a) b)

-- the result of an unchanged item is the one that it had
pub unchanged_result : (e : TextEdit) (after : List (Option Outcome)) (k : ℕ) → IsEdit e
    → AreResults e.known (definitions_after e) after → IsUnchanged e after k
    → old_result e.place e.outcomes k ≡ result_at after k
unchanged_result e after k is are h = by (definition_at (definitions_after e) k) refl
  where
    now : (d : Option Definition) → definition_at (definitions_after e) k ≡ d
        → IsResult e.known (definitions_after e) (result_at after) k d (result_at after k)
    now d has = subst (λ x. IsResult e.known (definitions_after e) (result_at after) k x (result_at after k))
        has (result_by_index e.known (definitions_after e) after are k)

    before : (d : Option Definition) → definition_at (definitions_after e) k ≡ d → (was : ℕ)
        → old_number e.place k ≡ Some was
        → IsResult e.known e.old (result_at e.outcomes) was d (result_at e.outcomes was)
    before d has was kept =
        subst (λ x. IsResult e.known e.old (result_at e.outcomes) was x (result_at e.outcomes was))
        (sym (definition_kept e k was is kept) ∙ has)
        (result_by_index e.known e.old e.outcomes is.results was)

    none : definition_at (definitions_after e) k ≡ None → (n : Option ℕ) → old_number e.place k ≡ n
        → option_and_then (result_at e.outcomes) n ≡ None
    none has None kept = refl
    none has (Some was) kept = no_result e.known e.old (result_at e.outcomes) was (result_at e.outcomes was)
        (before None has was kept)

    by : (d : Option Definition) → definition_at (definitions_after e) k ≡ d
        → old_result e.place e.outcomes k ≡ result_at after k
    by None has = none has (old_number e.place k) refl
        ∙ sym (no_result e.known (definitions_after e) (result_at after) k (result_at after k) (now None has))
    by (Some d) has =
        let kept = h.kept d has in
        ap (option_and_then (result_at e.outcomes)) kept.1
        ∙ same_result e.known e.old (definitions_after e) (result_at e.outcomes) (result_at after) kept.0 k d
        (result_at e.outcomes kept.0) (result_at after k)
        (same_views (view_by e.known e.old (result_at e.outcomes) kept.0)
        (view_by e.known (definitions_after e) (result_at after) k) (names_of d)
        (λ name among. h.same name
        (record { definition = d; was = kept.0; has = has; kept = kept.1; sees = among })))
        (before (Some d) has kept.0 kept.1) (now (Some d) has)
