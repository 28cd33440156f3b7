-- Definitions and views determine what checking gives, and the definitions of a text all results.
use Rattle.std.specs.Prelude.{nat_lt, option_map, option_and_then}
use Rattle.std.specs.Option.{unwrap_or}
use Rattle.std.proofs.lemmas.Bool.Decides.{nat_tests}
use Rattle.std.proofs.Common.{◌≡◌, ℕ, suc, ◌<◌, Bool, true, false, cond, List, [], ◌∷◌, Option, Some, None}
use Rattle.std.proofs.Common.{map, drop, arith, refl, sym, ap, subst, ◌∙◌}
use Rattle.x_trees.specs.Tree.{Definition}
use Rattle.x_trees.specs.declared.names.declared_name.NameKind.TheVariants as kinds
use Rattle.x_rules.specs.Views.{View, Earlier, Own, Later, Bad, seen}
use Rattle.x_trees.specs.Seen.{names_of}
use Rattle.x_names.specs.Declarers.{is_beforehand, first_declarer}
use Rattle.x_names.specs.declared.names.Declarer.{Declarer}
use Rattle.x_rules.specs.Results.{KnownNames, known_or, Outcome, IsOutcome, IsResult, AreResultsFrom}
use Rattle.x_rules.specs.Results.{AreResults, result_at, view_of, view_by, meaning_in, meaning_at}
use Rattle.x_rules.specs.Results.{beforehand_meaning, meanings_by}
use Rattle.x_rules.proofs.FaultLists.{one_faults}
use Rattle.x_lists.proofs.ListLemmas.{get_at, drop_next}

pub one_outcome : (d : Definition) (views : List View) (a b : Outcome) → IsOutcome d views a
    → IsOutcome d views b → a ≡ b
one_outcome d views a b h k =
    let faults : a.faults ≡ b.faults =
    one_faults d (seen d views) a.faults b.faults h.are_faults k.are_faults in
    let meanings : a.meanings ≡ b.meanings = h.are_meanings ∙ ap (meanings_by d (seen d views)) faults
    ∙ sym k.are_meanings in
    λ i. record { faults = faults i; meanings = meanings i }

-- ---- results

-- what two readers of results agree on before an item
abbrev pub AgreeBefore : (ℕ → Option Outcome) → (ℕ → Option Outcome) → ℕ → Type 0
AgreeBefore r s item = (k : ℕ) → k < item → r k ≡ s k

same_view_of : (r s : ℕ → Option Outcome) (item : ℕ) (first : Option Declarer) → AgreeBefore r s item
    → view_of r item first ≡ view_of s item first
same_view_of r s item None h = refl
same_view_of r s item (Some at) h = by (nat_lt at.item item) refl
  where
    other : View
    other = cond (nat_lt item at.item) (Later at.kind at.lifted) (Own at.kind at.lifted)

    by : (b : Bool) → nat_lt at.item item ≡ b
        → cond (nat_lt at.item item) (Earlier at.kind at.lifted (meaning_at r at)) other
        ≡ cond (nat_lt at.item item) (Earlier at.kind at.lifted (meaning_at s at)) other
    by true e = let lt : at.item < item = grind (arith, nat_tests) in
        ap (λ o. cond (nat_lt at.item item)
        (Earlier at.kind at.lifted (unwrap_or (option_map (λ x. meaning_in x at.place) o) Bad)) other)
        (h at.item lt)
    by false e = ap (λ b. cond b (Earlier at.kind at.lifted (meaning_at r at)) other) e
        ∙ sym (ap (λ b. cond b (Earlier at.kind at.lifted (meaning_at s at)) other) e)

same_view : (known : KnownNames) (definitions : List (Option Definition)) (r s : ℕ → Option Outcome)
    (item : ℕ) → AgreeBefore r s item → (name : List ℕ)
    → view_by known definitions r item name ≡ view_by known definitions s item name
same_view known definitions r s item h name =
    ap (λ v. cond (is_beforehand name) (Earlier kinds.Constant false (beforehand_meaning name))
    (known_or (known name) v)) (same_view_of r s item (first_declarer definitions name) h)

pub same_views : (known : KnownNames) (definitions : List (Option Definition)) (r s : ℕ → Option Outcome)
    (item : ℕ) → AgreeBefore r s item → (names : List (List ℕ))
    → map (view_by known definitions r item) names ≡ map (view_by known definitions s item) names
same_views known definitions r s item h names =
    ap (λ f. map f names) (λ i name. same_view known definitions r s item h name i)

same_result : (known : KnownNames) (definitions : List (Option Definition)) (r s : ℕ → Option Outcome)
    (item : ℕ) (d : Option Definition) (o p : Option Outcome) → AgreeBefore r s item
    → IsResult known definitions r item d o → IsResult known definitions s item d p → o ≡ p
same_result known definitions r s item None None None h a b = refl
same_result known definitions r s item None None (Some p) h a b = absurd b
same_result known definitions r s item None (Some o) p h a b = absurd a
same_result known definitions r s item (Some d) None p h a b = absurd a
same_result known definitions r s item (Some d) (Some o) None h a b = absurd b
same_result known definitions r s item (Some d) (Some o) (Some p) h a b =
    ap Some (one_outcome d (map (view_by known definitions s item) (names_of d)) o p
    (subst (λ views. IsOutcome d views o) (same_views known definitions r s item h (names_of d)) a) b)

-- what a list has at an item where these are left
at_left : (rs : List (Option Outcome)) (item : ℕ) (o : Option Outcome) (left : List (Option Outcome))
    → drop item rs ≡ o ∷ left → result_at rs item ≡ o
at_left rs item o left h = ap (option_and_then (λ x. x)) (get_at rs item o left h)

agree_next : (r s : ℕ → Option Outcome) (item : ℕ) → AgreeBefore r s item → r item ≡ s item
    → AgreeBefore r s (suc item)
agree_next r s item h here k lt = by (nat_lt k item) refl
  where
    by : (b : Bool) → nat_lt k item ≡ b → r k ≡ s k
    by true e = h k (grind (arith, nat_tests))
    by false e = let same : k ≡ item = grind (arith, nat_tests) in ap r same ∙ here ∙ ap s (sym same)

same_left : (known : KnownNames) (definitions : List (Option Definition)) (rs ss : List (Option Outcome))
    (item : ℕ) (ds : List (Option Definition)) (os ps : List (Option Outcome))
    → AgreeBefore (result_at rs) (result_at ss) item → drop item rs ≡ os → drop item ss ≡ ps
    → AreResultsFrom known definitions (result_at rs) item ds os
    → AreResultsFrom known definitions (result_at ss) item ds ps → os ≡ ps
same_left known definitions rs ss item [] [] [] h l m a b = refl
same_left known definitions rs ss item [] [] (p ∷ ps) h l m a b = absurd b
same_left known definitions rs ss item [] (o ∷ os) ps h l m a b = absurd a
same_left known definitions rs ss item (d ∷ ds) [] ps h l m a b = absurd a
same_left known definitions rs ss item (d ∷ ds) (o ∷ os) [] h l m a b = absurd b
same_left known definitions rs ss item (d ∷ ds) (o ∷ os) (p ∷ ps) h l m a b =
    let head : o ≡ p = same_result known definitions (result_at rs) (result_at ss) item d o p h a.0 b.0 in
    let here : result_at rs item ≡ result_at ss item = at_left rs item o os l ∙ head
    ∙ sym (at_left ss item p ps m) in
    ap (λ x. x ∷ os) head ∙ ap (λ xs. p ∷ xs)
    (same_left known definitions rs ss (suc item) ds os ps
    (agree_next (result_at rs) (result_at ss) item h here) (drop_next rs item o os l)
    (drop_next ss item p ps m) a.1 b.1)

-- a text has one list of results
pub one_results : (known : KnownNames) (definitions : List (Option Definition))
    (rs ss : List (Option Outcome)) → AreResults known definitions rs
    → AreResults known definitions ss → rs ≡ ss
one_results known definitions rs ss a b =
    same_left known definitions rs ss 0 definitions rs ss (λ k lt. absurd (omega (arith, lt))) refl refl a b
