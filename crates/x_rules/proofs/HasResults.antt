-- A definition has a list of faults and an outcome, and a text has results.
use Rattle.std.specs.Prelude.{slice_get, option_and_then}
use Rattle.std.specs.List.{flat_map}
use Rattle.std.proofs.Common.{◌≡◌, ℕ, zero, suc, ◌<◌, List, [], ◌∷◌, ◌++◌, length, Option, Some, None, map}
use Rattle.std.proofs.Common.{arith, refl, ap, subst, append_assoc}
use Rattle.std.proofs.Math.ListN.{length-append}
use Rattle.x_trees.specs.Tree.{Definition}
use Rattle.x_outline.specs.Bodies.{bodies, enumerators}
use Rattle.x_rules.specs.Constants.{knowns}
use Rattle.x_rules.specs.Found.{found_faults}
use Rattle.x_rules.specs.Results.{KnownNames, Outcome, IsOutcome, IsResult, AreResultsFrom, AreResults}
use Rattle.x_rules.specs.Results.{result_at, view_by, meanings_by}
use Rattle.x_rules.specs.Rules.{AreFaults}
use Rattle.x_rules.specs.Views.{View, seen}
use Rattle.x_trees.specs.Seen.{names_of}
use Rattle.x_rules.specs.declared.fault.WordFault.{WordFault}
use Rattle.x_rules.proofs.CaseLemmas.{bad_cases_in, found_bad_case, bad_case_found}
use Rattle.x_rules.proofs.CheckLemmas.{found_breaks, breaks_found, are_faults}
use Rattle.x_rules.proofs.FaultLists.{Ascending, ascending}
use Rattle.x_rules.proofs.ResultLaws.{AgreeBefore, same_views}

-- ---- of a definition

has_faults : (d : Definition) (see : List ℕ → View) → (fs : List WordFault) × AreFaults d see fs
has_faults d see = with_order (ascending (found_faults d see ++ bad))
  where
    bad : List WordFault
    bad = flat_map (bad_cases_in see (knowns see (enumerators d)) (found_faults d see)) (bodies d)

    with_order : Ascending (found_faults d see ++ bad) → (fs : List WordFault) × AreFaults d see fs
    with_order o = (
      o.list,
      are_faults d see (found_faults d see) bad o.list o.ascend o.from o.kept (found_breaks d see)
          (breaks_found d see)
          (λ f h. found_bad_case d see (found_faults d see) f (breaks_found d see) h)
          (λ word h. bad_case_found d see (found_faults d see) word (found_breaks d see) h),
    )

has_outcome : (d : Definition) (views : List View) → (o : Outcome) × IsOutcome d views o
has_outcome d views =
    let f = has_faults d (seen d views) in (
      record { faults = f.0; meanings = meanings_by d (seen d views) f.0 },
      record { are_faults = f.1; are_meanings = refl },
    )

-- ---- of a text

has_result : (known : KnownNames) (definitions : List (Option Definition)) (results : ℕ → Option Outcome)
    (item : ℕ) (d : Option Definition) → (o : Option Outcome) × IsResult known definitions results item d o
has_result known definitions results item None = (None, tt)
has_result known definitions results item (Some d) =
    let o = has_outcome d (map (view_by known definitions results item) (names_of d)) in (Some o.0, o.1)

-- a result stays one where the results of the items before it stay
pub stays_result : (known : KnownNames) (definitions : List (Option Definition)) (r s : ℕ → Option Outcome)
    (item : ℕ) (d : Option Definition) (o : Option Outcome) → AgreeBefore r s item
    → IsResult known definitions r item d o → IsResult known definitions s item d o
stays_result known definitions r s item None None h a = tt
stays_result known definitions r s item None (Some o) h a = absurd a
stays_result known definitions r s item (Some d) None h a = absurd a
stays_result known definitions r s item (Some d) (Some o) h a =
    subst (λ views. IsOutcome d views o) (same_views known definitions r s item h (names_of d)) a

get_front : {X : Type 0} (xs ys : List X) (k : ℕ) → k < length xs → slice_get xs k ≡ slice_get (xs ++ ys) k
get_front [] ys k lt = absurd (omega (arith, lt))
get_front (x ∷ xs) ys zero lt = refl
get_front (x ∷ xs) ys (suc k) lt = get_front xs ys k (omega (arith, lt))

-- more results leave those before them
pub agree_front : (before more : List (Option Outcome)) (item : ℕ) → item ≡ length before
    → AgreeBefore (result_at before) (result_at (before ++ more)) item
agree_front before more item is k lt =
    ap (option_and_then (λ o. o)) (get_front before more k (omega (arith, is, lt)))

-- behind the results of the items before them, items have results
results_behind : (known : KnownNames) (definitions : List (Option Definition))
    (before : List (Option Outcome)) (item : ℕ) (ds : List (Option Definition)) → item ≡ length before
    → (more : List (Option Outcome)) × AreResultsFrom known definitions (result_at (before ++ more))
    item ds more
results_behind known definitions before item [] is = ([], tt)
results_behind known definitions before item (d ∷ ds) is =
    let first = has_result known definitions (result_at before) item d in
    let o = first.0 in
    let rest = results_behind known definitions (before ++ o ∷ []) (suc item) ds
    (omega (arith, is, length-append before (o ∷ []))) in (
      o ∷ rest.0,
      (
        stays_result known definitions (result_at before) (result_at (before ++ o ∷ rest.0)) item d o
            (agree_front before (o ∷ rest.0) item is) first.1,
        subst (λ l. AreResultsFrom known definitions (result_at l) (suc item) ds rest.0)
            (append_assoc before (o ∷ []) rest.0) rest.1,
      ),
    )

-- a text has a list of results
pub has_results : (known : KnownNames) (definitions : List (Option Definition))
    → (rs : List (Option Outcome)) × AreResults known definitions rs
has_results known definitions = results_behind known definitions [] 0 definitions refl
