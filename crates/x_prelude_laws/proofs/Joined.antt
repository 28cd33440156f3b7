-- The results of two lists of definitions, in one list.
use Rattle.std.proofs.Common.{◌≡◌, ℕ, suc, ◌+◌, List, [], ◌∷◌, ◌++◌, length, map, Option, Some, None, false}
use Rattle.std.proofs.Common.{arith, refl, sym, ap, subst, ◌∙◌}
use Rattle.std.specs.Prelude.{option_and_then, slice_get}
use Rattle.std.specs.List.{IsAmong}
use Rattle.x_trees.specs.Tree.{Definition}
use Rattle.x_trees.specs.Seen.{names_of}
use Rattle.x_trees.proofs.AmongLemmas.{among_first, among_more}
use Rattle.x_names.specs.Declarers.{first_from, is_beforehand}
use Rattle.x_rules.specs.Results.{AreResults, AreResultsFrom, IsOutcome, IsResult, KnownNames, Outcome}
use Rattle.x_rules.specs.Results.{no_names, result_at, view_by}
use Rattle.x_rules.specs.Views.{View}
use Rattle.x_rules.proofs.HasResults.{agree_front, has_results}
use Rattle.x_rules.proofs.ResultLaws.{one_results}
use Rattle.x_compile.specs.Known.{names_known}
use Rattle.x_prelude_laws.proofs.Views.{ReadsBoth, first_views, second_views}

-- ---- items that see the same

same_names : (see saw : List ℕ → View) (names : List (List ℕ))
    → ((name : List ℕ) → IsAmong names name → see name ≡ saw name) → map see names ≡ map saw names
same_names see saw [] same = refl
same_names see saw (n ∷ ns) same =
    let first = same n (among_first n ns) in
    let rest = same_names see saw ns (λ name h. same name (among_more n name ns h)) in
    λ i. first i ∷ rest i

-- they see the same, so many items later
abbrev pub SeeAlike : (see saw : ℕ → List ℕ → View) (n item : ℕ) → List (Option Definition) → Type 0
SeeAlike see saw n item ds = (index : ℕ) (d : Definition) (name : List ℕ) → slice_get ds index ≡ Some (Some d)
    → IsAmong (names_of d) name → see (item + index) name ≡ saw (n + (item + index)) name

same_result : (known own : KnownNames) (ds es : List (Option Definition)) (read again : ℕ → Option Outcome)
    (item other : ℕ) (d : Option Definition) (o : Option Outcome)
    → ((e : Definition) (name : List ℕ) → d ≡ Some e → IsAmong (names_of e) name
    → view_by known ds read item name ≡ view_by own es again other name)
    → IsResult known ds read item d o → IsResult own es again other d o
same_result known own ds es read again item other None None same h = tt
same_result known own ds es read again item other None (Some o) same h = absurd h
same_result known own ds es read again item other (Some d) None same h = absurd h
same_result known own ds es read again item other (Some d) (Some o) same h =
    subst (λ views. IsOutcome d views o)
    (same_names (view_by known ds read item) (view_by own es again other) (names_of d)
    (λ name k. same d name refl k)) h

pub same_results : (known own : KnownNames) (all more : List (Option Definition))
    (read again : ℕ → Option Outcome) (n item : ℕ) (ds : List (Option Definition))
    (os : List (Option Outcome)) → SeeAlike (view_by known all read) (view_by own more again) n item ds
    → AreResultsFrom known all read item ds os → AreResultsFrom own more again (n + item) ds os
same_results known own all more read again n item [] [] alike h = tt
same_results known own all more read again n item [] (o ∷ os) alike h = absurd h
same_results known own all more read again n item (d ∷ ds) [] alike h = absurd h
same_results known own all more read again n item (d ∷ ds) (o ∷ os) alike h =
    let next : n + suc item ≡ suc (n + item) = omega arith in (
      same_result known own all more read again item (n + item) d o here h.0,
      subst (λ k. AreResultsFrom own more again k ds os) next
          (same_results known own all more read again n (suc item) ds os there h.1),
    )
  where
    here : (e : Definition) (name : List ℕ) → d ≡ Some e → IsAmong (names_of e) name
        → view_by known all read item name ≡ view_by own more again (n + item) name
    here e name is k =
        let at : item + 0 ≡ item = omega arith in
        subst (λ j. view_by known all read j name ≡ view_by own more again (n + j) name) at
        (alike 0 e name (ap Some is) k)

    there : SeeAlike (view_by known all read) (view_by own more again) n (suc item) ds
    there index e name is k =
        let at : item + suc index ≡ suc item + index = omega arith in
        subst (λ j. view_by known all read j name ≡ view_by own more again (n + j) name) at
        (alike (suc index) e name is k)

-- ---- one list behind another

join : (known : KnownNames) (all : List (Option Definition)) (read : ℕ → Option Outcome) (item : ℕ)
    (ds es : List (Option Definition)) (os ps : List (Option Outcome))
    → AreResultsFrom known all read item ds os → AreResultsFrom known all read (length ds + item) es ps
    → AreResultsFrom known all read item (ds ++ es) (os ++ ps)
join known all read item [] es [] ps h k =
    let at : 0 + item ≡ item = omega arith in subst (λ j. AreResultsFrom known all read j es ps) at k
join known all read item [] es (o ∷ os) ps h k = absurd h
join known all read item (d ∷ ds) es [] ps h k = absurd h
join known all read item (d ∷ ds) es (o ∷ os) ps h k =
    let at : suc (length ds) + item ≡ length ds + suc item = omega arith in (
      h.0,
      join known all read (suc item) ds es os ps h.1
          (subst (λ j. AreResultsFrom known all read j es ps) at k),
    )

as_many : (known : KnownNames) (all : List (Option Definition)) (read : ℕ → Option Outcome) (item : ℕ)
    (ds : List (Option Definition)) (os : List (Option Outcome))
    → AreResultsFrom known all read item ds os → length ds ≡ length os
as_many known all read item [] [] h = refl
as_many known all read item [] (o ∷ os) h = absurd h
as_many known all read item (d ∷ ds) [] h = absurd h
as_many known all read item (d ∷ ds) (o ∷ os) h = ap suc (as_many known all read (suc item) ds os h.1)

-- ---- readers

get_behind : {X : Type 0} (xs ys : List X) (k : ℕ) → slice_get (xs ++ ys) (length xs + k) ≡ slice_get ys k
get_behind [] ys k = let at : 0 + k ≡ k = omega arith in ap (slice_get ys) at
get_behind (x ∷ xs) ys k =
    let at : suc (length xs) + k ≡ suc (length xs + k) = omega arith in
    ap (slice_get (x ∷ (xs ++ ys))) at ∙ get_behind xs ys k

reads_both : (n : ℕ) (os ps : List (Option Outcome)) → n ≡ length os
    → ReadsBoth n (result_at (os ++ ps)) (result_at os) (result_at ps)
reads_both n os ps many = record {
  front = λ k lt. sym (agree_front os ps n many k lt);
  rear = λ k. ap (λ m. option_and_then (λ o. o) (slice_get (os ++ ps) (m + k))) many
      ∙ ap (option_and_then (λ o. o)) (get_behind os ps k);
}

-- ---- both

-- each name of the first list is declared in it, or not in the second
abbrev pub Apart : (ds es : List (Option Definition)) → Type 0
Apart ds es = (index : ℕ) (d : Definition) (name : List ℕ) → slice_get ds index ≡ Some (Some d)
    → IsAmong (names_of d) name → is_beforehand name ≡ false → first_from 0 ds name ≡ None
    → first_from 0 es name ≡ None

pub joined : (ds es : List (Option Definition)) (os ps : List (Option Outcome)) → Apart ds es
    → AreResults no_names ds os → AreResults (names_known ds (result_at os)) es ps
    → AreResults no_names (ds ++ es) (os ++ ps)
joined ds es os ps apart h k =
    join no_names (ds ++ es) (result_at (os ++ ps)) 0 ds es os ps
    (same_results no_names no_names ds (ds ++ es) (result_at os) (result_at (os ++ ps)) 0 0 ds os first h)
    (same_results (names_known ds (result_at os)) no_names es (ds ++ es) (result_at ps)
    (result_at (os ++ ps)) (length ds) 0 es ps second k)
  where
    reads : ReadsBoth (length ds) (result_at (os ++ ps)) (result_at os) (result_at ps)
    reads = reads_both (length ds) os ps (as_many no_names ds (result_at os) 0 ds os h)

    first : SeeAlike (view_by no_names ds (result_at os)) (view_by no_names (ds ++ es) (result_at (os ++ ps)))
        0 0 ds
    first index d name is among =
        let at : 0 + index ≡ index = omega arith in
        let same : 0 + index ≡ 0 + (0 + index) = omega arith in
        first_views ds es (result_at (os ++ ps)) (result_at os) (result_at ps) (0 + index) name reads
        (λ free none. apart index d name is among free none)
        ∙ ap (λ j. view_by no_names (ds ++ es) (result_at (os ++ ps)) j name) same

    second : SeeAlike (view_by (names_known ds (result_at os)) es (result_at ps))
        (view_by no_names (ds ++ es) (result_at (os ++ ps))) (length ds) 0 es
    second index d name is among =
        sym (second_views ds es (result_at (os ++ ps)) (result_at os) (result_at ps) (0 + index) name reads)

-- whatever the results of both are, they begin with those of the first
pub begins : (ds es : List (Option Definition)) (os all : List (Option Outcome)) → Apart ds es
    → AreResults no_names ds os → AreResults no_names (ds ++ es) all
    → (rest : List (Option Outcome)) × (all ≡ os ++ rest)
begins ds es os all apart h k =
    let more = has_results (names_known ds (result_at os)) es in
    (more.0, one_results no_names (ds ++ es) all (os ++ more.0) k (joined ds es os more.0 apart h more.1))
